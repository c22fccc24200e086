use Rattle.std.proofs.Common.{refl}
use Rattle.mesh_base.proofs.MarksHold.{begins_itself, begins_along}
use Rattle.track_engine.proofs.PlaceLemmas.{can_later, made_later}
use Rattle.track_engine.proofs.placement.place_all.Goals as goal

pub loop-s-init : goal.loop-s-init
loop-s-init g c = record { can = c.requires; made = refl; marks = begins_itself _ }

pub loop-s-preserved : goal.loop-s-preserved
loop-s-preserved g c = record {
  can = can_later _ _ c.args.asked.now c.loop-s.s-index c.s-item.result c.loop-s-test.true c.s-item.is c.in_ok-place_one.ensures.moved c.loop-s.invariant.can;
  made = made_later _ _ c.args.asked.now c.loop-s.s-index c.s-item.result c.loop-s-test.true c.s-item.is c.in_ok-place_one.ensures.moved _ c.loop-s.invariant.made;
  marks = begins_along _ _ _ c.in_ok-place_one.ensures.marks c.loop-s.invariant.marks;
}

pub returns-in_err-place_one-clause-marks : goal.returns-in_err-place_one-clause-marks
returns-in_err-place_one-clause-marks g c = begins_along _ _ _ c.in_err-place_one.ensures.marks c.loop-s.invariant.marks
