use Rattle.mesh_base.proofs.ListLaws.{mapped_more}
use Rattle.track_engine.specs.Effects.{summed_unless_solid}
use Rattle.track_engine.proofs.ShiftLemmas.{beyond_later, beyond_here}
use Rattle.track_engine.proofs.shift_sums.all_summed.Goals as goal

pub loop-s-preserved : goal.loop-s-preserved
loop-s-preserved g c =
    let m = g.S.Surface.mesh c.args.mesh.now in
    record {
      sums = mapped_more (summed_unless_solid m (λ v. c.args.by)) c.args.asked.now c.loop-s.s-index c.s-item.result c.loop-s.shifts c.push.new.self _ _ c.loop-s-test.true c.s-item.is c.in_ok-push-in-Some.ensures.ok c.in-Some.ensures.1 c.loop-s.invariant.sums;
      beyond = beyond_later m (λ v. c.args.by) c.args.asked.now c.loop-s.s-index c.s-item.result _ c.loop-s-test.true c.s-item.is c.in-Some.ensures.0 c.loop-s.invariant.beyond;
    }

pub returns-in-None : goal.returns-in-None
returns-in-None g c = beyond_here (g.S.Surface.mesh c.args.mesh.now) (λ v. c.args.by) c.args.asked.now c.loop-s.s-index c.s-item.result _ c.loop-s-test.true c.s-item.is c.in-None.ensures c.loop-s.invariant.beyond
