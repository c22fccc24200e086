use Rattle.step_choose.specs.Choice.{halved_shift}
use Rattle.mesh_base.proofs.ListLaws.{mapped_more}
use Rattle.step_choose.proofs.Listing.{halved_as}
use Rattle.step_choose.proofs.halved_shifts.halved_times.Goals as goal

pub loop-s-preserved : goal.loop-s-preserved
loop-s-preserved c = mapped_more (λ s. halved_shift c.args.times s) c.args.asked.now c.loop-s.s-index c.s-item.result c.loop-s.shifts c.push.new.self _ _ c.loop-s-test.true c.s-item.is c.in_ok-push.ensures.ok (halved_as c.args.times c.halved.result c.s-item.result c.halved.ensures) c.loop-s.invariant
