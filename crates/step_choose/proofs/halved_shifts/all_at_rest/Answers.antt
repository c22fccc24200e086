use Rattle.step_choose.specs.Choice.{at_rest}
use Rattle.mesh_base.proofs.ListLaws.{mapped_more}
use Rattle.step_choose.proofs.Listing.{still}
use Rattle.step_choose.proofs.halved_shifts.all_at_rest.Goals as goal

pub loop-s-preserved : goal.loop-s-preserved
loop-s-preserved c = mapped_more at_rest c.args.asked.now c.loop-s.s-index c.s-item.result c.loop-s.shifts c.push.new.self _ _ c.loop-s-test.true c.s-item.is c.in_ok-push.ensures.ok (still c.s-item.result _) c.loop-s.invariant
