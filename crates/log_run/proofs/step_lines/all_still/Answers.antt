use Rattle.mesh_base.proofs.ListLaws.{mapped_more}
use Rattle.log_run.specs.Steps.{still_at}
use Rattle.log_run.proofs.Still.{at_rest}
use Rattle.log_run.proofs.step_lines.all_still.Goals as goal

pub loop-v-preserved : goal.loop-v-preserved
loop-v-preserved c = mapped_more still_at c.args.ids.now c.loop-v.v-index c.v-item.result c.loop-v.shifts c.push.new.self _ _ c.loop-v-test.true c.v-item.is c.in_ok-push.ensures.ok (at_rest c.v-item.result _) c.loop-v.invariant
