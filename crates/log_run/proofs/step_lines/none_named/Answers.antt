use Rattle.log_run.proofs.Still.{unnamed_more}
use Rattle.log_run.proofs.step_lines.none_named.Goals as goal

pub loop-v-preserved : goal.loop-v-preserved
loop-v-preserved c = unnamed_more c.args.ids.now c.loop-v._v-index c.loop-v.named c.push.new.self _ c.loop-v-test.true c.in_ok-push.ensures.ok c.loop-v.invariant
