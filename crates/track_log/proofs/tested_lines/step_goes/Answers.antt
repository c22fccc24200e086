use Rattle.track_log.proofs.TestedSteps.{goes_answer}
use Rattle.track_log.proofs.tested_lines.step_goes.Goals as goal

pub returns-in-Moved : goal.returns-in-Moved
returns-in-Moved c = goes_answer c.args.run.now c.args.line.now c.in-Moved.field-0 c.step_passes.result c.in-Moved.is c.step_passes.ensures
