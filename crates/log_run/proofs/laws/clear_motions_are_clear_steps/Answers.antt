use Rattle.log_run.proofs.MotionLaws.{clear_steps}
use Rattle.log_run.proofs.laws.clear_motions_are_clear_steps.Goals as goal

pub returns : goal.returns
returns c = clear_steps
