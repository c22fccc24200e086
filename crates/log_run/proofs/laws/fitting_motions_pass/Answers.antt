use Rattle.log_run.proofs.MotionLaws.{fitting_passes}
use Rattle.log_run.proofs.laws.fitting_motions_pass.Goals as goal

pub returns : goal.returns
returns c = fitting_passes
