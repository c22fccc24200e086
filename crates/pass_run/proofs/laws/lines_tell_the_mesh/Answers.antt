use Rattle.pass_run.proofs.Asking.{pass_makes}
use Rattle.pass_run.proofs.laws.lines_tell_the_mesh.Goals as goal

pub returns : goal.returns
returns c = pass_makes
