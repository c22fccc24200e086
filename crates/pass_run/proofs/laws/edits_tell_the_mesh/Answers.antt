use Rattle.pass_run.proofs.Edited.{edits_tell}
use Rattle.pass_run.proofs.laws.edits_tell_the_mesh.Goals as goal

pub returns : goal.returns
returns c = edits_tell
