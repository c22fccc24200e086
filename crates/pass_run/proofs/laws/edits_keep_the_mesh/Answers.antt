use Rattle.pass_run.proofs.Edited.{edits_keep}
use Rattle.pass_run.proofs.laws.edits_keep_the_mesh.Goals as goal

pub returns : goal.returns
returns c = edits_keep
