use Rattle.pass_run.proofs.Keeping.{passes_keep}
use Rattle.pass_run.proofs.laws.passes_keep_the_mesh.Goals as goal

pub returns : goal.returns
returns c = passes_keep
