use Rattle.edit_scaffold.proofs.Agreeing.{scaffold_agrees}
use Rattle.edit_scaffold.proofs.laws.scaffolds_agree.Goals as goal

pub returns : goal.returns
returns c = scaffold_agrees
