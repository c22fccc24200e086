use Rattle.edit_scaffold.proofs.Agreeing.{scaffold_is_clear}
use Rattle.edit_scaffold.proofs.laws.scaffolds_are_clear_where_untouched.Goals as goal

pub returns : goal.returns
returns c = scaffold_is_clear
