use Rattle.edit_base.proofs.Chains.{classes_are_linked}
use Rattle.edit_base.proofs.laws.classes_are_linked.Goals as goal

pub returns : goal.returns
returns c = classes_are_linked
