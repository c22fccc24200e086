use Rattle.edit_check.proofs.Untouched.{untouched_is_as_required}
use Rattle.edit_check.proofs.laws.untouched_pairs_are_as_required.Goals as goal

pub returns : goal.returns
returns c = untouched_is_as_required
