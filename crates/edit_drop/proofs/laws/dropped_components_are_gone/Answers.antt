use Rattle.edit_drop.proofs.Again.{none_is_left, done_again}
use Rattle.edit_drop.proofs.laws.dropped_components_are_gone.Goals as goal

pub returns-clause-gone : goal.returns-clause-gone
returns-clause-gone c = none_is_left

pub returns-clause-again : goal.returns-clause-again
returns-clause-again c = done_again
