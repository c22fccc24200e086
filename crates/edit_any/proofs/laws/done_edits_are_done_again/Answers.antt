use Rattle.edit_any.proofs.Answered.{edits_stay_done, changes_tell_the_edit}
use Rattle.edit_any.proofs.laws.done_edits_are_done_again.Goals as goal

pub returns : goal.returns
returns c = record { deeper = edits_stay_done; by_change = changes_tell_the_edit }
