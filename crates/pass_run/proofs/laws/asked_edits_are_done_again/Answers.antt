use Rattle.pass_run.proofs.Edited.{edits_again}
use Rattle.pass_run.proofs.laws.asked_edits_are_done_again.Goals as goal

pub returns : goal.returns
returns c = edits_again
