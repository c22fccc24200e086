use Rattle.pass_run.proofs.Again.{passes_again}
use Rattle.pass_run.proofs.laws.edits_of_passes_are_done_again.Goals as goal

pub returns : goal.returns
returns c = passes_again
