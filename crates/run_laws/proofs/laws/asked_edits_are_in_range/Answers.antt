use Rattle.run_laws.proofs.PassLines.{edits_in_range}
use Rattle.run_laws.proofs.laws.asked_edits_are_in_range.Goals as goal

pub returns : goal.returns
returns c = edits_in_range
