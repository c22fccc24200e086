use Rattle.pass_run.proofs.Edited.{edits_are_told}
use Rattle.pass_run.proofs.laws.edits_have_their_lines.Goals as goal

pub returns : goal.returns
returns c = edits_are_told
