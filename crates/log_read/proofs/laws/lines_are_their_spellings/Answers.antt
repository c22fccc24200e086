use Rattle.log_read.proofs.LogLaws.{lines_are_their_spellings_lem}
use Rattle.log_read.proofs.laws.lines_are_their_spellings.Goals as goal

pub returns : goal.returns
returns c = lines_are_their_spellings_lem
