use Rattle.log_read.proofs.LogLaws.{logs_are_their_lines_lem}
use Rattle.log_read.proofs.laws.logs_are_their_lines.Goals as goal

pub returns : goal.returns
returns c = logs_are_their_lines_lem
