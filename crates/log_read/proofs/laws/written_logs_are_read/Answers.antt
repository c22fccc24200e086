use Rattle.log_read.proofs.LogLaws.{written_logs_are_read_lem, numbered_logs_are_read_lem}
use Rattle.log_read.proofs.laws.written_logs_are_read.Goals as goal

pub returns-clause-latest : goal.returns-clause-latest
returns-clause-latest c = written_logs_are_read_lem

pub returns-clause-numbered : goal.returns-clause-numbered
returns-clause-numbered c = numbered_logs_are_read_lem
