use Rattle.log_fits.proofs.Histories.{callers_have_logs, callers_are_told}
use Rattle.log_fits.proofs.laws.callers_have_logs.Goals as goal

pub returns : goal.returns
returns c = record { logs = callers_have_logs; told = callers_are_told }
