use Rattle.log_fits.proofs.Logs.{logs_are_read, first_parts_are_logs}
use Rattle.log_fits.proofs.laws.first_parts_are_logs.Goals as goal

pub returns : goal.returns
returns c = record { read = logs_are_read; parts = first_parts_are_logs }
