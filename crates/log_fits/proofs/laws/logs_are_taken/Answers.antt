use Rattle.log_fits.proofs.Taken.{logs_are_measured, logs_are_replayed, logs_are_proved, proofs_are_verified}
use Rattle.log_fits.proofs.laws.logs_are_taken.Goals as goal

pub returns : goal.returns
returns c = record {
  measured = logs_are_measured;
  replayed = logs_are_replayed;
  proved = logs_are_proved;
  verified = proofs_are_verified;
}
