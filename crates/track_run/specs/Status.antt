-- The exit status of each outcome.
use Rattle.std.specs.Prelude.{ℕ}
use Rattle.track_run.specs.declared.outcome.Outcome.{Outcome}
use Rattle.track_run.specs.declared.outcome.Outcome.TheVariants as outcome

-- the exit status, from 0 to 15
abbrev pub status_of : Outcome → ℕ
status_of outcome.Done = 0
status_of outcome.NoMemory = 1
status_of outcome.Usage = 2
status_of outcome.DeskFault = 3
status_of outcome.SinkFault = 4
status_of (outcome.TooLong file seen) = 5
status_of (outcome.MeshText fault) = 6
status_of (outcome.MeshShape fault) = 7
status_of (outcome.MeshMeets pair) = 8
status_of (outcome.StepText fault) = 9
status_of (outcome.StepUse line why) = 10
status_of (outcome.Missing file) = 11
status_of (outcome.LogText fault) = 12
status_of (outcome.LogUse line) = 13
status_of (outcome.ProofText fault) = 14
status_of (outcome.ProofBad line verdict) = 15
