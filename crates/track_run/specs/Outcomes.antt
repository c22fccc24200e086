-- The outcome of a run, by how it ended.
use Rattle.std.specs.Prelude.{Option, Some, None, Result, Ok, Err}
use Rattle.log_text.specs.declared.Refusal.{Refusal}
use Rattle.log_text.specs.declared.Refusal.TheVariants as refusal
use Rattle.outside_io.specs.declared.stop.Stop.{Stop}
use Rattle.outside_io.specs.declared.stop.Stop.TheVariants.{NoMemory, DeskFault, SinkFault}
use Rattle.track_log.specs.declared.LogRefusal.{LogRefusal}
use Rattle.track_log.specs.declared.LogRefusal.TheVariants as log
use Rattle.track_run.specs.declared.outcome.Outcome.{Outcome}
use Rattle.track_run.specs.declared.outcome.Outcome.TheVariants as outcome

-- the outcome that the last line of a whole log tells
abbrev pub outcome_of : Option Refusal → Outcome
outcome_of None = outcome.Done
outcome_of (Some (refusal.Long file seen)) = outcome.TooLong file seen
outcome_of (Some (refusal.Missing file)) = outcome.Missing file
outcome_of (Some (refusal.Mesh fault)) = outcome.MeshText fault
outcome_of (Some (refusal.Shape fault)) = outcome.MeshShape fault
outcome_of (Some (refusal.Meets pair)) = outcome.MeshMeets pair
outcome_of (Some (refusal.Steps fault)) = outcome.StepText fault
outcome_of (Some (refusal.StepUse line why)) = outcome.StepUse line why

-- the outcome of a stop before the end
abbrev pub outcome_at : Stop → Outcome
outcome_at NoMemory = outcome.NoMemory
outcome_at DeskFault = outcome.DeskFault
outcome_at SinkFault = outcome.SinkFault

-- how a run of a job or a conversion ended: with its last line, or stopped before that
abbrev pub outcome_from : Result (Option Refusal) Stop → Outcome
outcome_from (Ok ending) = outcome_of ending
outcome_from (Err stop) = outcome_at stop

-- how a try ended: with its whole summary, or stopped before its end
abbrev pub outcome_of_try : Result (Unit {0}) Stop → Outcome
outcome_of_try (Ok done) = outcome.Done
outcome_of_try (Err stop) = outcome_at stop

-- the outcome that the last line of a command tells that reads a log
abbrev pub outcome_of_log : Option LogRefusal → Outcome
outcome_of_log None = outcome.Done
outcome_of_log (Some (log.Input why)) = outcome_of (Some why)
outcome_of_log (Some (log.Log fault)) = outcome.LogText fault
outcome_of_log (Some (log.Proof fault)) = outcome.ProofText fault
outcome_of_log (Some (log.Replay line)) = outcome.LogUse line
outcome_of_log (Some (log.Motion line verdict)) = outcome.ProofBad line verdict

-- how such a command ended: with its last line, or stopped before that
abbrev pub outcome_by_log : Result (Option LogRefusal) Stop → Outcome
outcome_by_log (Ok ending) = outcome_of_log ending
outcome_by_log (Err stop) = outcome_at stop
