-- Logs of runs, proved, and the proofs of them, verified.
use Rattle.std.specs.Prelude.{◌≡◌, ◌⊎◌, ℕ, List}
use Rattle.mesh_base.specs.declared.Scale.{Scale}
use Rattle.obj_text.specs.Obj.{Lists}
use Rattle.step_text.specs.declared.Placed.{Placed}
use Rattle.outside_io.specs.World.{World}
use Rattle.track_input.specs.Source.{Bytes}
use Rattle.track_input.specs.Words.{LogNames, ProofNames}
use Rattle.track_input.specs.Job.{Job, mesh_of_lists}
use Rattle.track_log.specs.LogJob.{LogInput}
use Rattle.track_prove.specs.Proving.{IsProofText}
use Rattle.track_engine.specs.Answers.{Answers}
use Rattle.track_engine.specs.Answered.{Known}
use Rattle.track_engine.specs.Saved.{Target}
use Rattle.track_run.specs.declared.outcome.Outcome.{Outcome}
use Rattle.track_run.specs.declared.outcome.Outcome.TheVariants.{Done, NoMemory}
use Rattle.track_run.specs.Causes.{HasClear}
use Rattle.track_run.specs.Complete.{NoneFailed}
use Rattle.track_run.specs.Headline.{TracksCommand, ProvesCommand, VerifiesCommand}
use Rattle.track_run.specs.Job.{log_of}
use Rattle.log_fits.specs.Measured.{IsWithLogOf}

-- Where a job was tracked whose files were read without a fault and whose mesh is clear, its log is
-- proved, or there is no memory, unless a side fails.
abbrev pub LogsOfRunsAreProved : Known → Type 0
LogsOfRunsAreProved known =
    (scale : Scale) (mesh_name step_name : List ℕ) (to : Target) (tracked : Outcome)
    (before after : World)
    → (track : TracksCommand scale known mesh_name step_name to tracked before after)
    → (lists : Lists) (directives : List Placed) → HasClear track.job lists directives
    → (names : LogNames) (result : Outcome) (old new : World)
    → (run : ProvesCommand names result old new)
    → IsWithLogOf track.job track.tracks.answers run.proves.job → NoneFailed old new
    → (result ≡ Done) ⊎ (result ≡ NoMemory)

-- the mesh and the log of a job of which these lists are read, by
-- what fields and the sizing answered
abbrev pub log_input_of : Job → Answers → Lists → LogInput
log_input_of job answers lists =
    record { mesh = mesh_of_lists job.scale lists; lines = (log_of job answers).lines }

-- Then a proof of the log, as `prove` writes it, is verified, or there
-- is no memory, unless a side fails.
abbrev pub ProofsOfRunsAreVerified : Known → Type 0
ProofsOfRunsAreVerified known =
    (scale : Scale) (mesh_name step_name : List ℕ) (to : Target) (tracked : Outcome)
    (before after : World)
    → (track : TracksCommand scale known mesh_name step_name to tracked before after)
    → (lists : Lists) (directives : List Placed) → HasClear track.job lists directives
    → (text : List ℕ) → IsProofText (log_input_of track.job track.tracks.answers lists) text
    → (names : ProofNames) (result : Outcome) (old new : World)
    → (run : VerifiesCommand names result old new)
    → IsWithLogOf track.job track.tracks.answers run.verifies.job.log
    → run.verifies.job.proof_file ≡ Bytes text → NoneFailed old new
    → (result ≡ Done) ⊎ (result ≡ NoMemory)
