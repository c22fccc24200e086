-- A log that was written, taken by the commands that read one.
use Rattle.std.specs.Prelude.{◌≡◌, ◌⊎◌, ℕ, List, length, None, Ok}
use Rattle.mesh_base.specs.declared.Scale.{Scale}
use Rattle.mesh_shape.specs.Shape.{shape_fault}
use Rattle.obj_text.specs.Obj.{Lists, lists_of}
use Rattle.log_text.specs.declared.LogLine.{LogLine}
use Rattle.log_text.specs.Lines.{text_of_lines}
use Rattle.outside_io.specs.World.{World}
use Rattle.track_input.specs.Job.{mesh_of_lists, met_first}
use Rattle.track_input.specs.Source.{Bytes}
use Rattle.track_input.specs.Words.{LogNames, ProofNames, ReplayNames}
use Rattle.track_log.specs.LogJob.{LogJob, LogInput}
use Rattle.track_prove.specs.Proving.{IsProofText}
use Rattle.track_run.specs.declared.outcome.Outcome.{Outcome}
use Rattle.track_run.specs.declared.outcome.Outcome.TheVariants.{Done, NoMemory}
use Rattle.track_run.specs.Complete.{NoneFailed}
use Rattle.track_run.specs.Headline.{MeasuresCommand, ProvesCommand, VerifiesCommand, ReplaysCommand}
use Rattle.log_fits.specs.Logs.{IsLogOf}

-- of the mesh file lists are read that have no fault, and whose mesh is clear
pub record IsMeshOf (read : LogJob) (lists : Lists) : Type 0 where
  pub bytes : List ℕ
  pub mesh_file : read.mesh_file ≡ Bytes bytes
  pub lists_are : lists_of read.decimals bytes ≡ Ok lists
  pub shape : shape_fault read.scale (length lists.points) lists.faces ≡ None
  pub none_meets : met_first (mesh_of_lists read.scale lists) ≡ None

-- and the other file is the text of a log of this mesh
pub record IsOfLog (read : LogJob) (lists : Lists) (lines : List LogLine) : Type 0 where
  pub mesh : IsMeshOf read lists
  pub log : IsLogOf read.scale (mesh_of_lists read.scale lists) lines
  pub log_file : read.log_file ≡ Bytes (text_of_lines lines)

-- It is measured to its end, or there is no memory, where neither side fails.
abbrev pub LogsAreMeasured : Type 0
LogsAreMeasured = (lists : Lists) (lines : List LogLine) (names : LogNames) (result : Outcome)
    (old new : World) → (run : MeasuresCommand names result old new)
    → IsOfLog run.measures.job lists lines → NoneFailed old new
    → (result ≡ Done) ⊎ (result ≡ NoMemory)

-- It is replayed.
abbrev pub LogsAreReplayed : Type 0
LogsAreReplayed = (lists : Lists) (lines : List LogLine) (names : ReplayNames) (result : Outcome)
    (old new : World) → (run : ReplaysCommand names result old new)
    → IsOfLog run.replays.job lists lines → NoneFailed old new
    → (result ≡ Done) ⊎ (result ≡ NoMemory)

-- It is proved.
abbrev pub LogsAreProved : Type 0
LogsAreProved = (lists : Lists) (lines : List LogLine) (names : LogNames) (result : Outcome)
    (old new : World) → (run : ProvesCommand names result old new)
    → IsOfLog run.proves.job lists lines → NoneFailed old new
    → (result ≡ Done) ⊎ (result ≡ NoMemory)

-- what the commands of a scale take of such files
abbrev pub input_of_lines : Scale → Lists → List LogLine → LogInput
input_of_lines scale lists lines = record { mesh = mesh_of_lists scale lists; lines = lines }

-- And a proof of it, as `prove` writes it, is verified.
abbrev pub ProofsAreVerified : Type 0
ProofsAreVerified = (lists : Lists) (lines : List LogLine) (text : List ℕ)
    (names : ProofNames) (result : Outcome) (old new : World)
    → (run : VerifiesCommand names result old new)
    → IsProofText (input_of_lines run.verifies.job.log.scale lists lines) text
    → IsOfLog run.verifies.job.log lists lines → run.verifies.job.proof_file ≡ Bytes text
    → NoneFailed old new
    → (result ≡ Done) ⊎ (result ≡ NoMemory)
