-- Logs of runs, measured.
use Rattle.std.specs.Prelude.{◌≡◌, ◌⊎◌, ℕ, List}
use Rattle.mesh_base.specs.declared.Scale.{Scale}
use Rattle.std.specs.FinMap as finite
use Rattle.obj_text.specs.Obj.{Lists}
use Rattle.step_text.specs.declared.Placed.{Placed}
use Rattle.log_text.specs.declared.LogLine.TheVariants.{Mesh as MeshLine}
use Rattle.log_text.specs.Lines.{text_of_lines}
use Rattle.log_run.specs.States.{LogState}
use Rattle.log_run.specs.Fits.{LineFits}
use Rattle.outside_io.specs.World.{World}
use Rattle.track_input.specs.Source.{Bytes}
use Rattle.track_input.specs.Words.{LogNames}
use Rattle.track_input.specs.Job.{Job}
use Rattle.track_log.specs.LogJob.{LogJob}
use Rattle.track_engine.specs.Answers.{Answers}
use Rattle.track_engine.specs.Answered.{Known}
use Rattle.track_engine.specs.Saved.{Target}
use Rattle.track_run.specs.declared.outcome.Outcome.{Outcome}
use Rattle.track_run.specs.declared.outcome.Outcome.TheVariants.{Done, NoMemory}
use Rattle.track_run.specs.Causes.{HasClear}
use Rattle.track_run.specs.Complete.{NoneFailed}
use Rattle.track_run.specs.Headline.{TracksCommand, MeasuresCommand}
use Rattle.track_run.specs.Job.{log_of}

-- The same mesh file, scale and decimals, and as the log the text of the whole log of the job, by
-- what fields and the sizing answered.
pub record IsWithLogOf (job : Job) (answers : Answers) (read : LogJob) : Type 0 where
  pub mesh : read.mesh_file ≡ job.mesh_file
  pub scale : read.scale ≡ job.scale
  pub decimals : read.decimals ≡ job.decimals
  pub log : read.log_file ≡ Bytes (text_of_lines (log_of job answers).lines)

-- Where a job was tracked whose files were read without a fault and whose mesh is clear, its log is
-- measured to the end, or there is no memory, unless a side fails.
abbrev pub LogsOfRunsAreMeasured : Known → Type 0
LogsOfRunsAreMeasured known =
    (scale : Scale) (mesh_name step_name : List ℕ) (to : Target) (tracked : Outcome)
    (before after : World)
    → (track : TracksCommand scale known mesh_name step_name to tracked before after)
    → (lists : Lists) (directives : List Placed) → HasClear track.job lists directives
    → (names : LogNames) (result : Outcome) (old new : World)
    → (run : MeasuresCommand names result old new)
    → IsWithLogOf track.job track.tracks.answers run.measures.job → NoneFailed old new
    → (result ≡ Done) ⊎ (result ≡ NoMemory)

-- a `mesh` line that fits tells how many vertices and faces the mesh has there
abbrev pub MeshLinesTell : Type 0
MeshLinesTell = (s : LogState) (k vertices faces : ℕ) → LineFits s (MeshLine k vertices faces)
    → (vertices ≡ finite.len s.replay.mesh.points) × (faces ≡ finite.len s.replay.mesh.faces)
