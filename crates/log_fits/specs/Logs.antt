-- What is known of a log that was written, whoever wrote it, and of its first lines.
use Rattle.std.specs.Prelude.{◌≡◌, ◌⊎◌, ℕ, ◌<◌, List, ◌∷◌, take, Ok, All}
use Rattle.mesh_base.specs.declared.Scale.{Scale}
use Rattle.mesh_base.specs.Mesh.{Mesh}
use Rattle.obj_text.specs.Obj.{Lists}
use Rattle.step_text.specs.declared.Placed.{Placed}
use Rattle.log_text.specs.declared.TheConstants.{VERSION, IDS_VERSION}
use Rattle.log_text.specs.declared.LogLine.{LogLine}
use Rattle.log_text.specs.declared.LogLine.TheVariants.{First}
use Rattle.log_text.specs.Lines.{text_of_lines}
use Rattle.log_read.specs.Laws.{IsInRange, NamesOnly}
use Rattle.log_read.specs.Reading.{log_of as lines_of_text}
use Rattle.log_replay.specs.Again.{LinesAreAgain}
use Rattle.log_replay.specs.Replay.{at_mesh}
use Rattle.log_run.specs.States.{without_lines}
use Rattle.outside_io.specs.World.{World}
use Rattle.track_input.specs.Job.{mesh_of_lists}
use Rattle.track_engine.specs.Answered.{Known}
use Rattle.track_engine.specs.Kept.{LogIsSafe}
use Rattle.track_engine.specs.Saved.{Target}
use Rattle.track_run.specs.declared.outcome.Outcome.{Outcome}
use Rattle.track_run.specs.Causes.{HasClear}
use Rattle.track_run.specs.Headline.{TracksCommand}
use Rattle.track_run.specs.Job.{log_of}
use Rattle.log_fits.specs.Fitting.{LinesFit}

-- The line may stand behind a first line that names this version: it is in its range, and names no
-- other version, nor tells which ids there are, unless this one does.
abbrev pub MayFollowAs : Scale → ℕ → LogLine → Type 0
MayFollowAs scale version l = IsInRange scale l × NamesOnly version l

-- A log of a mesh, by a scale: behind a first line with one of the two versions that are written each
-- line is in its range; each fits the lines before it, can be done again by the log alone, and keeps
-- its promise, so that every motion is clear at each fraction and every line leaves a mesh that is
-- sound, closed and clear.
pub record IsLogOf (scale : Scale) (m : Mesh) (lines : List LogLine) : Type 0 where
  pub version : ℕ
  pub is_written : (version ≡ VERSION) ⊎ (version ≡ IDS_VERSION)
  pub rest : List LogLine
  pub lines_are : lines ≡ First version ∷ rest
  pub range : All (MayFollowAs scale version) rest
  pub fits : LinesFit (without_lines m) lines
  pub again : LinesAreAgain (at_mesh m) lines
  pub safe : LogIsSafe (at_mesh m) lines

-- its text is read as its lines by a command of the same scale
abbrev pub LogsAreRead : Type 0
LogsAreRead = (scale : Scale) (m : Mesh) (lines : List LogLine) → IsLogOf scale m lines →
    lines_of_text scale (text_of_lines lines) ≡ Ok lines

-- Its first lines, so many of them, are such a log too. So is what a run left whose log was cut
-- where a line ends.
abbrev pub FirstPartsAreLogs : Type 0
FirstPartsAreLogs = (scale : Scale) (m : Mesh) (lines : List LogLine) (count : ℕ) → 0 < count →
    IsLogOf scale m lines → IsLogOf scale m (take count lines)

-- the log of a job that was tracked, whose files were read without a fault and whose mesh is clear
abbrev pub RunsHaveLogs : Known → Type 0
RunsHaveLogs known =
    (scale : Scale) (mesh_name step_name : List ℕ) (to : Target) (tracked : Outcome)
    (before after : World)
    → (track : TracksCommand scale known mesh_name step_name to tracked before after)
    → (lists : Lists) (directives : List Placed) → HasClear track.job lists directives
    → IsLogOf track.job.scale (mesh_of_lists track.job.scale lists) (log_of track.job track.tracks.answers).lines
