-- What the desk holds behind a replay, and of which meshes, and how a replay ends.
use Rattle.std.specs.Prelude.{◌≡◌, ℕ, List, Option, None, Result, Ok}
use Rattle.std.specs.List.{AllByRecursion}
use Rattle.mesh_base.specs.Mesh.{Mesh}
use Rattle.mesh_base.specs.Valid.{IsValidSurface}
use Rattle.obj_text.specs.Written.{mesh_text}
use Rattle.log_text.specs.declared.LogLine.{LogLine}
use Rattle.log_replay.specs.Replay.{Replay, at_mesh}
use Rattle.outside_io.specs.World.{World}
use Rattle.track_input.specs.Words.{ReplayNames}
use Rattle.track_log.specs.declared.refusal.LogRefusal.{LogRefusal}
use Rattle.track_log.specs.LogJob.{LogJob, IsLogJob, LogInput, input_of}
use Rattle.track_log.specs.Taking.{FitsTested}
use Rattle.track_log.specs.Ending.{EndsBy}
use Rattle.track_engine.specs.Saved.{Target, files_of, stored}
use Rattle.track_replay.specs.Wanted.{wanted_of}
use Rattle.track_replay.specs.Headline.{Replays, target_in, texts_stored}

-- the desk holds what it held, and each file that the lines of the log name, as a run
-- stores it that writes these lines
pub record HoldsAllMeshes (names : ReplayNames) (old new : World) : Type 0 where
  pub job : LogJob
  pub is_job : IsLogJob old.holds.files names.names job
  pub input : LogInput
  pub is_input : input_of job ≡ Ok input
  pub files : new.holds.files
      ≡ stored (files_of (target_in names) (at_mesh input.mesh) input.lines) old.holds.files

-- the file has the text of a mesh that is sound, closed and clear
pub record IsOfValidMesh (decimals : ℕ) (file : List ℕ × List ℕ) : Type 0 where
  pub mesh : Mesh
  pub valid : IsValidSurface mesh
  pub text : file.1 ≡ mesh_text decimals mesh

-- a replay of what was given has no two endings
abbrev pub HasNoTwoEndings : Type 0
HasNoTwoEndings = (input : Result LogInput LogRefusal) (one other : Option LogRefusal) →
    EndsBy FitsTested input one → EndsBy FitsTested input other → one ≡ other

-- it is not so that a replay of what was given has no ending
abbrev pub HasNotNoEnding : Type 0
HasNotNoEnding = (input : Result LogInput LogRefusal) →
    ((ending : Option LogRefusal) → ¬ EndsBy FitsTested input ending) → ⊥

-- where no number is given, all files are wanted that the lines of a log name
abbrev pub WantsAllFiles : Type 0
WantsAllFiles = (to : Target) (r : Replay) (lines : List LogLine) →
    wanted_of None to r lines ≡ files_of to r lines

-- where no number is given, the desk holds all meshes of a log that is replayed to its end
abbrev pub StoresAllMeshes : Type 0
StoresAllMeshes = (names : ReplayNames) (old new : World) → names.only ≡ None →
    Replays names (Ok None) old new → HoldsAllMeshes names old new

-- the mesh of each file that a replay stores is sound, closed and clear
abbrev pub StoresValidMeshes : Type 0
StoresValidMeshes = (only : Option ℕ) (to : Target) (job : LogJob) (ending : Option LogRefusal) →
    EndsBy FitsTested (input_of job) ending →
    AllByRecursion (IsOfValidMesh to.decimals) (texts_stored only to (input_of job) ending)
