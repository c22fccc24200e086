-- What is answered where a mesh and a log are fetched and read.
use Rattle.std.specs.Prelude.{◌≡◌, ◌<◌, ◌^◌, ℕ, List, length, Option, Result, Ok, Err}
use Rattle.mesh_base.specs.declared.MeshLists.{MeshLists}
use Rattle.mesh_base.specs.declared.Scale.{Scale}
use Rattle.mesh_base.specs.Valid.{IsValidSurface}
use Rattle.mesh_journal.specs.Journal.{mesh_in}
use Rattle.obj_text.specs.Obj.{lists_of}
use Rattle.obj_text.specs.Views.{lists_view}
use Rattle.log_text.specs.declared.LogLine.{LogLine}
use Rattle.log_read.specs.Reading.{log_of}
use Rattle.outside_io.specs.Desk.{Files}
use Rattle.track_input.specs.declared.LogFiles.{LogFiles}
use Rattle.track_input.specs.Named.{log_names}
use Rattle.track_input.specs.Words.{LogNames}
use Rattle.track_input.specs.Job.{met_first}
use Rattle.track_input.specs.Reading.{given, AreGood}
use Rattle.track_log.specs.declared.refusal.LogRefusal.{LogRefusal}
use Rattle.track_log.specs.declared.inputs.Texts.{Texts}
use Rattle.track_log.specs.declared.inputs.Texts.TheVariants as texts
use Rattle.track_log.specs.declared.inputs.PreparedLog.{PreparedLog}
use Rattle.track_log.specs.declared.inputs.PreparedLog.TheVariants as prepared
use Rattle.track_log.specs.LogJob.{LogJob, IsLogJob, TextsRead, LogInput, read_of_log}
use Rattle.track_log.specs.LogJob.{read_of_lists, input_of_test, input_of_read, input_of}

-- what was read, as a job gives it
abbrev pub read_by : Texts → Result TextsRead LogRefusal
read_by (texts.No why) = Err why
read_by (texts.Yes lists lines) = Ok (record { lists = lists_view lists; lines = lines })

-- the lists are of good shape, and the lines are few
abbrev pub AreTextsGood : Scale → Texts → Type 0
AreTextsGood scale (texts.No why) = Unit {0}
AreTextsGood scale (texts.Yes lists lines) = AreGood scale lists × (length lines < 2 ^ 31)

-- what the text of a log gives behind lists
pub record ReadsLines (scale : Scale) (lists : MeshLists) (log : List ℕ)
    (found : Texts) : Type 0 where
  pub texts : read_of_log (lists_view lists) (log_of scale log) ≡ read_by found
  pub good : AreTextsGood scale found

-- what two texts give
pub record ReadsTexts (scale : Scale) (decimals : ℕ) (mesh log : List ℕ)
    (found : Texts) : Type 0 where
  pub texts : read_of_lists scale (lists_of decimals mesh) log ≡ read_by found
  pub good : AreTextsGood scale found

-- what was prepared, as a job gives it
abbrev pub input_by : PreparedLog → Result LogInput LogRefusal
input_by (prepared.No why) = Err why
input_by (prepared.Yes mesh lines) = Ok (record { mesh = mesh_in mesh; lines = lines })

-- the mesh is sound, closed and clear, and the lines are few
abbrev pub IsPrepared : PreparedLog → Type 0
IsPrepared (prepared.No why) = Unit {0}
IsPrepared (prepared.Yes mesh lines) = IsValidSurface (mesh_in mesh) × (length lines < 2 ^ 31)

-- what the test of the mesh of lists gives
pub record Tests (scale : Scale) (lists : MeshLists) (lines : List LogLine)
    (found : PreparedLog) : Type 0 where
  pub input :
      input_of_test (given scale lists) (met_first (given scale lists)) lines ≡ input_by found
  pub ready : length lines < 2 ^ 31 → IsPrepared found

-- what two texts give, the mesh tested
pub record ReadsAndTests (scale : Scale) (decimals : ℕ) (mesh log : List ℕ)
    (found : PreparedLog) : Type 0 where
  pub input :
      input_of_read scale (read_of_lists scale (lists_of decimals mesh) log) ≡ input_by found
  pub ready : IsPrepared found

-- what the files of two names give
pub record PreparesLog (files : Option Files) (names : LogNames) (found : PreparedLog) : Type 0 where
  pub job : LogJob
  pub is_job : IsLogJob files names job
  pub input : input_of job ≡ input_by found
  pub ready : IsPrepared found

-- the same of the files that a command is given
abbrev pub PreparesNamed : Option Files → LogFiles → PreparedLog → Type 0
PreparesNamed files given found = PreparesLog files (log_names given) found
