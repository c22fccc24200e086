-- What is answered where the files of a mesh and of a log are fetched.
use Rattle.std.specs.Prelude.{◌≡◌, ◌≤◌, length, Option, Result, Ok, Err}
use Rattle.grid_base.specs.declared.TheConstants.{TEXT_MAX}
use Rattle.outside_io.specs.Desk.{Files}
use Rattle.track_input.specs.declared.LogFiles.{LogFiles}
use Rattle.track_input.specs.Named.{log_names}
use Rattle.track_input.specs.Words.{LogNames}
use Rattle.track_log.specs.declared.refusal.LogRefusal.{LogRefusal}
use Rattle.track_log.specs.declared.inputs.FetchedLog.{FetchedLog}
use Rattle.track_log.specs.declared.inputs.FetchedLog.TheVariants as fetched
use Rattle.track_log.specs.LogJob.{LogJob, IsLogJob, BothTexts, fetched_of}

-- what was fetched, as a job gives it
abbrev pub fetched_by : FetchedLog → Result BothTexts LogRefusal
fetched_by (fetched.No why) = Err why
fetched_by (fetched.Yes mesh log) = Ok (record { mesh = mesh.items; log = log.items })

-- no text is longer than a text may be
abbrev pub AreShort : FetchedLog → Type 0
AreShort (fetched.No why) = Unit {0}
AreShort (fetched.Yes mesh log) = (length mesh.items ≤ TEXT_MAX) × (length log.items ≤ TEXT_MAX)

-- what the files of two names hold
pub record FetchesLog (files : Option Files) (names : LogNames) (found : FetchedLog) : Type 0 where
  pub job : LogJob
  pub is_job : IsLogJob files names job
  pub fetched : fetched_of job.mesh_file job.log_file ≡ fetched_by found
  pub short : AreShort found

-- the same of the files that a command is given
abbrev pub FetchesNamed : Option Files → LogFiles → FetchedLog → Type 0
FetchesNamed files given found = FetchesLog files (log_names given) found
