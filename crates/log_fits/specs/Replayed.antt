-- Logs of runs, replayed.
use Rattle.std.specs.Prelude.{◌≡◌, ◌⊎◌, ℕ, List, None}
use Rattle.mesh_base.specs.declared.Scale.{Scale}
use Rattle.obj_text.specs.Obj.{Lists}
use Rattle.step_text.specs.declared.Placed.{Placed}
use Rattle.outside_io.specs.World.{World}
use Rattle.track_input.specs.Words.{ReplayNames}
use Rattle.track_engine.specs.Answered.{Known}
use Rattle.track_engine.specs.Saved.{Target, files_of, stored}
use Rattle.track_run.specs.declared.outcome.Outcome.{Outcome}
use Rattle.track_run.specs.declared.outcome.Outcome.TheVariants.{Done, NoMemory}
use Rattle.track_run.specs.Causes.{HasClear}
use Rattle.track_run.specs.Complete.{NoneFailed}
use Rattle.track_run.specs.Headline.{TracksCommand, ReplaysCommand}
use Rattle.track_run.specs.Job.{log_of, replay_of}
use Rattle.log_fits.specs.Measured.{IsWithLogOf}

-- Where a job was tracked whose files were read without a fault and whose mesh is clear, its log is
-- replayed to the end, or there is no memory, unless a side fails.
abbrev pub LogsOfRunsAreReplayed : Known → Type 0
LogsOfRunsAreReplayed known =
    (scale : Scale) (mesh_name step_name : List ℕ) (to : Target) (tracked : Outcome)
    (before after : World)
    → (track : TracksCommand scale known mesh_name step_name to tracked before after)
    → (lists : Lists) (directives : List Placed) → HasClear track.job lists directives
    → (names : ReplayNames) (result : Outcome) (old new : World)
    → (run : ReplaysCommand names result old new)
    → IsWithLogOf track.job track.tracks.answers run.replays.job → NoneFailed old new
    → (result ≡ Done) ⊎ (result ≡ NoMemory)

-- Then, where no number is given, the files are stored that the log names: those that the run
-- stored, with the same texts, under the prefix of the replay.
abbrev pub MeshesOfRunsAreStoredAgain : Known → Type 0
MeshesOfRunsAreStoredAgain known =
    (scale : Scale) (mesh_name step_name : List ℕ) (to : Target) (tracked : Outcome)
    (before after : World)
    → (track : TracksCommand scale known mesh_name step_name to tracked before after)
    → (lists : Lists) (directives : List Placed) → HasClear track.job lists directives
    → (names : ReplayNames) (result : Outcome) (old new : World)
    → (run : ReplaysCommand names result old new)
    → IsWithLogOf track.job track.tracks.answers run.replays.job
    → names.only ≡ None → result ≡ Done
    → new.holds.files ≡ stored (files_of (record to { prefix = names.prefix }) (replay_of track.job)
    (log_of track.job track.tracks.answers).lines) old.holds.files
