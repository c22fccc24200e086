-- The log that a caller begins at the mesh as it is, wherever his tracker stands by then.
use Rattle.std.specs.Prelude.{◌≡◌, ◌+◌, ◌≤◌, ◌<◌, List, [], ◌∷◌, ◌++◌, length}
use Rattle.mesh_base.specs.declared.Scale.{Scale}
use Rattle.mesh_base.specs.declared.Scale.TheVariants.{Large}
use Rattle.mesh_base.specs.Limits.{limits_of}
use Rattle.mesh_base.specs.Mesh.{Mesh, IsSound}
use Rattle.mesh_base.specs.Valid.{IsValidSurface}
use Rattle.obj_text.specs.Laws.{renumbered}
use Rattle.step_choose.specs.Settings.{AreWithinLimits}
use Rattle.log_text.specs.declared.TheConstants.{COUNT_MAX}
use Rattle.log_text.specs.declared.LogLine.{LogLine}
use Rattle.log_text.specs.declared.LogLine.TheVariants.{End}
use Rattle.log_replay.specs.Laws.{IsWithin}
use Rattle.log_replay.specs.Replay.{mesh_after_lines}
use Rattle.track_engine.specs.Invariant.{IsRunInvariant}
use Rattle.track_engine.specs.State.{State, unsaved}
use Rattle.track_held.specs.Heads.{as_read, head_lines, begun}
use Rattle.log_fits.specs.Histories.{Call, history, state_after, MayAllBeCalled}
use Rattle.log_fits.specs.Logs.{IsLogOf}

-- behind the first lines with which a log is begun, and before its last: the lines of the calls
abbrev pub log_begun : State → List Call → List LogLine
log_begun s calls = head_lines s.mesh ++ (history calls (begun s) ++ End ∷ [])

-- whatever is asked then, call after call, wherever a tracker stands between two calls, with no group
-- open and room for these calls
pub record CanBeBegun (s : State) (calls : List Call) : Type 0 where
  pub kept : IsRunInvariant s
  pub limits : AreWithinLimits s.set
  pub closed : s.groups ≡ []
  pub may : MayAllBeCalled calls (begun s)
  pub steps : s.steps + length calls ≤ COUNT_MAX
  pub saved : 1 + length calls ≤ COUNT_MAX

-- It is a log of the mesh that is read from the text of the mesh as it was when the log was begun, by
-- a scale that has room for that mesh, whichever ids there were.
abbrev pub LogsCanBeBegun : Type 0
LogsCanBeBegun = (scale : Scale) (s : State) (calls : List Call) → CanBeBegun s calls →
    IsWithin scale s.mesh.limits → IsLogOf scale (as_read s.mesh) (log_begun s calls)

-- Its first lines make of the mesh that is read the one at which it was begun, with the ids and the
-- solid vertices of that.
abbrev pub HeadsMakeTheMesh : Type 0
HeadsMakeTheMesh = (m : Mesh) → IsSound m → mesh_after_lines (as_read m) (head_lines m) ≡ m

-- So it is behind whatever a caller asked before, of a mesh that is sound, closed and clear.
abbrev pub CallersBeginLogs : Type 0
CallersBeginLogs =
    (scale : Scale) (m : Mesh) (before calls : List Call) → IsWithin scale m.limits →
    IsValidSurface m → MayAllBeCalled before (unsaved m) →
    let s = state_after before (unsaved m) in
    s.groups ≡ [] → MayAllBeCalled calls (begun s) → length before + length calls < COUNT_MAX →
    IsLogOf scale (as_read s.mesh) (log_begun s calls)

-- Of a large mesh it is a log of the mesh that is read from its text, with the limits of large meshes.
abbrev pub LogsAreOfTheirFiles : Type 0
LogsAreOfTheirFiles = (s : State) (calls : List Call) → CanBeBegun s calls →
    s.mesh.limits ≡ limits_of Large → IsLogOf Large (renumbered Large s.mesh) (log_begun s calls)
