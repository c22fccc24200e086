-- Laws of replays.
use Rattle.std.specs.Prelude.{◌≡◌, ⊤, true, false, []}
use Rattle.std.specs.List.{AllByRecursion}
use Rattle.mesh_base.specs.Mesh.{Mesh}
use Rattle.mesh_base.specs.Placements.{IsClearAlong}
use Rattle.mesh_base.specs.Shifts.{Shifts, NameLive, end_in_box, moved_by}
use Rattle.mesh_base.specs.Valid.{IsValidSurface}
use Rattle.log_text.specs.declared.LogLine.{LogLine}
use Rattle.log_text.specs.declared.LogLine.TheVariants.{Moved}
use Rattle.log_replay.specs.Replay.{Replay}
use Rattle.log_replay.specs.Safe.{LineIsSafe}
use Rattle.log_run.specs.States.{LogState, with_line}
use Rattle.log_replay.specs.Moves.{AreMoves}
use Rattle.log_run.specs.Steps.{shifts_of}
use Rattle.log_run.specs.Fits.{LineFits}
use Rattle.log_run.specs.Motions.{moved_in, IsClearWhereMoved, PassesWhereMoved, StepHasNoneFailing}

-- The mesh is sound, closed and clear, and so is that at which each open group was opened; the
-- moves of a step that is begun are moves of its mesh, and between two steps there are none.
pub record IsValidState (s : LogState) : Type 0 where
  pub now : IsValidSurface s.replay.mesh
  pub groups : AllByRecursion IsValidSurface s.replay.stack
  pub moves : AreMoves s.replay.mesh s.replay.moves
  pub between : s.is_begun ≡ false → s.replay.moves ≡ []

-- the motion of a step that ends is clear at every fraction
abbrev pub StepIsClear : Replay → LogLine → Type 0
StepIsClear r (Moved how) = IsClearAlong r.mesh (moved_by r.mesh r.moves)
StepIsClear r _ = ⊤

-- a line that fits, a step's motion being clear, is safe, and leaves meshes
-- that are sound, closed and clear
abbrev pub FittingLinesAreSafe : Type 0
FittingLinesAreSafe = (s : LogState) (line : LogLine) → IsValidState s → LineFits s line
    → StepIsClear s.replay line → LineIsSafe s.replay line × IsValidState (with_line s line)

-- the shifts name the live vertices, move them as the moves do, and end in the box
pub record ShiftsTell (m : Mesh) (moves shifts : Shifts) : Type 0 where
  pub names : NameLive m shifts
  pub motion : moved_by m shifts ≡ moved_by m moves
  pub inside : end_in_box m shifts ≡ true

-- so do those of all live vertices
abbrev pub AllShiftsTell : Type 0
AllShiftsTell =
    (m : Mesh) (moves : Shifts) → AreMoves m moves → ShiftsTell m moves (shifts_of m moves)

-- A line whose motion is clear, as its kind claims, ends no step that is not clear.
abbrev pub ClearMotionsAreClearSteps : Type 0
ClearMotionsAreClearSteps = (s : LogState) (line : LogLine) → IsValidState s →
    IsClearWhereMoved (moved_in s.replay line) → StepIsClear s.replay line

-- Each pair of the motion of a line that fits passes, as the motion's kind claims, where no pair of
-- a step that ends fails at the greatest depth.
abbrev pub FittingMotionsPass : Type 0
FittingMotionsPass = (s : LogState) (line : LogLine) → IsValidState s → LineFits s line →
    StepHasNoneFailing s.replay line → PassesWhereMoved (moved_in s.replay line)
