-- The motions of lines that fit: where one is clear its step is, and its pairs pass where no pair of a step fails.
use Rattle.std.proofs.Common.{◌≤◌, Bool, true, false, arith}
use Rattle.std.specs.Bool.{MatchBool}
use Rattle.grid_base.specs.declared.TheConstants.{DEPTH_MAX}
use Rattle.log_text.specs.declared.LogLine.{LogLine}
use Rattle.log_text.specs.declared.LogLine.TheVariants as line
use Rattle.log_replay.specs.Replay.{Replay}
use Rattle.log_run.specs.States.{LogState}
use Rattle.log_run.specs.Fits.{FitsFirst, FitsLater, LineFits}
use Rattle.log_run.specs.Laws.{IsValidState, StepIsClear}
use Rattle.log_run.specs.Motions.{moved_in, IsClearWhereMoved, PassesWhereMoved, StepHasNoneFailing}
use Rattle.log_run.proofs.StepMotion.{clear_in_halves}
use Rattle.log_run.proofs.MotionsPass.{step_passes, edit_passes}

pub clear_steps : (s : LogState) (l : LogLine) → IsValidState s → IsClearWhereMoved (moved_in s.replay l) → StepIsClear s.replay l
clear_steps s (line.Moved how) good clear = clear_in_halves s.replay.mesh s.replay.moves good.moves clear
clear_steps s l good clear = tt

later_passes : (s : LogState) (l : LogLine) → IsValidState s → FitsLater s l → StepHasNoneFailing s.replay l → PassesWhereMoved (moved_in s.replay l)
later_passes s (line.Moved how) good fits none =
    let most : DEPTH_MAX ≤ DEPTH_MAX = omega arith in
    step_passes s.replay.mesh s.replay.moves DEPTH_MAX most good.now.sound good.moves none
later_passes s (line.Did change) good fits none = edit_passes s.replay.mesh change good.now.sound good.now.closed fits.1
later_passes s l good fits none = tt

first_passes : (r : Replay) (l : LogLine) → FitsFirst l → PassesWhereMoved (moved_in r l)
first_passes r (line.First version) fits = tt
first_passes r l fits = absurd fits

pub fitting_passes : (s : LogState) (l : LogLine) → IsValidState s → LineFits s l → StepHasNoneFailing s.replay l → PassesWhereMoved (moved_in s.replay l)
fitting_passes s l good fits none = by_line s.has_line fits
  where
    by_line : (b : Bool) → MatchBool b (FitsLater s l) (FitsFirst l) → PassesWhereMoved (moved_in s.replay l)
    by_line true fits = later_passes s l good fits none
    by_line false fits = first_passes s.replay l fits
