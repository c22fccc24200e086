-- What the test of the step that is begun tells.
use Rattle.std.specs.Prelude.{◌≡◌, ◌↔◌, Bool, true, false, [], IsTrue}
use Rattle.grid_base.specs.declared.TheConstants.{DEPTH_MAX}
use Rattle.grid_decided.specs.Decided.{meets_exactly}
use Rattle.mesh_base.specs.Failing.{failing}
use Rattle.mesh_base.specs.Placements.{IsClearAlong}
use Rattle.mesh_base.specs.Shifts.{moved_by}
use Rattle.log_text.specs.declared.LogLine.{LogLine}
use Rattle.log_run.specs.Fits.{LineFits}
use Rattle.log_run.specs.Laws.{StepIsClear}
use Rattle.log_run.specs.States.{LogState}
use Rattle.track_log.specs.Taking.{StepPasses, FitsTested}

-- where a step is begun, no pair of its motion fails exactly where this is
-- so, and then the motion is clear
pub record StepIsTested (s : LogState) (passes : Bool) : Type 0 where
  pub exact : s.is_begun ≡ true →
      IsTrue passes ↔ (failing meets_exactly s.replay.mesh s.replay.moves DEPTH_MAX ≡ [])
  pub clear : s.is_begun ≡ true → IsTrue passes →
      IsClearAlong s.replay.mesh (moved_by s.replay.mesh s.replay.moves)

-- if the line fits and ends a step, no pair of the step's motion fails, and the motion is clear
pub record StepGoes (s : LogState) (l : LogLine) : Type 0 where
  pub passes : LineFits s l → StepPasses s.replay l
  pub clear : LineFits s l → StepIsClear s.replay l

-- so it is with the line; or it is not taken
abbrev pub GoesOn : LogState → LogLine → Bool → Type 0
GoesOn s l true = StepGoes s l
GoesOn s l false = ¬ FitsTested s l
