-- How a command ends that replays a log.
use Rattle.std.specs.Prelude.{◌≡◌, Option, Some, None, Result, Ok, Err}
use Rattle.log_text.specs.declared.LogLine.{LogLine}
use Rattle.log_run.specs.States.{LogState, without_lines}
use Rattle.track_log.specs.declared.refusal.LogRefusal.{LogRefusal}
use Rattle.track_log.specs.declared.refusal.LogRefusal.TheVariants.{Replay}
use Rattle.track_log.specs.LogJob.{LogInput}
use Rattle.track_log.specs.Taking.{AllFit, IsUnfitAt}

-- The ending of a replay of what was given, by what it means that a line fits: what was refused
-- before is the ending; a log whose lines all fit ends well; and one that does not fit is refused
-- at the first line that does not.
abbrev pub EndsBy : (LogState → LogLine → Type 0) → Result LogInput LogRefusal → Option LogRefusal →
    Type 0
EndsBy Fits (Err why) ending = ending ≡ Some why
EndsBy Fits (Ok input) None = AllFit Fits (without_lines input.mesh) input.lines
EndsBy Fits (Ok input) (Some (Replay line)) =
    IsUnfitAt Fits (without_lines input.mesh) input.lines line
EndsBy Fits (Ok input) (Some why) = ⊥
