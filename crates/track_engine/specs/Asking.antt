-- What the lines of edits that are asked for by ids promise, and that of a group that is taken back
-- by choice.
use Rattle.std.specs.Prelude.{◌≡◌, List}
use Rattle.edit_base.specs.declared.Asked.{Asked}
use Rattle.step_choose.specs.Settings.{AreWithinLimits}
use Rattle.log_replay.specs.Again.{LinesAreAgain}
use Rattle.log_replay.specs.Replay.{after}
use Rattle.track_engine.specs.State.{State, standing}
use Rattle.track_engine.specs.Effects.{Effect, Proceeds, Refused, Unanswered, edits_effect, undo_effect}
use Rattle.track_engine.specs.Invariant.{IsRunInvariant}
use Rattle.track_engine.specs.Kept.{LogIsSafe}

-- The lines of an effect keep the promises of a log, their replay is the state after it, and that
-- is one as each directive leaves.
abbrev pub KeepsTheRun : State → Effect → Type 0
KeepsTheRun s (Proceeds lines next) =
    LogIsSafe (standing s) lines
    × (after (standing s) lines ≡ standing next)
    × IsRunInvariant next
KeepsTheRun s (Refused why) = Unit {0}
KeepsTheRun s (Unanswered lines) = LogIsSafe (standing s) lines

-- what the lines of an effect tell can be done again by the log alone
abbrev pub CanBeDoneAgain : State → Effect → Type 0
CanBeDoneAgain s (Proceeds lines next) = LinesAreAgain (standing s) lines
CanBeDoneAgain s (Refused why) = Unit {0}
CanBeDoneAgain s (Unanswered lines) = LinesAreAgain (standing s) lines

-- that holds of edits, whichever are asked for, from wherever a run stands
abbrev pub EditsKeepTheRun : Type 0
EditsKeepTheRun =
    (asked : List Asked) (s : State) → IsRunInvariant s → KeepsTheRun s (edits_effect asked s)

-- what edits tell can be done again
abbrev pub EditsCanBeDoneAgain : Type 0
EditsCanBeDoneAgain =
    (asked : List Asked) (s : State) → AreWithinLimits s.set → CanBeDoneAgain s (edits_effect asked s)

-- and of a group that is taken back
abbrev pub UndoKeepsTheRun : Type 0
UndoKeepsTheRun = (s : State) → IsRunInvariant s → KeepsTheRun s (undo_effect s.groups s)

-- what that tells can be done again
abbrev pub UndoCanBeDoneAgain : Type 0
UndoCanBeDoneAgain = (s : State) → CanBeDoneAgain s (undo_effect s.groups s)
