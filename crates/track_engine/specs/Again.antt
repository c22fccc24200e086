-- Logs that can be done again.
use Rattle.std.specs.Prelude.{List}
use Rattle.step_choose.specs.Settings.{AreWithinLimits}
use Rattle.step_text.specs.declared.Placed.{Placed}
use Rattle.step_text.specs.Ranges.{AreInRange}
use Rattle.log_replay.specs.Again.{LinesAreAgain}
use Rattle.track_engine.specs.State.{State, standing}
use Rattle.track_engine.specs.Answers.{Answers}
use Rattle.track_engine.specs.Effects.{log_from}
use Rattle.track_engine.specs.Invariant.{IsRunInvariant}

-- where directives within their limits begin, with settings within theirs, what
-- their log tells can be done again
abbrev pub LogsAreAgain : Type 0
LogsAreAgain = (answers : Answers) (steps : List Placed) (s : State) → AreInRange steps →
    AreWithinLimits s.set → IsRunInvariant s →
    LinesAreAgain (standing s) (log_from answers steps s).lines
