-- The edits of a pass can be done again.
use Rattle.std.specs.Prelude.{◌≤◌, ℕ, Bool, List}
use Rattle.grid_base.specs.declared.Positions.{Positions}
use Rattle.grid_base.specs.declared.TheConstants.{DEPTH_MAX}
use Rattle.grid_base.specs.SeparationTests.{IsExact}
use Rattle.edit_base.specs.declared.Asked.{Asked}
use Rattle.log_replay.specs.Replay.{Replay}
use Rattle.log_replay.specs.Again.{LinesAreAgain}
use Rattle.pass_run.specs.declared.terms.PassTerms.{PassTerms}
use Rattle.pass_run.specs.PassLines.{pass_lines, lines_from}
use Rattle.pass_run.specs.Edits.{edit_rules}

-- Each edit that the lines of a pass tell as done, tested to a depth within the limit, answers the
-- same where it stands, tested to the greatest depth.
abbrev pub PassesAreAgain : Type 0
PassesAreAgain = (meets : Positions → Bool) → IsExact meets → (r : Replay) (terms : PassTerms) →
    terms.depth ≤ DEPTH_MAX →
    LinesAreAgain r (pass_lines meets terms r.mesh)

-- And so does each edit that was asked for.
abbrev pub EditsAreAgain : Type 0
EditsAreAgain = (meets : Positions → Bool) → IsExact meets →
    (r : Replay) (depth : ℕ) (grouped : Bool) (asked : List Asked) → depth ≤ DEPTH_MAX →
    LinesAreAgain r (lines_from (edit_rules meets depth grouped) r.mesh asked)
