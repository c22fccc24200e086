-- What the codes say of the call that closes a fold.
use Rattle.std.specs.Prelude.{◌≡◌, ℕ, Option, Some, None}
use Rattle.track_held.specs.declared.given_edits.ToldAnswer.{ToldAnswer}
use Rattle.track_held.specs.Folding.{fold_effect, fold_told}
use Rattle.topo_library.specs.Codes.{tracker_state, HolderHasWritten, HolderHasTold}
use Rattle.topo_library.specs.declared.tracker.Tracker.{Tracker}

-- What a code says of a call that closes the fold at the edge with these ends, the smaller first: 3
-- where they can be those of no edge, with all as it was; else what is said of a call that is never
-- refused. Whether the fold is closed is in the answer.
abbrev pub HolderHasClosedFold : Option (ℕ × ℕ) → Option Tracker → Option Tracker → ToldAnswer →
    ToldAnswer → ℕ → Type 0
HolderHasClosedFold None old new before after code =
    (code ≡ 3) × (new ≡ old) × (after ≡ before)
HolderHasClosedFold (Some e) old new before after code =
    HolderHasWritten (fold_effect e.0 e.1) old new code
    × HolderHasTold (λ t. fold_told e.0 e.1 (tracker_state t)) old before after code
