-- How often a command ends, and with which text.
use Rattle.std.specs.Prelude.{◌≡◌, ℕ, List, Option, Result}
use Rattle.track_log.specs.declared.refusal.LogRefusal.{LogRefusal}

-- of what was given there are no two endings
abbrev pub HasNoTwoEndings : {Input : Type 0} →
    (Result Input LogRefusal → Option LogRefusal → List ℕ → Type 0) → Type 0
HasNoTwoEndings {Input} Ends = (input : Result Input LogRefusal) (a b : Option LogRefusal)
    (t u : List ℕ) → Ends input a t → Ends input b u → a ≡ b

-- nor two texts
abbrev pub HasOneText : {Input : Type 0} →
    (Result Input LogRefusal → Option LogRefusal → List ℕ → Type 0) → Type 0
HasOneText {Input} Ends = (input : Result Input LogRefusal) (a b : Option LogRefusal)
    (t u : List ℕ) → Ends input a t → Ends input b u → t ≡ u
