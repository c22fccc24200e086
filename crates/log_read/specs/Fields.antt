-- Values that are read one after the other.
use Rattle.std.specs.Prelude.{ℕ, List, Option, Some, None, Result, Ok, Err}
use Rattle.line_text.specs.declared.TextWhy.{TextWhy}
use Rattle.line_text.specs.declared.TextWhy.TheVariants.{Number}
use Rattle.line_text.specs.Faults.{◌>>=◌}

-- what reading some words gives: a value and the words after it, or the reason
abbrev pub Reader : Type 0 → Type 0
Reader A = List (List ℕ) → Result (A × List (List ℕ)) TextWhy

-- a word that spells nothing is misspelt
abbrev pub or_number : {A : Type 0} → Option A → Result A TextWhy
or_number None = Err Number
or_number (Some a) = Ok a

-- one value and then another, which may depend on it
abbrev pub in_turn : {A B : Type 0} → Reader A → (A → Reader B) → Reader (A × B)
in_turn first second words = first words >>= λ a. second a.0 a.1 >>= λ b. Ok ((a.0, b.0), b.1)

-- one value and then another
abbrev pub both : {A B : Type 0} → Reader A → Reader B → Reader (A × B)
both first second = in_turn first (λ a. second)
