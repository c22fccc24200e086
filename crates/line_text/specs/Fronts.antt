-- Whole words that are read as they are found.
use Rattle.std.specs.Prelude.{◌≡◌, ℕ, Bool, List, ◌∷◌, Some}
use Rattle.line_text.specs.declared.blank_words.Words.{Words}
use Rattle.line_text.specs.Numbers.{whole_parts}
use Rattle.line_text.specs.Remaining.{words_left}

-- the first of the words is whole, with this sign and size, and these are left after it
pub record IsWhole (words : List (List ℕ)) (parts : Bool × ℕ) (left : List (List ℕ)) : Type 0 where
  pub word : List ℕ
  pub first : words ≡ word ∷ left
  pub whole : whole_parts word ≡ Some parts

-- the same of the words that were left before, and those that are left after it
abbrev pub TakesWhole : Words → Words → Bool × ℕ → Type 0
TakesWhole old new parts = IsWhole (words_left old) parts (words_left new)
