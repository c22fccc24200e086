-- What reading a part of a card says.
use Rattle.std.specs.Prelude.{◌≡◌, ℕ, ◌-◌, ◌<◌, List, [], take, get_or, Option, MatchOption}
use Rattle.std.specs.List.{AllByRecursion}
use Rattle.job_card.specs.declared.card.Card.{Card}
use Rattle.job_card.specs.Text.{lines_of}
use Rattle.job_card.specs.Laws.{IsGood}

-- what is found is good and has this text, and where nothing is, nothing good has it
abbrev pub Finds : {A : Type 0} → (A → Type 0) → (A → List ℕ) → List ℕ → Option A → Type 0
Finds IsFit text_of text result =
    MatchOption result
    ((a : _) → IsFit a → text ≡ text_of a → ⊥)
    (λ a. IsFit a × (text ≡ text_of a))

-- the line of this number
abbrev pub line_of : ℕ → Card → List ℕ
line_of number c = get_or (lines_of c) (number - 1) []

-- bytes above that of a space
abbrev pub IsGraphic : List ℕ → Type 0
IsGraphic word = AllByRecursion (λ b. 32 < b) word

-- a card that has this line, and the lines before it as they were
pub record TakesLine (number : ℕ) (line : List ℕ) (old new : Card) : Type 0 where
  pub good : IsGood old → IsGood new
  pub before : take (number - 1) (lines_of new) ≡ take (number - 1) (lines_of old)
  pub here : line ≡ line_of number new
