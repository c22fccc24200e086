-- Lines that are written word by word.
use Rattle.std.specs.Prelude.{◌≡◌, ℕ, List, [], ◌∷◌, ◌++◌, length, take, decimal, Result, OnOk, Vec}
use Rattle.std.specs.Fmt.{signed_decimal}
use Rattle.line_text.specs.declared.fields.Field.{Field}
use Rattle.line_text.specs.declared.fields.Field.TheVariants.{Text, Number, Signed, Wide}

-- a space after each word, and LF after the last
abbrev pub line_of_words : List (List ℕ) → List ℕ
line_of_words [] = []
line_of_words (word ∷ []) = word ++ 10 ∷ []
line_of_words (word ∷ next ∷ words) = word ++ 32 ∷ line_of_words (next ∷ words)

-- the same without the LF
abbrev pub body_of_words : List (List ℕ) → List ℕ
body_of_words [] = []
body_of_words (word ∷ []) = word
body_of_words (word ∷ next ∷ words) = word ++ 32 ∷ body_of_words (next ∷ words)

-- the bytes of a field
abbrev pub word_of : Field → List ℕ
word_of (Text text) = text.now
word_of (Number n) = decimal n
word_of (Signed n) = signed_decimal n
word_of (Wide n) = signed_decimal n

-- where there was memory, these bytes stand after those from before
abbrev pub Appends : {A E Z : Type 0} → Result A E → Vec ℕ Z → Vec ℕ Z → List ℕ → Type 0
Appends result old new bytes = OnOk result (new.items ≡ old.items ++ bytes)

-- what stood there stands in front
abbrev pub Keeps : List ℕ → List ℕ → Type 0
Keeps old new = take (length old) new ≡ old
