-- Words that are read one after the other: a value and the words after it, or the reason.
use Rattle.std.specs.Prelude.{◌≡◌, ℕ, Bool, ◌==◌, ◌&&◌, nat_le, nat_lt, if◌then◌else◌, List}
use Rattle.std.specs.Prelude.{[], ◌∷◌, length, Option, Some, None, Result, Ok, Err, ℤ}
use Rattle.line_text.specs.declared.fault.TextWhy.{TextWhy}
use Rattle.line_text.specs.declared.fault.TextWhy.TheVariants.{Number, Range, Short, Long}
use Rattle.line_text.specs.declared.number.NumberWhy.{NumberWhy}
use Rattle.line_text.specs.declared.number.NumberWhy.TheVariants as number
use Rattle.line_text.specs.declared.blank_words.Words.{Words}
use Rattle.line_text.specs.declared.pieces.Parts.{Parts}
use Rattle.line_text.specs.Faults.{◌>>=◌}
use Rattle.line_text.specs.Remaining.{words_left, parts_left}
use Rattle.line_text.specs.Numbers.{whole_parts, with_sign, grid_number_of}

-- exactly so many words
unfoldable pub count_is : ℕ → List (List ℕ) → Result (Unit {0}) TextWhy
count_is count words =
    if nat_lt (length words) count then Err Short
    else if nat_lt count (length words) then Err Long
    else Ok tt

-- the number of a whole word from low to high, where -0 is 0
abbrev pub number_from : ℕ → ℕ → Option (Bool × ℕ) → Result ℕ TextWhy
number_from low high None = Err Number
number_from low high (Some n) =
    if nat_le low n.1 && nat_le n.1 high
    then (if n.0 then (if n.1 == 0 then Ok 0 else Err Range) else Ok n.1)
    else Err Range

-- the number of a whole word of a size up to most
abbrev pub number_up_to : ℕ → Option (Bool × ℕ) → Result ℤ TextWhy
number_up_to most None = Err Number
number_up_to most (Some n) = if nat_le n.1 most then Ok (with_sign n.0 n.1) else Err Range

-- the number of the first word, from low to high, and the words after it
unfoldable pub number_at : ℕ → ℕ → List (List ℕ) → Result (ℕ × List (List ℕ)) TextWhy
number_at low high [] = Err Short
number_at low high (word ∷ words) = number_from low high (whole_parts word) >>= λ n. Ok (n, words)

-- the number of the first word, of a size up to most, and the words after it
unfoldable pub signed_at : ℕ → List (List ℕ) → Result (ℤ × List (List ℕ)) TextWhy
signed_at most [] = Err Short
signed_at most (word ∷ words) = number_up_to most (whole_parts word) >>= λ n. Ok (n, words)

-- the reason of a text for a word that gives no number on the grid
abbrev pub text_why : NumberWhy → TextWhy
text_why number.Form = Number
text_why number.Range = Range

-- a coordinate, or the reason of a text
abbrev pub coordinate_or_why : Result ℤ NumberWhy → Result ℤ TextWhy
coordinate_or_why (Ok n) = Ok n
coordinate_or_why (Err why) = Err (text_why why)

-- the value of a decimal word on a grid of so many decimals
unfoldable pub coordinate_of : ℕ → List ℕ → Result ℤ TextWhy
coordinate_of decimals word = coordinate_or_why (grid_number_of decimals word)

-- what a reader of the code returned, with the words that it left
abbrev pub Takes : {X : Type 0} → List (List ℕ) → Result X TextWhy →
    Result (X × List (List ℕ)) TextWhy → Type 0
Takes left (Ok x) read = read ≡ Ok (x, left)
Takes left (Err why) read = read ≡ Err why

-- the same, of the words that were left before and those that are left after it
abbrev pub TakesWords : {X : Type 0} → Words → Words → Result X TextWhy →
    (List (List ℕ) → Result (X × List (List ℕ)) TextWhy) → Type 0
TakesWords old new result read = Takes (words_left new) result (read (words_left old))

-- the same where a line is cut at each single space
abbrev pub TakesParts : {X : Type 0} → Parts → Parts → Result X TextWhy →
    (List (List ℕ) → Result (X × List (List ℕ)) TextWhy) → Type 0
TakesParts old new result read = Takes (parts_left new) result (read (parts_left old))
