-- Words of a line that is cut at each single space, where each number has one spelling.
use Rattle.std.specs.Prelude.{ℕ, Bool, true, false, ◌==◌, ◌&&◌, nat_le, nat_lt, if◌then◌else◌, List, []}
use Rattle.std.specs.Prelude.{◌∷◌, length, drop, Option, Some, None, option_map, Result, Ok, Err, ℤ}
use Rattle.std.specs.List.{slice_split}
use Rattle.line_text.specs.declared.number.TheConstants.{DIGITS_MAX}
use Rattle.line_text.specs.declared.fault.TextWhy.{TextWhy}
use Rattle.line_text.specs.declared.fault.TextWhy.TheVariants.{Number, Short, Long}
use Rattle.line_text.specs.Faults.{◌>>=◌}
use Rattle.line_text.specs.Numbers.{number_within, begins_with, with_sign}

-- the words of a line, cut at each space: two spaces give an empty word
abbrev pub spaced_words : List ℕ → List (List ℕ)
spaced_words line = slice_split (λ b. b == 32) line

-- digits with no needless zero in front
abbrev pub spelled_number : List ℕ → Option ℕ
spelled_number word =
    if begins_with 48 word && nat_lt 1 (length word) then None else number_within DIGITS_MAX word

-- what stands after '-', if it is a number other than 0
abbrev pub negated_size : Option ℕ → Option (Bool × ℕ)
negated_size None = None
negated_size (Some n) = if n == 0 then None else Some (true, n)

-- the same, or '-' and such digits of a number other than 0: whether
-- the '-' is there, and the number
abbrev pub spelled_parts : List ℕ → Option (Bool × ℕ)
spelled_parts word =
    if begins_with 45 word then negated_size (spelled_number (drop 1 word))
    else option_map (λ n. (false, n)) (spelled_number word)

-- a spelled number from low to high
abbrev pub spelled_from : ℕ → ℕ → Option ℕ → Result ℕ TextWhy
spelled_from low high None = Err Number
spelled_from low high (Some n) = if nat_le low n && nat_le n high then Ok n else Err Number

-- a spelled number of a size up to most
abbrev pub spelled_up_to : ℕ → Option (Bool × ℕ) → Result ℤ TextWhy
spelled_up_to most None = Err Number
spelled_up_to most (Some n) = if nat_le n.1 most then Ok (with_sign n.0 n.1) else Err Number

-- the number of the first word, from low to high, and the words after it
unfoldable pub spelled_at : ℕ → ℕ → List (List ℕ) → Result (ℕ × List (List ℕ)) TextWhy
spelled_at low high [] = Err Short
spelled_at low high (word ∷ words) =
    spelled_from low high (spelled_number word) >>= λ n. Ok (n, words)

-- the number of the first word, of a size up to most, and the words after it
unfoldable pub spelled_signed_at : ℕ → List (List ℕ) → Result (ℤ × List (List ℕ)) TextWhy
spelled_signed_at most [] = Err Short
spelled_signed_at most (word ∷ words) =
    spelled_up_to most (spelled_parts word) >>= λ n. Ok (n, words)

-- exactly so many words, and the LF at the line's end
unfoldable pub count_with_end : Bool → ℕ → List (List ℕ) → Result (Unit {0}) TextWhy
count_with_end ended count words =
    if nat_lt (length words) count then Err Short
    else if ended then (if nat_lt count (length words) then Err Long else Ok tt)
    else Err Short
