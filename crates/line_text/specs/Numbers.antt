-- The numbers that words write.
use Rattle.std.specs.Prelude.{ℕ, ◌+◌, ◌-◌, ◌*◌, ◌/◌, ◌%◌, ◌^◌, zero, suc, Bool, ◌==◌, ◌||◌, ◌&&◌, nat_le}
use Rattle.std.specs.Prelude.{List, [], ◌∷◌, ◌++◌, length, drop, take_while, slice_index, if◌then◌else◌}
use Rattle.std.specs.Prelude.{Option, Some, None, option_map, Result, Ok, Err, ℤ, pos, negsuc, neg_ℤ, decimal}
use Rattle.std.specs.List.{list_all, prefix_len}
use Rattle.grid_base.specs.declared.TheConstants.{BOX}
use Rattle.line_text.specs.declared.number.NumberWhy.{NumberWhy}
use Rattle.line_text.specs.declared.number.NumberWhy.TheVariants.{Form, Range}

-- '0' to '9'
abbrev pub is_digit : ℕ → Bool
is_digit b = nat_le 48 b && nat_le b 57

-- the number that digits write after a number n
abbrev pub number_after : ℕ → List ℕ → ℕ
number_after n [] = n
number_after n (d ∷ ds) = number_after (10 * n + (d - 48)) ds

-- the number that digits write
abbrev pub number : List ℕ → ℕ
number ds = number_after 0 ds

-- one digit or more, and at most this many
abbrev pub number_within : ℕ → List ℕ → Option ℕ
number_within most ds =
    if nat_le 1 (length ds) && nat_le (length ds) most && list_all is_digit ds then Some (number ds)
    else None

-- the number of this sign and size; minus zero is zero
abbrev pub with_sign : Bool → ℕ → ℤ
with_sign negative n = if negative then neg_ℤ (pos n) else pos n

-- whether a word's first byte is b, which is not 0
abbrev pub begins_with : ℕ → List ℕ → Bool
begins_with b word = slice_index word 0 == b

-- an optional '-' and one to ten digits: whether the '-' is there, and the number of the digits
abbrev pub whole_parts : List ℕ → Option (Bool × ℕ)
whole_parts word =
    option_map (λ n. (begins_with 45 word, n))
    (number_within 10 (if begins_with 45 word then drop 1 word else word))

-- the number of a whole word
abbrev pub whole_of : List ℕ → Option ℤ
whole_of word = option_map (λ parts. with_sign parts.0 parts.1) (whole_parts word)

-- a decimal word taken apart
pub record Decimal : Type 0 where
  pub negative : Bool
  -- the digits before the point and after it
  pub whole : List ℕ
  pub fraction : List ℕ
  -- the exponent, or the size of a negative one; the other is 0
  pub up : ℕ
  pub down : ℕ

-- the digits at the front of a word
abbrev pub front_digits : List ℕ → List ℕ
front_digits word = take_while is_digit word

-- what follows them
abbrev pub behind_digits : List ℕ → List ℕ
behind_digits word = drop (prefix_len is_digit word) word

-- a word without its '+' or '-', if it has one
abbrev pub without_sign : List ℕ → List ℕ
without_sign word = if begins_with 43 word || begins_with 45 word then drop 1 word else word

-- nothing, or 'e' or 'E', an optional sign, and one to three digits
unfoldable pub exponent_of : List ℕ → Option (ℕ × ℕ)
exponent_of [] = Some (0, 0)
exponent_of (b ∷ word) =
    if b == 101 || b == 69
    then option_map (λ n. if begins_with 45 word then (0, n) else (n, 0))
    (number_within 3 (without_sign word)) else None

-- digits before the point, digits after it, and the rest
unfoldable pub mantissa_of : List ℕ → List ℕ × List ℕ × List ℕ
mantissa_of word =
    let rest = behind_digits word in
    if begins_with 46 rest
    then (front_digits word, front_digits (drop 1 rest), behind_digits (drop 1 rest))
    else (front_digits word, [], rest)

-- a word of at most 64 bytes taken apart: an optional sign, at least one digit with at most
-- one point, and an optional exponent
unfoldable pub decimal_of : List ℕ → Option Decimal
decimal_of word =
    let parts = mantissa_of (without_sign word) in
    if nat_le (length word) 64 && nat_le 1 (length parts.0 + length parts.1)
    then option_map
    (λ e. record {
      negative = begins_with 45 word;
      whole = parts.0;
      fraction = parts.1;
      up = e.0;
      down = e.1;
    })
    (exponent_of parts.2)
    else None

-- a / b to the nearest whole number, a half upward
abbrev pub nearest_quotient : ℕ → ℕ → ℕ
nearest_quotient a b = (2 * a + b) / (2 * b)

-- the size of the value times 10 ^ decimals, to the nearest whole number
unfoldable pub grid_size : ℕ → Decimal → ℕ
grid_size decimals d =
    nearest_quotient (number (d.whole ++ d.fraction) * 10 ^ (decimals + d.up))
    (10 ^ (length d.fraction + d.down))

-- the value on a grid of so many decimals, halves away from zero
abbrev pub grid_of : ℕ → Option Decimal → Result ℤ NumberWhy
grid_of decimals None = Err Form
grid_of decimals (Some d) =
    if nat_le (grid_size decimals d) BOX then Ok (with_sign d.negative (grid_size decimals d))
    else Err Range

-- the value of a decimal word on a grid of so many decimals, or why it gives none
unfoldable pub grid_number_of : ℕ → List ℕ → Result ℤ NumberWhy
grid_number_of decimals word = grid_of decimals (decimal_of word)

-- the last so many digits
abbrev pub last_digits : ℕ → ℕ → List ℕ
last_digits zero n = []
last_digits (suc k) n = (48 + n / 10 ^ k % 10) ∷ last_digits k n

-- the text of a size on a grid of so many decimals
abbrev pub size_text : ℕ → ℕ → List ℕ
size_text decimals n =
    if decimals == 0 then decimal n else decimal (n / 10 ^ decimals) ++ 46 ∷ last_digits decimals n

-- the text of a value on a grid of so many decimals, after '-' where it is negative
abbrev pub fixed_text : ℕ → ℤ → List ℕ
fixed_text decimals (pos n) = size_text decimals n
fixed_text decimals (negsuc n) = 45 ∷ size_text decimals (suc n)
