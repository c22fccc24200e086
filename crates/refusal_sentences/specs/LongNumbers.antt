-- Numbers of a text that a grid of so many decimals may not hold.
use Rattle.std.specs.Prelude.{ℕ, zero, suc, ◌==◌, ◌&&◌, ◌||◌, Bool, true, false, List, [], ◌∷◌}
use Rattle.std.specs.Char.{is_ascii_digit}

-- whether the byte is a point
abbrev pub is_point : ℕ → Bool
is_point b = b == 46

-- whether it is the mark of an exponent: `e` or `E`
abbrev pub is_mark : ℕ → Bool
is_mark b = b == 101 || b == 69

-- whether the text begins with such a mark
abbrev pub begins_with_mark : List ℕ → Bool
begins_with_mark [] = false
begins_with_mark (b ∷ bs) = is_mark b

-- whether it begins with so many digits
abbrev pub begins_with_digits : ℕ → List ℕ → Bool
begins_with_digits zero text = true
begins_with_digits (suc n) [] = false
begins_with_digits (suc n) (b ∷ bs) = is_ascii_digit b && begins_with_digits n bs

-- Whether in the text more than so many digits stand behind a point, or the mark of an exponent
-- right behind a digit or a point.
abbrev pub has_long_number : ℕ → List ℕ → Bool
has_long_number decimals [] = false
has_long_number decimals (b ∷ bs) =
    (is_point b && begins_with_digits (suc decimals) bs)
    || (((is_ascii_digit b || is_point b) && begins_with_mark bs) || has_long_number decimals bs)
