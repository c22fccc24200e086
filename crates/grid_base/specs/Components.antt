-- Sizes of whole numbers, and how they are rounded.
use Rattle.std.specs.Prelude.{ℕ, ◌≤◌, ◌^◌, ℤ, pos, unsigned_abs, int_div}
use Rattle.std.specs.Int.{int_div_euclid}

-- three numbers have at most this size
pub record FitWithin (most : ℕ) (x y z : ℤ) : Type 0 where
  pub x_fits : unsigned_abs x ≤ most
  pub y_fits : unsigned_abs y ≤ most
  pub z_fits : unsigned_abs z ≤ most

-- half of z, rounded down
abbrev pub floor_half : ℤ → ℤ
floor_half z = int_div_euclid z (pos 2)

-- z divided by 2^m, rounded toward zero
abbrev pub toward_zero : ℤ → ℕ → ℤ
toward_zero z m = int_div z (pos (2 ^ m))
