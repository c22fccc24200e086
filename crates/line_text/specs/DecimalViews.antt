-- Decimal words as the code takes them apart.
use Rattle.std.specs.Prelude.{◌≡◌, ℕ, ◌+◌, ◌*◌, ◌/◌, ◌^◌, ◌<◌, ◌≤◌, ◌++◌, length, true}
use Rattle.std.specs.List.{list_all}
use Rattle.line_text.specs.declared.decimal.Decimal as code
use Rattle.line_text.specs.Numbers.{Decimal, is_digit, number}

-- a decimal without where its digits lie in memory
abbrev pub decimal_view : code.Decimal → Decimal
decimal_view d = record {
  negative = d.negative;
  whole = d.whole.now;
  fraction = d.fraction.now;
  up = d.up;
  down = d.down;
}

-- the sizes that the parts of a decimal word have
pub record Fits (d : Decimal) : Type 0 where
  pub whole : list_all is_digit d.whole ≡ true
  pub fraction : list_all is_digit d.fraction ≡ true
  pub short : length d.whole + length d.fraction ≤ 64
  pub up : d.up < 1000
  pub down : d.down < 1000

-- ten times the size on the grid, rounded down
abbrev pub tenths_of : ℕ → Decimal → ℕ
tenths_of decimals d =
    10 * (number (d.whole ++ d.fraction) * 10 ^ (decimals + d.up))
    / 10 ^ (length d.fraction + d.down)
