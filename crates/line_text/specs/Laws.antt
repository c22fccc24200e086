-- A fixed text is read as the value that it was written of.
use Rattle.std.specs.Prelude.{◌≡◌, ℕ, ◌≤◌, Ok, ℤ, unsigned_abs}
use Rattle.grid_base.specs.declared.TheConstants.{BOX, DECIMALS_MAX}
use Rattle.line_text.specs.Numbers.{grid_number_of, fixed_text}

-- on the same grid, the written text of a value within the box gives that value again
abbrev pub FixedIsRead : Type 0
FixedIsRead = (decimals : ℕ) (value : ℤ) → decimals ≤ DECIMALS_MAX → unsigned_abs value ≤ BOX →
    grid_number_of decimals (fixed_text decimals value) ≡ Ok value
