-- A box of two positions that reaches out by a skin.
use Rattle.std.specs.Prelude.{◌≡◌, ℕ, pos, ◌+ℤ◌, ◌-ℤ◌}
use Rattle.std.specs.Int.{int_min, int_max}
use Rattle.grid_base.specs.declared.Extent.{Extent}
use Rattle.grid_base.specs.Triples.{Triple}

-- the box begins the skin before the lesser, and ends the skin after the greater, along each axis
pub record IsWidened (skin : ℕ) (a b : Triple) (box : Extent) : Type 0 where
  pub x_low : box.low.x ≡ int_min a.x b.x -ℤ pos skin
  pub x_high : box.high.x ≡ int_max a.x b.x +ℤ pos skin
  pub y_low : box.low.y ≡ int_min a.y b.y -ℤ pos skin
  pub y_high : box.high.y ≡ int_max a.y b.y +ℤ pos skin
  pub z_low : box.low.z ≡ int_min a.z b.z -ℤ pos skin
  pub z_high : box.high.z ≡ int_max a.z b.z +ℤ pos skin
