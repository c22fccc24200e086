-- The order of positions, and the two corners of a box.
use Rattle.std.specs.Prelude.{◌≤ℤ◌}
use Rattle.grid_base.specs.Triples.{Triple, IsWithin}
use Rattle.grid_base.specs.declared.TheConstants.{EXTENT_MAX}

-- the one is at or below the other in each component
pub record IsUnder (a b : Triple) : Type 0 where
  pub x : a.x ≤ℤ b.x
  pub y : a.y ≤ℤ b.y
  pub z : a.z ≤ℤ b.z

-- low is at most high in each component, and both are within the limit
pub record AreOrdered (low high : Triple) : Type 0 where
  pub x_order : low.x ≤ℤ high.x
  pub y_order : low.y ≤ℤ high.y
  pub z_order : low.z ≤ℤ high.z
  pub low_fits : IsWithin EXTENT_MAX low
  pub high_fits : IsWithin EXTENT_MAX high
