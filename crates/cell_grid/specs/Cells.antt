-- Which cells an extent touches.
use Rattle.std.specs.Prelude.{◌≡◌, ℕ, ◌+◌, ◌/◌, ◌%◌, ◌<◌, ◌≤◌, ◌&&◌, Bool, nat_eq, ℤ, pos, ◌+ℤ◌, unsigned_abs}
use Rattle.grid_base.specs.Triples.{Triple}
use Rattle.grid_base.specs.declared.TheConstants.{EXTENT_MAX}
use Rattle.grid_base.specs.declared.Extent.{Extent}
use Rattle.cell_grid.specs.declared.cells.Cell.{Cell}
use Rattle.cell_grid.specs.declared.cells.Span.{Span}

-- the place of a coordinate among cells of this size, counted from the least coordinate
abbrev pub place_along : ℕ → ℤ → ℕ
place_along cell a = unsigned_abs (a +ℤ pos EXTENT_MAX) / cell

-- the cell of a point
abbrev pub cell_of : ℕ → Triple → Cell
cell_of cell p = record {
  x = place_along cell p.x;
  y = place_along cell p.y;
  z = place_along cell p.z;
}

-- whether two cells are one
abbrev pub same_cell : Cell → Cell → Bool
same_cell a b = nat_eq a.x b.x && (nat_eq a.y b.y && nat_eq a.z b.z)

-- the extent touches the cell: the cell lies between those of its corners
pub record Touches (cell : ℕ) (e : Extent) (c : Cell) : Type 0 where
  pub x_low : place_along cell e.low.x ≤ c.x
  pub x_high : c.x ≤ place_along cell e.high.x
  pub y_low : place_along cell e.low.y ≤ c.y
  pub y_high : c.y ≤ place_along cell e.high.y
  pub z_low : place_along cell e.low.z ≤ c.z
  pub z_high : c.z ≤ place_along cell e.high.z

-- the span has each cell that the extent touches, from the first of them on
pub record Covers (cell : ℕ) (e : Extent) (s : Span) : Type 0 where
  pub first : s.first ≡ cell_of cell e.low
  pub x_end : place_along cell e.high.x < s.first.x + s.nx
  pub y_end : place_along cell e.high.y < s.first.y + s.ny
  pub z_end : place_along cell e.high.z < s.first.z + s.nz

-- the nth cell of a span
abbrev pub nth_cell : Span → ℕ → Cell
nth_cell s n = record {
  x = s.first.x + n % s.nx;
  y = s.first.y + n / s.nx % s.ny;
  z = s.first.z + n / s.nx / s.ny;
}
