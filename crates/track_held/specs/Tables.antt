-- Bands of lengths by the cells of a box: a sizing that is sampled on a grid.
use Rattle.std.specs.Prelude.{◌≡◌, ℕ, ◌+◌, ◌-◌, ◌*◌, ◌/◌, ◌<◌, ◌||◌, Bool, not, nat_eq, nat_lt, nat_le, min, if◌then◌else◌}
use Rattle.std.specs.Prelude.{ℤ, pos, ◌+ℤ◌, ◌-ℤ◌, ◌≤ℤ◌, ◌<ℤ◌, int_lt, unsigned_abs, List, length, slice_get, position, Option, Some, None}
use Rattle.std.specs.Option.{option_map}
use Rattle.grid_base.specs.declared.TheConstants.{LENGTH_MAX}
use Rattle.grid_base.specs.declared.Point.{Point}
use Rattle.mesh_sizing.specs.declared.sizing.Band.{Band}
use Rattle.track_held.specs.declared.band_table.Cells.{Cells}
use Rattle.track_held.specs.declared.band_table.GivenBand.{GivenBand}
use Rattle.track_held.specs.declared.band_table.TableFault.{TableFault}
use Rattle.track_held.specs.declared.band_table.TableFault.TheVariants.{NoSide, Miscounted, NoBand}

-- the band that is given
abbrev pub band_in : GivenBand → Band
band_in row = record { low = row.low; high = row.high }

-- whether it is none: its low end is not below its high end, or that is above `LENGTH_MAX`
abbrev pub is_no_band : GivenBand → Bool
is_no_band row = nat_le row.high row.low || nat_lt LENGTH_MAX row.high

-- how many cells there are
abbrev pub cell_count : Cells → ℕ
cell_count c = c.nx * (c.ny * c.nz)

-- whether there is no cell, or not a band for each
abbrev pub is_miscounted : Cells → ℕ → Bool
is_miscounted cells count = nat_eq count 0 || not (nat_eq (cell_count cells) count)

-- The first fault of cells and their bands, in this order: the cells have no side; there is none, or
-- not a band for each; a band is none, which is told by its place, from 0. None exactly where each
-- cell has its band.
abbrev pub table_fault : Cells → List GivenBand → Option TableFault
table_fault cells rows =
    if nat_eq cells.side 0 then Some NoSide
    else if is_miscounted cells (length rows) then Some Miscounted
    else option_map (λ place. NoBand place) (position is_no_band rows)

-- Along one axis, of so many cells of a side from a coordinate on, from 0: that in which a coordinate
-- lies, or where it is in none, the nearest.
abbrev pub cell_along : ℤ → ℕ → ℕ → ℤ → ℕ
cell_along from side many at =
    if int_lt at from then 0 else min (unsigned_abs (at -ℤ from) / side) (many - 1)

-- the place of the cell of a point, or of the nearest cell, from 0: x runs first, then y, then z
abbrev pub place_of : Cells → Point → ℕ
place_of c p =
    cell_along c.x c.side c.nx p.x
    + c.nx * (cell_along c.y c.side c.ny p.y + c.ny * cell_along c.z c.side c.nz p.z)

-- the band of that cell
abbrev pub by_cells : Cells → List GivenBand → Point → Band → Type 0
by_cells cells rows at answer =
    option_map band_in (slice_get rows (place_of cells at)) ≡ Some answer

-- along one axis a coordinate lies in the cell of this place: from its lower wall on, and before its
-- upper one
pub record LiesAlong (from : ℤ) (side place : ℕ) (at : ℤ) : Type 0 where
  pub low : (from +ℤ pos (place * side)) ≤ℤ at
  pub high : at <ℤ (from +ℤ pos ((place + 1) * side))

-- a point that lies in a cell has the band of that cell
abbrev pub CellsHaveTheirBands : Type 0
CellsHaveTheirBands = (cells : Cells) (rows : List GivenBand) (i j k : ℕ) (row : GivenBand)
    (p : Point) → i < cells.nx → j < cells.ny → k < cells.nz
    → slice_get rows (i + cells.nx * (j + cells.ny * k)) ≡ Some row
    → LiesAlong cells.x cells.side i p.x → LiesAlong cells.y cells.side j p.y
    → LiesAlong cells.z cells.side k p.z → by_cells cells rows p (band_in row)

-- before all cells the first is the nearest, and behind them the last
abbrev pub EndsAreNearest : Type 0
EndsAreNearest = (from : ℤ) (side many : ℕ) (at : ℤ) → 0 < side → 0 < many
    → (at <ℤ from → cell_along from side many at ≡ 0)
    × ((from +ℤ pos (many * side)) ≤ℤ at → cell_along from side many at ≡ many - 1)
