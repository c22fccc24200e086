-- Boxes in 32 bits a coordinate, which are counted from the least coordinate.
use Rattle.std.specs.Prelude.{ℕ, Bool, ◌&&◌, nat_le, ℤ, pos, ◌+ℤ◌, unsigned_abs}
use Rattle.grid_base.specs.declared.TheConstants.{EXTENT_MAX}
use Rattle.grid_base.specs.declared.Extent.{Extent}
use Rattle.cell_grid.specs.declared.bounds.Interval.{Interval}
use Rattle.cell_grid.specs.declared.bounds.Bounds.{Bounds}

-- a coordinate, counted from the least one
abbrev pub offset : ℤ → ℕ
offset a = unsigned_abs (a +ℤ pos EXTENT_MAX)

-- the bounds of an extent
abbrev pub bounds_of : Extent → Bounds
bounds_of e = record {
  x = record { low = offset e.low.x; high = offset e.high.x };
  y = record { low = offset e.low.y; high = offset e.high.y };
  z = record { low = offset e.low.z; high = offset e.high.z };
}

-- whether two intervals have a common number
abbrev pub intervals_meet : Interval → Interval → Bool
intervals_meet a b = nat_le a.low b.high && nat_le b.low a.high

-- whether two boxes have a common point
abbrev pub bounds_meet : Bounds → Bounds → Bool
bounds_meet a b = intervals_meet a.x b.x && intervals_meet a.y b.y && intervals_meet a.z b.z
