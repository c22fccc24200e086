-- What the sizing of the program is.
use Rattle.std.specs.Prelude.{ℕ, ◌+◌, ◌/◌, max, unsigned_abs}
use Rattle.grid_base.specs.declared.Point.{Point}
use Rattle.mesh_sizing.specs.declared.Band.{Band}

-- the greatest size of a coordinate
abbrev pub size_of : Point → ℕ
size_of p = max (max (unsigned_abs p.x) (unsigned_abs p.y)) (unsigned_abs p.z)

-- how long an edge may be at a point
abbrev pub shipped_band : Point → Band
shipped_band p = record { low = 20 + size_of p / 64; high = 60 + size_of p / 16 }
