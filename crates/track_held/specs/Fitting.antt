-- A sizing that is the same everywhere.
use Rattle.std.specs.Prelude.{◌≡◌}
use Rattle.grid_base.specs.declared.Point.{Point}
use Rattle.mesh_sizing.specs.declared.sizing.Band.{Band}

-- this band at each point
abbrev pub always : Band → Point → Band → Type 0
always band at answer = answer ≡ band
