-- Which points of an edit are midpoints.
use Rattle.std.specs.Prelude.{◌≡◌, ℕ, false}
use Rattle.grid_base.specs.Points.{position_of}
use Rattle.grid_base.specs.Triples.{floor_mid_of}
use Rattle.mesh_base.specs.Mesh.{Mesh}
use Rattle.mesh_base.specs.Placements.{rest_positions}
use Rattle.edit_base.specs.Edges.{Edge}
use Rattle.edit_split.specs.Split.{split_point}
use Rattle.edit_collapse.specs.Collapse.{collapse_point, has_solid_end}

-- The new vertex of a split stands in the middle of the edge, each component rounded down.
abbrev pub SplitsAreHalfway : Type 0
SplitsAreHalfway = (m : Mesh) (s : Edge) →
    position_of (split_point m s) ≡ floor_mid_of (rest_positions m s.a) (rest_positions m s.b)

-- So does the end that a collapse leaves, where neither end is solid.
abbrev pub EndsMeetHalfway : Type 0
EndsMeetHalfway = (m : Mesh) (a b : ℕ) → has_solid_end m a b ≡ false →
    position_of (collapse_point m a b) ≡ floor_mid_of (rest_positions m a) (rest_positions m b)
