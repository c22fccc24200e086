-- Which faces are near a box: those whose own boxes have a common point with it.
use Rattle.std.specs.Prelude.{ℕ, ℤ, ◌&&◌, ◌||◌, Bool, false, int_le, List}
use Rattle.std.specs.List.{filter}
use Rattle.std.specs.FinMap as finite
use Rattle.std.proofs.Common.{Option, Some, None}
use Rattle.grid_base.specs.Triples.{Triple}
use Rattle.grid_base.specs.declared.Extent.{Extent}
use Rattle.mesh_base.specs.declared.ids.Corners.{Corners}
use Rattle.mesh_base.specs.Mesh.{Mesh}
use Rattle.mesh_base.specs.Placements.{rest_positions_doubled}

-- one of three coordinates is at or below the end
abbrev pub one_at_most : ℤ → ℤ → ℤ → ℤ → Bool
one_at_most high a b c = int_le a high || int_le b high || int_le c high

-- one of three coordinates is at or above the end
abbrev pub one_at_least : ℤ → ℤ → ℤ → ℤ → Bool
one_at_least low a b c = int_le low a || int_le low b || int_le low c

-- along an axis: one of three coordinates is at or below the high
-- end, and one at or above the low end
abbrev pub reach_along : ℤ → ℤ → ℤ → ℤ → ℤ → Bool
reach_along low high a b c = one_at_most high a b c && one_at_least low a b c

-- the box of three positions has a common point with the extent
abbrev pub box_meets : Extent → Triple → Triple → Triple → Bool
box_meets at p q r =
    reach_along at.low.x at.high.x p.x q.x r.x
    && reach_along at.low.y at.high.y p.y q.y r.y
    && reach_along at.low.z at.high.z p.z q.z r.z

-- the box of the corners does so, where they stand, in half units
abbrev pub is_near : Mesh → Extent → Corners → Bool
is_near m at c =
    box_meets at (rest_positions_doubled m c.first) (rest_positions_doubled m c.second)
    (rest_positions_doubled m c.third)

-- the same of a face that may not live
abbrev pub is_some_near : Mesh → Extent → Option Corners → Bool
is_some_near m at (Some c) = is_near m at c
is_some_near m at None = false

-- the same of a face of the mesh
abbrev pub is_face_near : Mesh → Extent → ℕ → Bool
is_face_near m at f = is_some_near m at (finite.get m.faces f)

-- the faces near the extent, rising
abbrev pub faces_near : Mesh → Extent → List ℕ
faces_near m at = filter (λ f. is_face_near m at f) (finite.keys m.faces)
