-- Where the vertices of a mesh stand, how they move, and when the mesh is clear.
use Rattle.std.specs.Prelude.{ℕ, ◌<◌, ◌≤◌, pos}
use Rattle.std.specs.FinMap as finite
use Rattle.std.proofs.Common.{Option, Some, None}
use Rattle.grid_base.specs.declared.Point.{Point}
use Rattle.grid_base.specs.Triples.{Triple, times}
use Rattle.grid_base.specs.declared.Positions.{Positions}
use Rattle.grid_base.specs.Meeting.{MeetAt}
use Rattle.grid_base.specs.Motion.{position_at}
use Rattle.grid_base.specs.Points.{position_of, point_at}
use Rattle.mesh_base.specs.Mesh.{Mesh}
use Rattle.mesh_base.specs.Pairs.{Pair, IsPair}

-- where each vertex stands
abbrev pub Placement : Type 0
Placement = ℕ → Triple

-- where each vertex begins and ends
pub record Motion : Type 0 where
  pub start : Placement
  pub end : Placement

-- the position where all coordinates are zero
abbrev pub origin : Triple
origin = record { x = pos 0; y = pos 0; z = pos 0 }

-- the position of a point, and the origin where there is none
abbrev pub position_or_origin : Option Point → Triple
position_or_origin (Some p) = position_of p
position_or_origin None = origin

-- each live vertex at its point, and any other at the origin
abbrev pub rest_positions : Mesh → Placement
rest_positions m v = position_or_origin (finite.get m.points v)

-- the point where a vertex stands, and the origin where it is not live
abbrev pub point_of : Mesh → ℕ → Point
point_of m v = point_at (rest_positions m v)

-- the same places in half units
abbrev pub rest_positions_doubled : Mesh → Placement
rest_positions_doubled m v = times 2 (rest_positions m v)

-- where the ends and the corners of a pair stand
abbrev pub positions : Placement → Pair → Positions
positions at p = record {
  a = at p.name.a;
  b = at p.name.b;
  c = at p.corners.first;
  d = at p.corners.second;
  e = at p.corners.third;
}

-- where each vertex stands at p/q of its way, in units of 1/q
abbrev pub at_fraction : ℕ → ℕ → Motion → Placement
at_fraction p q w v = position_at p q (w.start v) (w.end v)

-- no pair meets
abbrev pub IsClear : Mesh → Placement → Type 0
IsClear m at = (p : Pair) → IsPair m p → ¬ (MeetAt (positions at p))

-- the mesh is clear where its vertices stand
abbrev pub IsClearMesh : Mesh → Type 0
IsClearMesh m = IsClear m (rest_positions m)

-- clear at every fraction
abbrev pub IsClearAlong : Mesh → Motion → Type 0
IsClearAlong m w = (p q : ℕ) → 0 < q → p ≤ q → IsClear m (at_fraction p q w)

-- clear at every fraction above zero
abbrev pub IsClearAfter : Mesh → Motion → Type 0
IsClearAfter m w = (p q : ℕ) → 0 < p → p ≤ q → IsClear m (at_fraction p q w)

-- clear at every fraction below one
abbrev pub IsClearBefore : Mesh → Motion → Type 0
IsClearBefore m w = (p q : ℕ) → p < q → IsClear m (at_fraction p q w)
