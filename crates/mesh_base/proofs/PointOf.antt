-- The point of a vertex stands where the vertex does.
use Rattle.std.proofs.Common.{◌≡◌, ℕ, Option, Some, None, refl, ap}
use Rattle.std.specs.FinMap as finite
use Rattle.grid_base.specs.declared.Point.{Point}
use Rattle.grid_base.specs.Points.{position_of, point_at}
use Rattle.grid_base.proofs.PointLaws.{point_at-position_of}
use Rattle.mesh_base.specs.Mesh.{Mesh}
use Rattle.mesh_base.specs.Placements.{rest_positions, position_or_origin, point_of}

pub position_of-point_of : (m : Mesh) (v : ℕ) → position_of (point_of m v) ≡ rest_positions m v
position_of-point_of m v = by_answer (finite.get m.points v)
  where
    by_answer : (o : Option Point) → position_of (point_at (position_or_origin o)) ≡ position_or_origin o
    by_answer (Some p) = ap position_of (point_at-position_of p)
    by_answer None = refl
