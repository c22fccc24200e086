-- Where vertices stand, and which are solid.
use Rattle.std.specs.Prelude.{Bool, false, Option, Some, None}
use Rattle.std.specs.Ordering.{nat_cmp}
use Rattle.std.specs.FinMap as finite
use Rattle.grid_base.specs.declared.Point.{Point}
use Rattle.mesh_base.specs.Mesh.{IdSet}
use Rattle.half_mesh.specs.declared.row.Vertex.{Vertex}
use Rattle.half_mesh.specs.Fans.{Fans}
use Rattle.half_mesh.specs.Mapped.{map_values}

-- vertices by their ids
abbrev pub VertexMap : Type 0
VertexMap = finite.FinMap nat_cmp Vertex

-- the vertices that have fans
abbrev pub vertices_in : Fans → VertexMap
vertices_in fans = map_values (λ fan. fan.vertex) fans

-- where they stand
abbrev pub points_in : VertexMap → finite.FinMap nat_cmp Point
points_in vertices = map_values (λ x. x.point) vertices

-- whether there is a vertex, and it is solid
abbrev pub is_marked : Option Vertex → Bool
is_marked None = false
is_marked (Some x) = x.solid

-- the ids of those that are solid
abbrev pub solid_in : VertexMap → IdSet
solid_in vertices =
    finite.retain_keys (map_values (λ x. tt) vertices) (λ v. is_marked (finite.get vertices v))
