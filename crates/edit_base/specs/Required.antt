-- What changes of a mesh require: an edge with the two faces beside it, and room.
use Rattle.std.specs.Prelude.{◌≡◌, ℕ, ◌+◌, ◌≤◌, true}
use Rattle.std.specs.FinMap as finite
use Rattle.grid_base.specs.declared.TheConstants.{ID_MAX}
use Rattle.mesh_base.specs.Mesh.{Mesh}
use Rattle.mesh_base.specs.Pairs.{is_edge}
use Rattle.edit_base.specs.Edges.{Edge, edge_of}

-- the ends are an edge, and the record is that of the ends
pub record HasEdge (m : Mesh) (s : Edge) : Type 0 where
  pub is_edge : is_edge m s.a s.b ≡ true
  pub beside : edge_of m s.a s.b ≡ s

-- so many more faces pass no limit
pub record HasRoomFor (count : ℕ) (m : Mesh) : Type 0 where
  pub faces : finite.len m.faces + count ≤ m.limits.faces
  pub ids : m.next_face + count ≤ ID_MAX + 1
