-- The points of vertices in a list by id.
use Rattle.std.specs.Prelude.{◌≡◌, ℕ, List, Some, slice_get}
use Rattle.grid_base.specs.declared.Point.{Point}
use Rattle.mesh_base.specs.Mesh.{Mesh}
use Rattle.mesh_base.specs.Placements.{point_of}

-- each point in the list is that of the vertex of its id, and the origin where that is not live
abbrev pub ArePlaced : Mesh → List Point → Type 0
ArePlaced m points = (v : ℕ) (p : Point) → slice_get points v ≡ Some p → p ≡ point_of m v
