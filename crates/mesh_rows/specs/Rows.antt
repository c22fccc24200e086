-- The mesh of vertices and faces with their ids.
use Rattle.std.specs.Prelude.{ℕ, map}
use Rattle.std.specs.FinMap as finite
use Rattle.grid_base.specs.declared.Point.{Point}
use Rattle.mesh_base.specs.declared.ids.Corners.{Corners}
use Rattle.mesh_base.specs.Mesh.{Mesh}
use Rattle.mesh_base.specs.declared.limits.Scale.{Scale}
use Rattle.mesh_base.specs.Limits.{limits_of}
use Rattle.mesh_rows.specs.declared.rows.VertexRow.{VertexRow}
use Rattle.mesh_rows.specs.declared.rows.FaceRow.{FaceRow}
use Rattle.mesh_rows.specs.declared.rows.MeshRows.{MeshRows}

-- where a vertex stands, at its id
abbrev pub vertex_entry : VertexRow → ℕ × Point
vertex_entry row = (row.id, row.at)

-- the corners of a face, at its id
abbrev pub face_entry : FaceRow → ℕ × Corners
face_entry row = (row.id, row.corners)

-- nothing, at the id of a solid vertex
abbrev pub solid_entry : ℕ → ℕ × Unit {0}
solid_entry v = (v, tt)

-- each vertex, face and solid vertex at its id, the next ids as they are told, and the limits of a
-- scale
abbrev pub mesh_of_rows : Scale → MeshRows → Mesh
mesh_of_rows scale rows = record {
  points = finite.from_entries (map vertex_entry rows.vertices);
  faces = finite.from_entries (map face_entry rows.faces);
  solid = finite.from_entries (map solid_entry rows.solids);
  next_vertex = rows.next_vertex;
  next_face = rows.next_face;
  limits = limits_of scale;
}
