-- The mesh that rows make one after another.
use Rattle.std.specs.Prelude.{ℕ, List, [], ◌∷◌}
use Rattle.mesh_base.specs.Mesh.{Mesh}
use Rattle.mesh_base.specs.Changes.{with_vertex, with_face, with_solid}
use Rattle.mesh_base.specs.declared.limits.Scale.{Scale}
use Rattle.mesh_base.specs.Limits.{limits_of, under}
use Rattle.mesh_base.specs.Given.{empty_mesh}
use Rattle.mesh_shape.specs.Numbered.{numbered}
use Rattle.mesh_rows.specs.declared.rows.VertexRow.{VertexRow}
use Rattle.mesh_rows.specs.declared.rows.FaceRow.{FaceRow}
use Rattle.mesh_rows.specs.declared.rows.MeshRows.{MeshRows}

-- a vertex more, with its own id; the next id is one above it
abbrev pub with_vertex_row : Mesh → VertexRow → Mesh
with_vertex_row m row = with_vertex (numbered m row.id m.next_face) row.at

-- the same of each of these
abbrev pub with_vertex_rows : Mesh → List VertexRow → Mesh
with_vertex_rows m [] = m
with_vertex_rows m (row ∷ rows) = with_vertex_rows (with_vertex_row m row) rows

-- a face more, with its own id; the next id is one above it
abbrev pub with_face_row : Mesh → FaceRow → Mesh
with_face_row m row = with_face (numbered m m.next_vertex row.id) row.corners

-- the same of each of these
abbrev pub with_face_rows : Mesh → List FaceRow → Mesh
with_face_rows m [] = m
with_face_rows m (row ∷ rows) = with_face_rows (with_face_row m row) rows

-- each of these vertices solid
abbrev pub with_solids : Mesh → List ℕ → Mesh
with_solids m [] = m
with_solids m (v ∷ vs) = with_solids (with_solid m v) vs

-- a mesh with nothing in it, with the limits of a scale
abbrev pub empty_under : Scale → Mesh
empty_under scale = under (limits_of scale) empty_mesh

-- the mesh of the vertices alone
abbrev pub of_vertices : Scale → MeshRows → Mesh
of_vertices scale rows = with_vertex_rows (empty_under scale) rows.vertices

-- the mesh of the vertices, with the faces
abbrev pub of_faces : Scale → MeshRows → Mesh
of_faces scale rows = with_face_rows (of_vertices scale rows) rows.faces

-- that with the fixed (solid) vertices
abbrev pub of_all_rows : Scale → MeshRows → Mesh
of_all_rows scale rows = with_solids (of_faces scale rows) rows.solids
