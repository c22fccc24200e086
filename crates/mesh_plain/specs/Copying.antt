-- A mesh that is copied into tables, one vertex and one face after another.
use Rattle.std.specs.Prelude.{ℕ, if◌then◌else◌}
use Rattle.std.specs.Option.{option_map_or}
use Rattle.std.specs.List.{fold}
use Rattle.std.specs.FinMap as finite
use Rattle.mesh_base.specs.Mesh.{Mesh, is_solid}
use Rattle.mesh_base.specs.Placements.{point_of}

-- with a vertex of the mesh, and its mark as solid, if it has one
abbrev pub with_vertex_of : Mesh → Mesh → ℕ → Mesh
with_vertex_of m t v = record t {
  points = finite.insert t.points v (point_of m v);
  solid = (if is_solid m v then finite.insert t.solid v tt else t.solid);
}

-- with a face of the mesh
abbrev pub with_face_of : Mesh → Mesh → ℕ → Mesh
with_face_of m t f = record t {
  faces = option_map_or (λ c. finite.insert t.faces f c) (finite.get m.faces f) t.faces;
}

-- with all its vertices
abbrev pub with_vertices_of : Mesh → Mesh → Mesh
with_vertices_of m t = fold (with_vertex_of m) t (finite.keys m.points)

-- with all its faces
abbrev pub with_faces_of : Mesh → Mesh → Mesh
with_faces_of m t = fold (with_face_of m) t (finite.keys m.faces)
