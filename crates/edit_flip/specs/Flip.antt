-- The flip of an edge.
use Rattle.std.specs.Prelude.{List, [], ◌∷◌}
use Rattle.mesh_base.specs.declared.ids.Corners.{Corners}
use Rattle.mesh_base.specs.Mesh.{Mesh}
use Rattle.edit_base.specs.Edges.{Edge, exact_mid, corners_from, without_faces, with_faces}
use Rattle.edit_base.specs.Scaffold.{Scaffold}
use Rattle.edit_split.specs.Split.{faces_beside, split_scaffold}

-- the split's, with the new vertex going from the middle of the edge to the
-- middle of the two opposite vertices
abbrev pub flip_scaffold : Mesh → Edge → Scaffold
flip_scaffold m s = record (split_scaffold m s) {
  moves = record { v = m.next_vertex; start = exact_mid m s.a s.b; end = exact_mid m s.c s.d } ∷ [];
}

-- the two faces at the edge of the opposite vertices
abbrev pub flip_faces : Edge → List Corners
flip_faces s = corners_from s.a s.d s.c ∷ corners_from s.b s.c s.d ∷ []

-- the two faces beside the edge are dropped, and two are made at the edge of the opposite vertices
abbrev pub flip_mesh : Mesh → Edge → Mesh
flip_mesh m s = with_faces (without_faces m (faces_beside s)) (flip_faces s)
