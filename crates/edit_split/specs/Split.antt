-- The split of an edge.
use Rattle.std.specs.Prelude.{ℕ, ◌+◌, Bool, List, [], ◌∷◌}
use Rattle.std.specs.FinMap as finite
use Rattle.grid_base.specs.declared.Point.{Point}
use Rattle.grid_base.specs.Points.{position_of}
use Rattle.grid_base.specs.Triples.{times}
use Rattle.edit_base.specs.declared.scaffold.Touch.TheVariants.{Never}
use Rattle.mesh_base.specs.declared.ids.Corners.{Corners}
use Rattle.mesh_base.specs.Mesh.{Mesh}
use Rattle.mesh_base.specs.Changes.{with_vertex}
use Rattle.edit_base.specs.Edges.{Edge, floor_mid, exact_mid, corners_from, without_faces, with_faces}
use Rattle.mesh_base.specs.Placements.{point_of}
use Rattle.mesh_base.specs.Limits.{are_over}
use Rattle.edit_base.specs.Scaffold.{Scaffold}

-- the two faces beside the edge
abbrev pub faces_beside : Edge → List ℕ
faces_beside s = s.left_face ∷ s.right_face ∷ []

-- the four faces round a new vertex w
abbrev pub split_faces : Edge → ℕ → List Corners
split_faces s w =
    corners_from s.a w s.c ∷ corners_from w s.b s.c ∷ corners_from s.b w s.d
    ∷ corners_from w s.a s.d ∷ []

-- the two faces beside the edge are dropped, and four are made round a new vertex at a point
abbrev pub split_mesh : Mesh → Edge → Point → Mesh
split_mesh m s at =
    with_faces (with_vertex (without_faces m (faces_beside s)) at) (split_faces s m.next_vertex)

-- a split would pass a limit: it takes room for one vertex and two faces, and the
-- ids of one vertex and four faces
abbrev pub split_is_over : Mesh → Bool
split_is_over m =
    are_over m.limits (finite.len m.points + 1) (finite.len m.faces + 2)
    (m.next_vertex + 1) (m.next_face + 4)

-- where the new vertex is put
abbrev pub split_point : Mesh → Edge → Point
split_point m s = floor_mid (point_of m s.a) (point_of m s.b)

-- the result, with the new vertex going from the exact midpoint to its point
abbrev pub split_scaffold : Mesh → Edge → Scaffold
split_scaffold m s =
    let at = split_point m s in
    record {
      mesh = split_mesh m s at;
      moves =
          record { v = m.next_vertex; start = exact_mid m s.a s.b; end = times 2 (position_of at) }
          ∷ [];
      touch = Never;
      together = [];
    }
