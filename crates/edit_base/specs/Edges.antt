-- An edge with the two faces beside it, and changes that edits share.
use Rattle.std.specs.Prelude.{⊤, ℕ, ◌==◌, ◌&&◌, ◌||◌, Bool, false, List, [], ◌∷◌, min, max, nat_lt, slice_index, if◌then◌else◌}
use Rattle.std.specs.Option.{unwrap_or}
use Rattle.std.specs.List.{fold, list_any}
use Rattle.std.specs.FinMap as finite
use Rattle.grid_base.specs.declared.Point.{Point}
use Rattle.grid_base.specs.Triples.{Triple, plus, floor_mid_of}
use Rattle.mesh_base.specs.declared.ids.Corners.{Corners}
use Rattle.mesh_base.specs.Mesh.{Mesh, equal_up_to_rotation}
use Rattle.mesh_base.specs.Sides.{runs, faces_running}
use Rattle.mesh_base.specs.Pairs.{is_edge}
use Rattle.mesh_base.specs.Changes.{with_face, without_face, IsFresh}
use Rattle.grid_base.specs.Points.{position_of, point_at}
use Rattle.mesh_base.specs.Placements.{rest_positions}

-- the corners of a face
abbrev pub corners_at : Mesh → ℕ → Corners
corners_at m f = unwrap_or (finite.get m.faces f) (record { first = 0; second = 0; third = 0 })

-- the corner that is neither u nor v, where v follows u
abbrev pub opposite_vertex : Corners → ℕ → ℕ → ℕ
opposite_vertex c u v =
    if c.first == u then c.third else (if c.second == u then c.first else c.second)

-- An edge that is not crowded: its ends, the face that runs a to b with its opposite vertex c, and
-- the face that runs b to a with its opposite vertex d.
pub record Edge : Type 0 where
  pub a : ℕ
  pub b : ℕ
  pub c : ℕ
  pub d : ℕ
  pub left_face : ℕ
  pub right_face : ℕ

-- the face that runs u to v
abbrev pub face_running : Mesh → ℕ → ℕ → ℕ
face_running m u v = slice_index (faces_running m u v) 0

-- the opposite vertex of that face
abbrev pub opposite_beside : Mesh → ℕ → ℕ → ℕ
opposite_beside m u v = opposite_vertex (corners_at m (face_running m u v)) u v

-- a face runs u to v, and one back
abbrev pub runs_both_ways : Mesh → ℕ → ℕ → Bool
runs_both_ways m u v = nat_lt 0 (runs m u v) && nat_lt 0 (runs m v u)

-- two ids, in any order, are the ends of an edge
abbrev pub are_ends : Mesh → ℕ → ℕ → Bool
are_ends m u v = is_edge m (min u v) (max u v)

-- the edge of two ids in any order
abbrev pub edge_of : Mesh → ℕ → ℕ → Edge
edge_of m u v =
    let a = min u v in
    let b = max u v in
    record {
      a = a;
      b = b;
      c = opposite_beside m a b;
      d = opposite_beside m b a;
      left_face = face_running m a b;
      right_face = face_running m b a;
    }

-- the midpoint, each component rounded down
abbrev pub floor_mid : Point → Point → Point
floor_mid p q = point_at (floor_mid_of (position_of p) (position_of q))

-- the midpoint, in half units
abbrev pub exact_mid : Mesh → ℕ → ℕ → Triple
exact_mid m u v = plus (rest_positions m u) (rest_positions m v)

-- the three corners of a face, in order
abbrev pub corners_from : ℕ → ℕ → ℕ → Corners
corners_from u v w = record { first = u; second = v; third = w }

-- the faces are dropped
abbrev pub without_faces : Mesh → List ℕ → Mesh
without_faces m faces = fold without_face m faces

-- faces of these corners are made, in order
abbrev pub with_faces : Mesh → List Corners → Mesh
with_faces m corners = fold with_face m corners

-- each of the corners may be made a face when its turn comes
abbrev pub AreFresh : Mesh → List Corners → Type 0
AreFresh m [] = ⊤
AreFresh m (c ∷ cs) = IsFresh m c × AreFresh (with_face m c) cs

-- the corners with one vertex in another's place
abbrev pub renamed : ℕ → ℕ → Corners → Corners
renamed from to c = record {
  first = (if c.first == from then to else c.first);
  second = (if c.second == from then to else c.second);
  third = (if c.third == from then to else c.third);
}

-- a face is dropped, and made again with one vertex in another's place
abbrev pub with_renamed : ℕ → ℕ → Mesh → ℕ → Mesh
with_renamed from to m f = with_face (without_face m f) (renamed from to (corners_at m f))

-- the same of several faces, in order
abbrev pub with_all_renamed : ℕ → ℕ → Mesh → List ℕ → Mesh
with_all_renamed from to m faces = fold (with_renamed from to) m faces

-- two corners of the list are equal up to rotation
abbrev pub has_equal : List Corners → Bool
has_equal [] = false
has_equal (c ∷ cs) = list_any (λ d. equal_up_to_rotation c d) cs || has_equal cs

-- two faces are equal up to rotation
abbrev pub doubles_a_face : Mesh → Bool
doubles_a_face m = has_equal (finite.values m.faces)
