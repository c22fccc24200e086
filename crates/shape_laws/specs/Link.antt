-- The link of an edge, as it has to be for a collapse that keeps the shape.
use Rattle.std.specs.Prelude.{◌==◌, ◌&&◌, ◌||◌, ℕ, Bool, not}
use Rattle.std.specs.List.{list_any}
use Rattle.mesh_base.specs.Mesh.{Mesh}
use Rattle.mesh_base.specs.Sides.{has_corner, faces_at}
use Rattle.mesh_base.specs.Changes.{corner_list}
use Rattle.mesh_base.specs.Pairs.{is_edge, is_crowded}
use Rattle.edit_base.specs.Edges.{Edge, edge_of, corners_at, runs_both_ways}

-- one face at least runs each way along the edge, and the opposite
-- vertices of the first that do are two
abbrev pub has_two_opposites : Mesh → ℕ → ℕ → Bool
has_two_opposites m u v = let s = edge_of m u v in runs_both_ways m s.a s.b && not (s.c == s.d)

-- some corner of a face at the vertex passes
abbrev pub some_near : Mesh → ℕ → (ℕ → Bool) → Bool
some_near m v test = list_any (λ f. list_any test (corner_list (corners_at m f))) (faces_at m v)

-- an edge is poor where it is crowded or its two opposite vertices are one
abbrev pub is_poor_edge : Mesh → ℕ → ℕ → Bool
is_poor_edge m v x = not (x == v) && (is_crowded m v x || not (has_two_opposites m v x))

-- some edge at the vertex is
abbrev pub has_poor_edge : Mesh → ℕ → Bool
has_poor_edge m v = some_near m v (is_poor_edge m v)

-- a neighbour of b that is neither a nor an opposite vertex of the edge
abbrev pub is_other_neighbour : Mesh → Edge → ℕ → Bool
is_other_neighbour m s x = not (x == s.a) && is_edge m s.b x && not (x == s.c) && not (x == s.d)

-- the ends have such a neighbour in common
abbrev pub has_other_neighbour : Mesh → Edge → Bool
has_other_neighbour m s = some_near m s.a (is_other_neighbour m s)

-- some face at the vertex has both other vertices
abbrev pub has_face_with : Mesh → ℕ → ℕ → ℕ → Bool
has_face_with m v c d =
    list_any (λ f. has_corner (corners_at m f) c && has_corner (corners_at m f) d) (faces_at m v)

-- a face at each end has both opposite vertices, so that the two may come to cancel each other
abbrev pub may_faces_cancel : Mesh → Edge → Bool
may_faces_cancel m s = has_face_with m s.a s.c s.d && has_face_with m s.b s.c s.d

-- The link condition: the ends have no neighbours in common but the two opposite
-- vertices; and no two faces cancel, since no edge at an end is poor, and at one end no
-- face has both opposite vertices.
abbrev pub has_plain_link : Mesh → ℕ → ℕ → Bool
has_plain_link m u v =
    let s = edge_of m u v in
    runs_both_ways m s.a s.b && not (may_faces_cancel m s) && not (has_poor_edge m s.a)
    && not (has_poor_edge m s.b) && not (has_other_neighbour m s)
