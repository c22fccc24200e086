-- The collapse of an edge a, b to one point.
use Rattle.std.specs.Prelude.{◌≡◌, ℕ, zero, suc, ◌==◌, ◌&&◌, ◌||◌, not, Bool, List, [], ◌∷◌, is_some, slice_get, if◌then◌else◌}
use Rattle.std.specs.Option.{option_map, option_map_or}
use Rattle.std.specs.List.{filter, filter_map, find, fold}
use Rattle.std.proofs.Common.{Option, Some}
use Rattle.std.specs.FinMap as finite
use Rattle.grid_base.specs.declared.Point.{Point}
use Rattle.grid_base.specs.Points.{position_of}
use Rattle.grid_base.specs.Triples.{times}
use Rattle.mesh_base.specs.declared.ids.Corners.{Corners}
use Rattle.edit_base.specs.declared.scaffold.Touch.TheVariants.{End}
use Rattle.mesh_base.specs.Mesh.{Mesh, is_solid, equal_up_to_rotation}
use Rattle.mesh_base.specs.Sides.{has_corner, faces_where, faces_at}
use Rattle.mesh_base.specs.Changes.{without_vertex, with_point, with_solid}
use Rattle.mesh_base.specs.Placements.{point_of}
use Rattle.edit_base.specs.Edges.{floor_mid, corners_from, without_faces, with_all_renamed}
use Rattle.edit_base.specs.Scaffold.{Scaffold, move_from_rest}

-- First act: the faces that hold both are dropped.
abbrev pub without_shared : Mesh → ℕ → ℕ → Mesh
without_shared m a b = without_faces m (faces_where (λ c. has_corner c a && has_corner c b) m)

-- Second act: each face that holds b is made again with a in its place, in rising order.
abbrev pub with_joined : Mesh → ℕ → ℕ → Mesh
with_joined m a b = with_all_renamed b a m (faces_at m b)

-- the same corners in reverse cyclic order
abbrev pub are_opposite : Corners → Corners → Bool
are_opposite c d = equal_up_to_rotation (corners_from c.third c.second c.first) d

-- the least face that is opposite to these corners
abbrev pub least_opposite : Mesh → Corners → Option ℕ
least_opposite m c = option_map (λ e. e.0) (find (λ e. are_opposite c e.1) (finite.entries m.faces))

-- the faces at a that have an opposite, rising, each with its least opposite
abbrev pub with_opposites : Mesh → ℕ → List (ℕ × ℕ)
with_opposites m a =
    filter_map (λ e. option_map (λ opposite. (e.0, opposite)) (least_opposite m e.1))
    (filter (λ e. has_corner e.1 a) (finite.entries m.faces))

-- the least face at a that has an opposite is dropped together with its least opposite
abbrev pub with_one_cancelled : ℕ → Mesh → Mesh
with_one_cancelled a m =
    option_map_or (λ two. without_faces m (two.0 ∷ two.1 ∷ [])) (slice_get (with_opposites m a) 0) m

-- the same, so many times
abbrev pub cancelled_times : ℕ → ℕ → Mesh → Mesh
cancelled_times zero a m = m
cancelled_times (suc n) a m = cancelled_times n a (with_one_cancelled a m)

-- Third act: that is done until no face at a has an opposite. Each time two faces go, so as many
-- times as there are faces are enough.
abbrev pub with_cancelled : Mesh → ℕ → Mesh
with_cancelled m a = cancelled_times (finite.len m.faces) a m

-- Third act, as it is said: from one mesh to another, until none is left.
pub data Cancels (a : ℕ) : Mesh → Mesh → Type 0 where
  none_left : {m : Mesh} → with_opposites m a ≡ [] → Cancels a m m
  one_more : {m n : Mesh} (f g : ℕ) → slice_get (with_opposites m a) 0 ≡ Some (f, g) →
      Cancels a (without_faces m (f ∷ g ∷ [])) n → Cancels a m n

-- the mesh after the third act
abbrev pub joined_faces : Mesh → ℕ → ℕ → Mesh
joined_faces m a b = with_cancelled (with_joined (without_shared m a b) a b) a

-- whether some face has the vertex as a corner
abbrev pub has_face : Mesh → ℕ → Bool
has_face m v = is_some (slice_get (faces_at m v) 0)

-- Fourth act: b and every vertex that had a face before and has none now are dropped.
abbrev pub without_bare : Mesh → ℕ → Mesh → Mesh
without_bare before b now =
    fold without_vertex now
    (filter (λ v. (v == b) || (has_face before v && not (has_face now v))) (finite.keys now.points))

-- neither end may move
abbrev pub are_both_solid : Mesh → ℕ → ℕ → Bool
are_both_solid m a b = is_solid m a && is_solid m b

-- one end at least may not move
abbrev pub has_solid_end : Mesh → ℕ → ℕ → Bool
has_solid_end m a b = is_solid m a || is_solid m b

-- a vertex at a point, and made solid if it is to be
abbrev pub placed : Bool → Mesh → ℕ → Point → Mesh
placed solid m v at = if solid then with_solid (with_point m v at) v else with_point m v at

-- the same, if the vertex is left
abbrev pub placed_if_left : Bool → Mesh → ℕ → Point → Mesh
placed_if_left solid m v at = if finite.contains_key m.points v then placed solid m v at else m

-- the result: a, if it is left, stands at the point, and is solid where an end was.
-- Whatever is dropped loses its mark
abbrev pub collapse_mesh : Mesh → ℕ → ℕ → Point → Mesh
collapse_mesh m a b at =
    placed_if_left (has_solid_end m a b) (without_bare m b (joined_faces m a b)) a at

-- where the two ends go: the point of the end that is solid, and the
-- midpoint, rounded down, where neither is
abbrev pub collapse_point : Mesh → ℕ → ℕ → Point
collapse_point m a b =
    if is_solid m a then point_of m a
    else (if is_solid m b then point_of m b else floor_mid (point_of m a) (point_of m b))

-- the old mesh, with both ends going to a point. A pair of which one member holds a
-- and the other holds b is to close.
abbrev pub collapse_scaffold : Mesh → ℕ → ℕ → Point → Scaffold
collapse_scaffold m a b at =
    let end = times 2 (position_of at) in
    record {
      mesh = m;
      moves = move_from_rest m a end ∷ move_from_rest m b end ∷ [];
      touch = End;
      together = a ∷ b ∷ [];
    }
