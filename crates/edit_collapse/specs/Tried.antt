-- When a collapse is tried, and what is left of the faces at its end.
use Rattle.std.specs.Prelude.{◌≡◌, ◌≢◌, ℕ, zero, suc, ◌+◌, ◌==◌, is_some, if◌then◌else◌}
use Rattle.std.specs.Prelude.{◌&&◌, not, false, true, List, ◌∷◌, [], slice_get, Bool, map}
use Rattle.std.specs.Option.{option_map, option_map_or, unwrap_or}
use Rattle.std.proofs.Common.{Option}
use Rattle.std.specs.List.{filter, filter_map, flat_map, find, list_any}
use Rattle.std.specs.List.Sorted.{IsStrictlySortedBy}
use Rattle.std.specs.Ordering.{nat_cmp}
use Rattle.std.specs.FinMap as finite
use Rattle.mesh_base.specs.declared.ids.Corners.{Corners}
use Rattle.mesh_base.specs.Mesh.{Mesh, IsSound}
use Rattle.mesh_base.specs.Sides.{has_corner, faces_at}
use Rattle.mesh_base.specs.Pairs.{is_edge}
use Rattle.edit_base.specs.Edges.{doubles_a_face, renamed, with_renamed}
use Rattle.mesh_base.specs.Changes.{without_face, without_vertex, corner_list}
use Rattle.edit_base.specs.Reasons.{is_full}
use Rattle.edit_collapse.specs.Collapse.{are_both_solid, has_face, collapse_mesh, collapse_point}
use Rattle.edit_collapse.specs.Collapse.{joined_faces, are_opposite, without_shared, with_joined}

-- the faces at the vertex that is left, after the third act
abbrev pub left_at : Mesh → ℕ → ℕ → List (ℕ × Corners)
left_at m a b = filter (λ e. has_corner e.1 a) (finite.entries (joined_faces m a b).faces)

-- after the third act no two faces are equal up to rotation, which the faces at its end tell
abbrev pub TellsDoubled : List (ℕ × Corners) → Bool → Type 0
TellsDoubled left answer = (m : Mesh) (a b : ℕ) → IsSound m → a ≢ b → left ≡ left_at m a b →
    answer ≡ doubles_a_face (joined_faces m a b)

-- the ends are an edge and not both solid, no face is doubled, and no limit passed
pub record MayBeTried (m : Mesh) (a b : ℕ) : Type 0 where
  pub edge : is_edge m a b ≡ true
  pub may_move : are_both_solid m a b ≡ false
  pub undoubled : doubles_a_face (joined_faces m a b) ≡ false
  pub full : is_full m (collapse_mesh m a b (collapse_point m a b)) ≡ false

-- ---- the third act on the faces at the joined vertex alone
-- the least face of the list that is opposite to the corners
abbrev pub opposite_in : List (ℕ × Corners) → Corners → Option ℕ
opposite_in es c = option_map (λ e. e.0) (find (λ e. are_opposite c e.1) es)

-- the least face of the list that has an opposite there, with its least opposite
abbrev pub two_in : List (ℕ × Corners) → Option (ℕ × ℕ)
two_in es =
    slice_get (filter_map (λ e. option_map (λ opposite. (e.0, opposite)) (opposite_in es e.1)) es) 0

-- two faces less
abbrev pub without_two : ℕ → ℕ → List (ℕ × Corners) → List (ℕ × Corners)
without_two f g es = filter (λ e. not (e.0 == f) && not (e.0 == g)) es

-- the first two that cancel are dropped
abbrev pub one_cancelled_in : List (ℕ × Corners) → List (ℕ × Corners)
one_cancelled_in es = option_map_or (λ two. without_two two.0 two.1 es) (two_in es) es

-- the same, so many times
abbrev pub cancelled_in : ℕ → List (ℕ × Corners) → List (ℕ × Corners)
cancelled_in zero es = es
cancelled_in (suc n) es = cancelled_in n (one_cancelled_in es)

-- the faces at a before the third act
abbrev pub joined_at : Mesh → ℕ → ℕ → List (ℕ × Corners)
joined_at m a b =
    filter (λ e. has_corner e.1 a) (finite.entries (with_joined (without_shared m a b) a b).faces)

-- a face with its corners, as a list of one, if it is live and does not hold the vertex
abbrev pub if_apart : Mesh → ℕ → ℕ → List (ℕ × Corners)
if_apart m other f =
    option_map_or (λ c. if has_corner c other then [] else (f, c) ∷ []) (finite.get m.faces f) []

-- the faces that hold the one vertex and not the other, rising
abbrev pub only_at : Mesh → ℕ → ℕ → List (ℕ × Corners)
only_at m v other =
    filter (λ e. has_corner e.1 v && not (has_corner e.1 other)) (finite.entries m.faces)

-- corners under rising ids, with one vertex in another's place
abbrev pub numbered : ℕ → ℕ → ℕ → List (ℕ × Corners) → List (ℕ × Corners)
numbered from to next [] = []
numbered from to next (e ∷ es) = (next, renamed from to e.1) ∷ numbered from to (next + 1) es

-- the corners of a face, if it is live
abbrev pub corners_if_live : Mesh → ℕ → List ℕ
corners_if_live m f = unwrap_or (option_map corner_list (finite.get m.faces f)) []

-- the corners of the faces at a vertex, each as often as it is one
abbrev pub corners_near : Mesh → ℕ → List ℕ
corners_near m v = flat_map (λ f. corners_if_live m f) (faces_at m v)

-- the numbers of the list but one
abbrev pub others_than : ℕ → List ℕ → List ℕ
others_than but vs = filter (λ v. not (v == but)) vs

-- a vertex is dropped, if it is live and has no face
abbrev pub without_if_bare : Mesh → ℕ → Mesh
without_if_bare m v =
    if not (has_face m v) && is_some (finite.get m.points v) then without_vertex m v else m

-- the list has the id
abbrev pub has_id_in : List (ℕ × Corners) → ℕ → Bool
has_id_in es f = list_any (λ e. e.0 == f) es

-- the ids rise
abbrev pub AreRising : List (ℕ × Corners) → Type 0
AreRising es = IsStrictlySortedBy nat_cmp (map (λ e. e.0) es)

-- a face is dropped, and the next id used up
abbrev pub with_id_used_up : Mesh → ℕ → Mesh
with_id_used_up m f = record (without_face m f) { next_face = m.next_face + 1 }

-- a live face is dropped, and made again with one vertex in another's place if its new id is one of
-- the list's; else the new id is used up
abbrev pub with_joined_or_gone : ℕ → ℕ → List (ℕ × Corners) → Mesh → ℕ → Mesh
with_joined_or_gone from to left m f =
    if is_some (finite.get m.faces f) then
    (if has_id_in left m.next_face then with_renamed from to m f else with_id_used_up m f)
    else m
