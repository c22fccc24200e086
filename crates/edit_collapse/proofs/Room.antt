-- How much a collapse takes: ids of faces, and nothing else.
use Rattle.std.proofs.Common.{◌≡◌, ◌≢◌, ℕ, zero, suc, ◌+◌, ◌<◌, ◌≤◌, Bool, true, false, cond, if◌then◌else◌, not, ◌&&◌, ◌||◌, ◌==◌, nat_lt, T, List, [], ◌∷◌, map, length, slice_get, Option, Some, None, is_some, refl, sym, ap, subst, ◌∙◌, arith}
use Rattle.std.proofs.lemmas.Bool.Decides.{nat_tests}
use Rattle.std.specs.Option.{option_map_or}
use Rattle.std.specs.List.{filter, fold}
use Rattle.std.specs.Ordering.{nat_cmp}
use Rattle.std.specs.Cmp.{nat_cmp_total}
use Rattle.std.specs.FinMap as finite
use Rattle.std.specs.FinMap.{len-insert}
use Rattle.std.specs.FinMap.Entries.{is_sorted, below_all}
use Rattle.grid_base.specs.declared.TheConstants.{ID_MAX}
use Rattle.grid_base.specs.declared.Point.{Point}
use Rattle.mesh_base.specs.declared.ids.Corners.{Corners}
use Rattle.mesh_base.specs.Mesh.{Mesh, IsSound, IsLiveVertex}
use Rattle.mesh_base.specs.Pairs.{is_edge}
use Rattle.mesh_base.specs.Sides.{faces_where, has_corner}
use Rattle.mesh_base.specs.Changes.{without_vertex, without_face, with_face}
use Rattle.mesh_base.specs.Limits.{are_over, is_over_limits}
use Rattle.mesh_base.proofs.Listed.{edge_live}
use Rattle.mesh_base.proofs.WalkSteps.{both_of}
use Rattle.edit_base.specs.Edges.{renamed, without_faces, with_all_renamed}
use Rattle.edit_collapse.specs.Collapse.{without_shared, with_joined, with_opposites, with_one_cancelled, cancelled_times, joined_faces, has_face, without_bare, has_solid_end, placed, placed_if_left, collapse_mesh, collapse_point}
use Rattle.edit_base.specs.Reasons.{is_full}
use Rattle.edit_collapse.proofs.Cancelled.{len-remove_le}
use Rattle.edit_acts.proofs.Changed.{points-without_faces}
use Rattle.edit_acts.proofs.Flow.{AreBelow}
use Rattle.edit_collapse.proofs.CollapseMesh.{dropped_faces, dropped_next, placed_points, placed_faces, placed_next}
use Rattle.edit_acts.proofs.Counting.{len-insert_le, len-without}
use Rattle.edit_collapse.proofs.Joined.{next_vertex-without_faces, limits-without_faces}
use Rattle.edit_collapse.specs.Tried.{only_at}
use Rattle.edit_collapse.proofs.Acts.{Wait, renamed_once, made_below, wait_on, one_below, first_wait, rising, two_is}
use Rattle.edit_collapse.proofs.Halfway.{points_along}
use Rattle.edit_collapse.proofs.Three.{three_cut, three_next}

-- ---- what is left in each act
abbrev bare_list : Mesh → ℕ → Mesh → List ℕ
bare_list m b three = filter (λ v. (v == b) || (has_face m v && not (has_face three v))) (finite.keys three.points)

next_of : (m : Mesh) (a b : ℕ) (at : Point) → ((collapse_mesh m a b at).next_vertex ≡ (joined_faces m a b).next_vertex) × ((collapse_mesh m a b at).next_face ≡ (joined_faces m a b).next_face) × ((collapse_mesh m a b at).limits ≡ (joined_faces m a b).limits)
next_of m a b at =
    let four = without_bare m b (joined_faces m a b) in
    let ended = placed_next (has_solid_end m a b) (finite.contains_key four.points a) four a at in
    let dropped = dropped_next (bare_list m b (joined_faces m a b)) (joined_faces m a b) in
    (ended.0 ∙ dropped.0, ended.1 ∙ dropped.1, ended.2 ∙ dropped.2)

last_of : (p q : Bool) → (p || q) ≡ false → q ≡ false
last_of true q e = cc
last_of false q e = e

-- where no limit is passed, the ids fit
pub ids_fit : (m : Mesh) (a b : ℕ) → is_full m (collapse_mesh m a b (collapse_point m a b)) ≡ false → (joined_faces m a b).next_face ≤ ID_MAX + 1
ids_fit m a b fits =
    let r = collapse_mesh m a b (collapse_point m a b) in
    subst (λ k. k ≤ ID_MAX + 1) (next_of m a b (collapse_point m a b)).1
    (at_most r.next_face (ID_MAX + 1) (last_of (nat_lt r.limits.vertices (finite.len r.points) || nat_lt r.limits.faces (finite.len r.faces) || nat_lt (ID_MAX + 1) r.next_vertex) (nat_lt (ID_MAX + 1) r.next_face) (last_of (is_over_limits m) (is_over_limits r) fits)))
  where
    at_most : (v n : ℕ) → nat_lt n v ≡ false → v ≤ n
    at_most v n h = grind (arith, nat_tests)

-- the ends of an edge are live
pub first_is_live : (m : Mesh) (a b : ℕ) → IsSound m → is_edge m a b ≡ true → IsLiveVertex m a
first_is_live m a b sound edge = (edge_live m a b sound (less _ edge)).0
  where
    less : (k : ℕ) → nat_lt 0 k ≡ true → 0 < k
    less k h = grind (arith, nat_tests)

-- ---- counts
fewer_without : (fs : List ℕ) (n : Mesh) → finite.len (without_faces n fs).faces ≤ finite.len n.faces
fewer_without [] n = omega arith
fewer_without (f ∷ fs) n = let rest = fewer_without fs (without_face n f) in let one = len-remove_le n.faces f in omega (arith, rest, one)

fewer_renamed : (a b : ℕ) (es : List (ℕ × Corners)) (n : Mesh) → AreBelow n → T (is_sorted nat_cmp es) → Wait a b n es → finite.len (with_all_renamed b a n (map (λ e. e.0) es)).faces ≤ finite.len n.faces
fewer_renamed a b [] n below rising wait = omega arith
fewer_renamed a b (e ∷ es) n below rising wait =
    let parts = both_of (below_all nat_cmp e.0 es) (is_sorted nat_cmp es) rising in
    let bare = without_face n e.0 in
    let rest = fewer_renamed a b es (with_face bare (renamed b a e.1)) (made_below a b n e es below wait) parts.1 (wait_on a b n e es below wait parts.0) in
    let one = len-insert_le bare.faces n.next_face (renamed b a e.1) in
    let dropped = len-without n.faces e.0 (ap is_some (wait.0).0) in
    subst (λ (k : Mesh). finite.len (with_all_renamed b a k (map (λ x. x.0) es)).faces ≤ finite.len n.faces) (sym (renamed_once a b n e es below wait)) (omega (arith, rest, one, dropped))

fewer_cancelled : (k a : ℕ) (n : Mesh) → finite.len (cancelled_times k a n).faces ≤ finite.len n.faces
fewer_cancelled zero a n = omega arith
fewer_cancelled (suc k) a n = let rest = fewer_cancelled k a (with_one_cancelled a n) in let once = by_two (slice_get (with_opposites n a) 0) in omega (arith, rest, once)
  where
    by_two : (o : Option (ℕ × ℕ)) → finite.len (option_map_or (λ two. without_faces n (two.0 ∷ two.1 ∷ [])) o n).faces ≤ finite.len n.faces
    by_two None = omega arith
    by_two (Some two) = fewer_without (two.0 ∷ two.1 ∷ []) n

fewer_dropped : (vs : List ℕ) (n : Mesh) → finite.len (fold without_vertex n vs).points ≤ finite.len n.points
fewer_dropped [] n = omega arith
fewer_dropped (v ∷ vs) n = let rest = fewer_dropped vs (without_vertex n v) in let one = len-remove_le n.points v in omega (arith, rest, one)

as_many : (s : Bool) (n : Mesh) (v : ℕ) (at : Point) → finite.len (placed_if_left s n v at).points ≡ finite.len n.points
as_many s n v at = by_test (finite.contains_key n.points v) refl
  where
    by_test : (t : Bool) → finite.contains_key n.points v ≡ t → finite.len (if t then placed s n v at else n).points ≡ finite.len n.points
    by_test true e = ap finite.len (placed_points s n v at) ∙ len-insert nat_cmp_total n.points v at ∙ ap (λ t. cond t (finite.len n.points) (finite.len n.points + 1)) e
    by_test false e = refl

vertex_along : (a b : ℕ) (es : List (ℕ × Corners)) (n : Mesh) → (with_all_renamed b a n (map (λ e. e.0) es)).next_vertex ≡ n.next_vertex
vertex_along a b [] n = refl
vertex_along a b (e ∷ es) n = vertex_along a b es (with_all_renamed b a n (e.0 ∷ []))

limits_along : (a b : ℕ) (es : List (ℕ × Corners)) (n : Mesh) → (with_all_renamed b a n (map (λ e. e.0) es)).limits ≡ n.limits
limits_along a b [] n = refl
limits_along a b (e ∷ es) n = limits_along a b es (with_all_renamed b a n (e.0 ∷ []))

module _ (m : Mesh) (a b : ℕ) (sound : IsSound m) (apart : a ≢ b) (at : Point) where
  abbrev one : Mesh
  one = without_shared m a b

  abbrev two : Mesh
  two = with_joined one a b

  abbrev three : Mesh
  three = joined_faces m a b

  abbrev four : Mesh
  four = without_bare m b three

  abbrev result : Mesh
  result = collapse_mesh m a b at

  abbrev shared : List ℕ
  shared = faces_where (λ c. has_corner c a && has_corner c b) m

  pub three_points : three.points ≡ m.points
  three_points = (three_cut m a b).points ∙ ap (λ (n : Mesh). n.points) (two_is m a b sound apart) ∙ points_along a b (only_at m b a) one ∙ points-without_faces m shared

  three_vertex : three.next_vertex ≡ m.next_vertex
  three_vertex = (three_cut m a b).next_vertex ∙ ap (λ (n : Mesh). n.next_vertex) (two_is m a b sound apart) ∙ vertex_along a b (only_at m b a) one ∙ next_vertex-without_faces m shared

  result_limits : result.limits ≡ m.limits
  result_limits = (next_of m a b at).2 ∙ (three_cut m a b).limits ∙ ap (λ (n : Mesh). n.limits) (two_is m a b sound apart) ∙ limits_along a b (only_at m b a) one ∙ limits-without_faces m shared

  few_faces : finite.len result.faces ≤ m.limits.faces
  few_faces =
      let same = ap finite.len (placed_faces (has_solid_end m a b) (finite.contains_key four.points a) four a at ∙ dropped_faces (bare_list m b three) three) in
      let third = fewer_cancelled (finite.len two.faces) a two in
      let second = fewer_renamed a b (only_at m b a) one (one_below m a b sound apart) (rising m a b sound apart) (first_wait m a b sound apart) in
      let is = ap (λ (n : Mesh). finite.len n.faces) (two_is m a b sound apart) in
      let first = fewer_without shared m in
      let limit = sound.limits.faces in
      omega (arith, same, third, second, is, first, limit)

  few_vertices : finite.len result.points ≤ m.limits.vertices
  few_vertices =
      let ended = as_many (has_solid_end m a b) four a at in
      let dropped = fewer_dropped (bare_list m b three) three in
      let same = ap finite.len three_points in
      let limit = sound.limits.vertices in
      omega (arith, ended, dropped, same, limit)

  within : (n v : ℕ) → v ≤ n → nat_lt n v ≡ false
  within n v h = grind (arith, nat_tests)

  -- only the next face id can pass its limit
  pub over_is : is_full m result ≡ nat_lt (ID_MAX + 1) (m.next_face + length (only_at m b a))
  over_is =
      let next = next_of m a b at in
      (λ i. old_fits i || is_over_limits result)
      ∙ (λ i. are_over (result_limits i) (finite.len result.points) (finite.len result.faces) result.next_vertex result.next_face)
      ∙ (λ i. within m.limits.vertices (finite.len result.points) few_vertices i || within m.limits.faces (finite.len result.faces) few_faces i || ids_of_vertices i || nat_lt (ID_MAX + 1) result.next_face)
      ∙ ap (nat_lt (ID_MAX + 1)) (next.1 ∙ three_next m a b sound apart)
    where
      old_fits : is_over_limits m ≡ false
      old_fits = λ i. within m.limits.vertices (finite.len m.points) sound.limits.vertices i || within m.limits.faces (finite.len m.faces) sound.limits.faces i || within (ID_MAX + 1) m.next_vertex sound.limits.vertex_ids.1 i || within (ID_MAX + 1) m.next_face sound.limits.face_ids.1 i

      ids_of_vertices : nat_lt (ID_MAX + 1) result.next_vertex ≡ false
      ids_of_vertices = ap (nat_lt (ID_MAX + 1)) ((next_of m a b at).0 ∙ three_vertex) ∙ within (ID_MAX + 1) m.next_vertex sound.limits.vertex_ids.1
