-- The first three acts as the call makes them: on its way the mesh is that of the definition, but for the faces at the joined vertex that the third act drops.
use Rattle.std.proofs.Common.{◌≡◌, ◌≢◌, ⊎_elim, ℕ, ◌+◌, ◌<◌, ◌≤◌, Bool, true, false, cond, if◌then◌else◌, ◌&&◌, ◌||◌, ◌==◌, not, T, List, [], ◌∷◌, map, Option, Some, None, IsSome, is_some, refl, sym, ap, subst, ◌∙◌, arith}
use Rattle.std.proofs.lemmas.Bool.{false≢true, eqb-true}
use Rattle.std.proofs.lemmas.Bool.Decides.{nat_tests}
use Rattle.std.proofs.lemmas.Map.Views.{tells_apart, any-filter_same}
use Rattle.std.proofs.lemmas.Map.Lookups.{exact_unsigned}
use Rattle.std.specs.Option.{unwrap_or}
use Rattle.std.specs.List.{filter, list_any}
use Rattle.std.specs.Ordering.{nat_cmp, eq_by_cmp}
use Rattle.std.specs.Cmp.{nat_cmp_total, unsigned_tied}
use Rattle.std.specs.FinMap as finite
use Rattle.std.specs.FinMap.{same_map, nat_cmp-IsAntisymmetric, get-insert, get-remove}
use Rattle.std.specs.FinMap.Entries.{is_sorted, below_all}
use Rattle.grid_base.specs.declared.TheConstants.{ID_MAX}
use Rattle.mesh_base.specs.declared.ids.Corners.{Corners}
use Rattle.mesh_base.specs.Mesh.{Mesh, IsSound, IsLiveVertex, HasCorners, equal_up_to_rotation}
use Rattle.mesh_base.specs.Sides.{has_corner, faces_at, faces_where, IsClosed}
use Rattle.mesh_base.specs.Changes.{with_face, without_face, IsFresh}
use Rattle.mesh_base.proofs.Finite.{got_after_remove}
use Rattle.mesh_base.proofs.WalkSteps.{both_of}
use Rattle.edit_base.specs.Edges.{renamed, corners_at, without_faces, with_renamed, with_all_renamed, doubles_a_face}
use Rattle.edit_collapse.specs.Collapse.{without_shared, with_joined, joined_faces, collapse_point}
use Rattle.edit_acts.proofs.Flow.{AreBelow, not_live, below_next}
use Rattle.edit_acts.proofs.Changed.{points-without_faces, solid-without_faces, next_face-without_faces}
use Rattle.edit_collapse.proofs.Joined.{single_left, renamed_lacks, next_vertex-without_faces, limits-without_faces}
use Rattle.edit_collapse.proofs.JoinedFaces.{joined, different_left}
use Rattle.edit_collapse.proofs.CollapseMesh.{were_live}
use Rattle.edit_acts.proofs.Undoubled.{undoubled}
use Rattle.edit_collapse.specs.Tried.{only_at, has_id_in, left_at, with_joined_or_gone}
use Rattle.edit_collapse.proofs.Acts.{faces_kept_at, same_held, renamed_has, Wait, renamed_once, made_below, wait_on, one_stays, one_below, first_wait, rising, two_is}
use Rattle.edit_collapse.proofs.Three.{three_cut, kind_found, kind_has, kept, same_some, three_kept, stays_along, two_from, ids_taken}

-- the mesh `now` is `n`, but for the faces at a that are not left; some of its faces wait
pub record Halfway (a b : ℕ) (left : List (ℕ × Corners)) (n now : Mesh) (es : List (ℕ × Corners)) : Type 0 where
  pub points : now.points ≡ n.points
  pub solid : now.solid ≡ n.solid
  pub next_vertex : now.next_vertex ≡ n.next_vertex
  pub next_face : now.next_face ≡ n.next_face
  pub limits : now.limits ≡ n.limits
  pub faces : (k : ℕ) → finite.get now.faces k ≡ kept a left k (finite.get n.faces k)
  pub below : AreBelow n
  pub rising : T (is_sorted nat_cmp es)
  pub wait : Wait a b n es

module _ (a b : ℕ) (left : List (ℕ × Corners)) (n now : Mesh) (e : ℕ × Corners) (es : List (ℕ × Corners)) (h : Halfway a b left n now (e ∷ es)) where
  abbrev bare : Mesh
  bare = without_face n e.0

  abbrev made : Corners
  made = renamed b a e.1

  parts : T (below_all nat_cmp e.0 es) × T (is_sorted nat_cmp es)
  parts = both_of (below_all nat_cmp e.0 es) (is_sorted nat_cmp es) h.rising

  pub here : HasCorners now e.0 e.1
  here = h.faces e.0 ∙ ap (kept a left e.0) (h.wait.0).0 ∙ ap (λ t. cond (t && not (has_id_in left e.0)) None (Some e.1)) (h.wait.0).2

  -- what the step makes, by whether the new face is left
  abbrev after : Bool → Mesh
  after t = if t then with_face (without_face now e.0) made else record (without_face now e.0) { next_face = now.next_face + 1 }

  after_is : with_joined_or_gone b a left now e.0 ≡ after (has_id_in left now.next_face)
  after_is = λ i. if is_some (here i) then (if has_id_in left now.next_face then with_face (without_face now e.0) (renamed b a (unwrap_or (here i) (record { first = 0; second = 0; third = 0 }))) else record (without_face now e.0) { next_face = now.next_face + 1 }) else now

  -- a face that is neither the old one nor the new one
  kept_old : (k : ℕ) (t : Bool) → cond t None (finite.get now.faces k) ≡ kept a left k (cond t None (finite.get n.faces k))
  kept_old k true = refl
  kept_old k false = h.faces k

  same_at_next : (k : ℕ) → eq_by_cmp nat_cmp k n.next_face ≡ true → finite.get now.faces k ≡ None
  same_at_next k e = h.faces k ∙ ap (λ j. kept a left k (finite.get n.faces j)) (tells_apart exact_unsigned k n.next_face e) ∙ ap (kept a left k) (not_live n h.below)

  none_at : (t : Bool) (o : Option Corners) → o ≡ None → cond t None o ≡ None
  none_at true o e = refl
  none_at false o e = e

  new_faces : (t : Bool) → has_id_in left now.next_face ≡ t → (k : ℕ) → finite.get (after t).faces k ≡ kept a left k (finite.get (with_face bare made).faces k)
  new_faces true u k =
      get-insert nat_cmp_total (without_face now e.0).faces now.next_face made k
      ∙ (λ i. cond (eq_by_cmp nat_cmp k (h.next_face i)) (Some made) (get-remove nat_cmp_total now.faces e.0 k i))
      ∙ by_key (eq_by_cmp nat_cmp k n.next_face) refl
      ∙ ap (kept a left k) (sym (get-insert nat_cmp_total bare.faces n.next_face made k ∙ ap (λ o. cond (eq_by_cmp nat_cmp k n.next_face) (Some made) o) (get-remove nat_cmp_total n.faces e.0 k)))
    where
      by_key : (t : Bool) → eq_by_cmp nat_cmp k n.next_face ≡ t → cond t (Some made) (cond (eq_by_cmp nat_cmp k e.0) None (finite.get now.faces k)) ≡ kept a left k (cond t (Some made) (cond (eq_by_cmp nat_cmp k e.0) None (finite.get n.faces k)))
      by_key false q = kept_old k (eq_by_cmp nat_cmp k e.0)
      by_key true q =
          let found : has_id_in left k ≡ true = ap (has_id_in left) (tells_apart exact_unsigned k n.next_face q ∙ sym h.next_face) ∙ u in
          sym (λ i. cond (renamed_has a b e.1 (h.wait.0).1 i && not (found i)) None (Some made))
  new_faces false u k =
      get-remove nat_cmp_total now.faces e.0 k
      ∙ by_key (eq_by_cmp nat_cmp k n.next_face) refl
      ∙ ap (kept a left k) (sym (get-insert nat_cmp_total bare.faces n.next_face made k ∙ ap (λ o. cond (eq_by_cmp nat_cmp k n.next_face) (Some made) o) (get-remove nat_cmp_total n.faces e.0 k)))
    where
      by_key : (t : Bool) → eq_by_cmp nat_cmp k n.next_face ≡ t → cond (eq_by_cmp nat_cmp k e.0) None (finite.get now.faces k) ≡ kept a left k (cond t (Some made) (cond (eq_by_cmp nat_cmp k e.0) None (finite.get n.faces k)))
      by_key false q = kept_old k (eq_by_cmp nat_cmp k e.0)
      by_key true q =
          let absent : has_id_in left k ≡ false = ap (has_id_in left) (tells_apart exact_unsigned k n.next_face q ∙ sym h.next_face) ∙ u in
          none_at (eq_by_cmp nat_cmp k e.0) (finite.get now.faces k) (same_at_next k q)
          ∙ sym (λ i. cond (renamed_has a b e.1 (h.wait.0).1 i && not (absent i)) None (Some made))

  same_points : (t : Bool) → (after t).points ≡ now.points
  same_points true = refl
  same_points false = refl

  same_solid : (t : Bool) → (after t).solid ≡ now.solid
  same_solid true = refl
  same_solid false = refl

  same_vertex : (t : Bool) → (after t).next_vertex ≡ now.next_vertex
  same_vertex true = refl
  same_vertex false = refl

  same_limits : (t : Bool) → (after t).limits ≡ now.limits
  same_limits true = refl
  same_limits false = refl

  one_taken : (t : Bool) → (after t).next_face ≡ now.next_face + 1
  one_taken true = refl
  one_taken false = refl

  pub step : Halfway a b left (with_face bare made) (with_joined_or_gone b a left now e.0) es
  step = subst (λ k. Halfway a b left (with_face bare made) k es) (sym after_is) (
      let t = has_id_in left now.next_face in
      record {
        points = same_points t ∙ h.points;
        solid = same_solid t ∙ h.solid;
        next_vertex = same_vertex t ∙ h.next_vertex;
        next_face = one_taken t ∙ ap (λ k. k + 1) h.next_face;
        limits = same_limits t ∙ h.limits;
        faces = new_faces t refl;
        below = made_below a b n e es h.below h.wait;
        rising = parts.1;
        wait = wait_on a b n e es h.below h.wait parts.0;
      }
      )

pub points_along : (a b : ℕ) (es : List (ℕ × Corners)) (n : Mesh) → (with_all_renamed b a n (map (λ e. e.0) es)).points ≡ n.points
points_along a b [] n = refl
points_along a b (e ∷ es) n = points_along a b es (with_renamed b a n e.0)

-- ---- faces less
got_without : (fs : List ℕ) (n : Mesh) (k : ℕ) → finite.get (without_faces n fs).faces k ≡ cond (list_any (λ f. f == k) fs) None (finite.get n.faces k)
got_without [] n k = refl
got_without (f ∷ fs) n k =
    got_without fs (without_face n f) k
    ∙ ap (λ o. cond (list_any (λ g. g == k) fs) None o) (get-remove nat_cmp_total n.faces f k ∙ ap (λ t. cond t None (finite.get n.faces k)) (unsigned_tied k f ∙ turned k f))
    ∙ joined_tests (f == k) (list_any (λ g. g == k) fs) (finite.get n.faces k)
  where
    turned : (x y : ℕ) → (x == y) ≡ (y == x)
    turned x y = grind (arith, nat_tests)

    joined_tests : (p q : Bool) (o : Option Corners) → cond q None (cond p None o) ≡ cond (p || q) None o
    joined_tests true true o = refl
    joined_tests true false o = refl
    joined_tests false q o = refl

any_ids : (es : List (ℕ × Corners)) (k : ℕ) → list_any (λ f. f == k) (map (λ e. e.0) es) ≡ has_id_in es k
any_ids [] k = refl
any_ids (e ∷ es) k = ap (λ t. (e.0 == k) || t) (any_ids es k)

is_at : (m : Mesh) (v k : ℕ) (c : Corners) → HasCorners m k c → has_id_in (faces_kept_at v m) k ≡ has_corner c v
is_at m v k c there = by_tests (has_corner c v) refl (has_id_in (faces_kept_at v m) k) refl
  where
    by_tests : (t : Bool) → has_corner c v ≡ t → (u : Bool) → has_id_in (faces_kept_at v m) k ≡ u → u ≡ t
    by_tests true t true u = refl
    by_tests true t false u = absurd (false≢true (sym u ∙ kind_has m v k c there t))
    by_tests false t true u =
        let found = kind_found m v k u in
        absurd (false≢true (sym t ∙ ap (λ (d : Corners). has_corner d v) (same_some c found.0 (finite.get m.faces k) there found.1) ∙ found.2))
    by_tests false t false u = refl

-- the faces at a that are not left
abbrev pub gone : List (ℕ × Corners) → Mesh → ℕ → List ℕ
gone left m a = filter (λ f. not (has_id_in left f)) (faces_at m a)

is_gone : (left : List (ℕ × Corners)) (m : Mesh) (a k : ℕ) (c : Corners) → HasCorners m k c → list_any (λ f. f == k) (gone left m a) ≡ (not (has_id_in left k) && has_corner c a)
is_gone left m a k c there =
    any-filter_same (λ f. f == k) (λ f. not (has_id_in left f)) (not (has_id_in left k)) (λ f e. ap (λ j. not (has_id_in left j)) (eqb-true f k e)) (faces_at m a)
    ∙ ap (λ t. not (has_id_in left k) && t) (any_ids (faces_kept_at a m) k ∙ is_at m a k c there)

-- ---- the call
-- on the way through the second act: the faces of the list still wait
pub record OnTheWay (m : Mesh) (a b : ℕ) (now : Mesh) (es : List (ℕ × Corners)) : Type 0 where
  pub n : Mesh
  pub half : Halfway a b (left_at m a b) n now es
  pub then_two : with_all_renamed b a n (map (λ e. e.0) es) ≡ with_joined (without_shared m a b) a b

module _ (m : Mesh) (a b : ℕ) (sound : IsSound m) (apart : a ≢ b) where
  abbrev one : Mesh
  one = without_shared m a b

  abbrev two : Mesh
  two = with_joined one a b

  abbrev three : Mesh
  three = joined_faces m a b

  abbrev left : List (ℕ × Corners)
  left = left_at m a b

  abbrev shared : List ℕ
  shared = faces_where (λ c. has_corner c a && has_corner c b) m

  -- a face that is left and was there before does not hold both
  left_single : (k : ℕ) (c : Corners) → HasCorners m k c → has_id_in left k ≡ true → HasCorners one k c
  left_single k c there found =
      let at = kind_found three a k found in
      ⊎_elim
      (λ old. subst (HasCorners one k) (same_some at.0 c (finite.get m.faces k) (single_left m a b sound apart k at.0 old).0 there) old)
      (λ new. absurd (less k m.next_face (below_next m sound k (ap is_some there)) new.1))
      (two_from m a b sound apart k at.0 ((three_cut m a b).part k at.0 at.1))
    where
      less : (x y : ℕ) → x < y → y ≤ x → ⊥
      less x y h k = omega arith

  one_is : (k : ℕ) → finite.get m.faces k ≡ None → finite.get one.faces k ≡ None
  one_is k none = by_answer (finite.get one.faces k) refl
    where
      by_answer : (o : Option Corners) → finite.get one.faces k ≡ o → o ≡ None
      by_answer None e = refl
      by_answer (Some c) e = let there : Some c ≡ None = sym (single_left m a b sound apart k c e).0 ∙ none in cc

  first_faces : (k : ℕ) → finite.get (without_faces m (gone left m a)).faces k ≡ kept a left k (finite.get one.faces k)
  first_faces k = got_without (gone left m a) m k ∙ by_answer (finite.get m.faces k) refl
    where
      either_none : (t : Bool) → cond {A = Option Corners} t None None ≡ None
      either_none true = refl
      either_none false = refl

      by_one : (c : Corners) → HasCorners m k c → (o : Option Corners) → finite.get one.faces k ≡ o → None ≡ kept a left k o → has_corner c a ≡ true → has_id_in left k ≡ false → None ≡ kept a left k (finite.get one.faces k)
      by_one c there o e is t u = is ∙ ap (kept a left k) (sym e)

      by_tests : (c : Corners) → HasCorners m k c → (t u : Bool) → has_corner c a ≡ t → has_id_in left k ≡ u → cond (not u && t) None (Some c) ≡ kept a left k (finite.get one.faces k)
      by_tests c there true true t u = sym (ap (kept a left k) (left_single k c there u) ∙ (λ i. cond (t i && not (u i)) None (Some c)))
      by_tests c there false true t u = sym (ap (kept a left k) (one_stays m a b sound apart k c there (ap (λ p. p && has_corner c b) t)) ∙ (λ i. cond (t i && not (u i)) None (Some c)))
      by_tests c there false false t u = sym (ap (kept a left k) (one_stays m a b sound apart k c there (ap (λ p. p && has_corner c b) t)) ∙ (λ i. cond (t i && not (u i)) None (Some c)))
      by_tests c there true false t u = by_single (finite.get one.faces k) refl
        where
          by_single : (o : Option Corners) → finite.get one.faces k ≡ o → None ≡ kept a left k o
          by_single None e = refl
          by_single (Some d) e =
              let same : c ≡ d = same_some c d (finite.get m.faces k) there (single_left m a b sound apart k d e).0 in
              sym (λ i. cond ((sym (ap (λ (x : Corners). has_corner x a) same) ∙ t) i && not (u i)) None (Some d))

      by_answer : (o : Option Corners) → finite.get m.faces k ≡ o → cond (list_any (λ f. f == k) (gone left m a)) None o ≡ kept a left k (finite.get one.faces k)
      by_answer None e = either_none (list_any (λ f. f == k) (gone left m a)) ∙ sym (ap (kept a left k) (one_is k e))
      by_answer (Some c) e = ap (λ t. cond t None (Some c)) (is_gone left m a k c e) ∙ by_tests c e (has_corner c a) (has_id_in left k) refl refl

  pub begun : OnTheWay m a b (without_faces m (gone left m a)) (only_at m b a)
  begun = record {
    n = one;
    half = record {
      points = points-without_faces m (gone left m a) ∙ sym (points-without_faces m shared);
      solid = solid-without_faces m (gone left m a) ∙ sym (solid-without_faces m shared);
      next_vertex = next_vertex-without_faces m (gone left m a) ∙ sym (next_vertex-without_faces m shared);
      next_face = next_face-without_faces m (gone left m a) ∙ sym (next_face-without_faces m shared);
      limits = limits-without_faces m (gone left m a) ∙ sym (limits-without_faces m shared);
      faces = first_faces;
      below = one_below m a b sound apart;
      rising = rising m a b sound apart;
      wait = first_wait m a b sound apart;
    };
    then_two = sym (two_is m a b sound apart);
  }

  pub goes_on : (now : Mesh) (e : ℕ × Corners) (es : List (ℕ × Corners)) → OnTheWay m a b now (e ∷ es) → OnTheWay m a b (with_joined_or_gone b a left now e.0) es
  goes_on now e es way = record {
    n = with_face (without_face way.n e.0) (renamed b a e.1);
    half = step a b left way.n now e es way.half;
    then_two = ap (λ k. with_all_renamed b a k (map (λ x. x.0) es)) (sym (renamed_once a b way.n e es way.half.below way.half.wait)) ∙ way.then_two;
  }

  pub at_end : (now : Mesh) → OnTheWay m a b now [] → now ≡ three
  at_end now way =
      let cut = three_cut m a b in
      let h = way.half in
      let same_faces : now.faces ≡ three.faces = same_map nat_cmp_total nat_cmp-IsAntisymmetric now.faces three.faces
      (λ k. h.faces k ∙ ap (λ (n : Mesh). kept a left k (finite.get n.faces k)) way.then_two ∙ sym (three_kept m a b k)) in
      let points = h.points ∙ ap (λ (n : Mesh). n.points) way.then_two ∙ sym cut.points in
      let marks = h.solid ∙ ap (λ (n : Mesh). n.solid) way.then_two ∙ sym cut.solid in
      let vertex = h.next_vertex ∙ ap (λ (n : Mesh). n.next_vertex) way.then_two ∙ sym cut.next_vertex in
      let face = h.next_face ∙ ap (λ (n : Mesh). n.next_face) way.then_two ∙ sym cut.next_face in
      let limits = h.limits ∙ ap (λ (n : Mesh). n.limits) way.then_two ∙ sym cut.limits in
      λ i. record { points = points i; faces = same_faces i; solid = marks i; next_vertex = vertex i; next_face = face i; limits = limits i }

  -- an id is left for each face that waits
  pub has_id : (now : Mesh) (e : ℕ × Corners) (es : List (ℕ × Corners)) → OnTheWay m a b now (e ∷ es) → three.next_face ≤ ID_MAX + 1 → now.next_face ≤ ID_MAX
  has_id now e es way fits =
      let taken = ids_taken a b (e ∷ es) way.n in
      let is = ap (λ (n : Mesh). n.next_face) way.then_two in
      let same = (three_cut m a b).next_face in
      let begins = way.half.next_face in
      omega (arith, taken, is, same, begins, fits)

  -- the new face may be made, if it is left
  pub is_fresh : IsClosed m → IsLiveVertex m a → doubles_a_face three ≡ false → (now : Mesh) (e : ℕ × Corners) (es : List (ℕ × Corners)) → OnTheWay m a b now (e ∷ es) → has_id_in left now.next_face ≡ true →
      IsFresh (without_face now e.0) (renamed b a (corners_at now e.0))
  is_fresh closed a_live none now e es way found = subst (λ (c : Corners). IsFresh (without_face now e.0) c) (sym (ap (λ o. renamed b a (unwrap_or o (record { first = 0; second = 0; third = 0 }))) (here a b left way.n now e es h))) (record {
    live = let live = were_live m a b (collapse_point m a b) sound closed apart a_live now.next_face made there in
        (still_live made.first live.0, still_live made.second live.1, still_live made.third live.2);
    different = different_left m a b sound apart three (joined m a b sound apart closed) now.next_face made there;
    new = λ g d old. not_true (equal_up_to_rotation d made) (λ same. is_new g d (got_after_remove now.faces e.0 g d old).1 same);
  })
    where
      h : Halfway a b left way.n now (e ∷ es)
      h = way.half

      made : Corners
      made = renamed b a e.1

      parts : T (below_all nat_cmp e.0 es) × T (is_sorted nat_cmp es)
      parts = both_of (below_all nat_cmp e.0 es) (is_sorted nat_cmp es) h.rising

      not_true : (t : Bool) → (t ≡ true → ⊥) → t ≡ false
      not_true true never = absurd (never refl)
      not_true false never = refl

      -- in the definition it is made now, and stays
      inserted : HasCorners (with_face (without_face way.n e.0) made) now.next_face made
      inserted = get-insert nat_cmp_total (without_face way.n e.0).faces way.n.next_face made now.next_face
          ∙ ap (λ t. cond t (Some made) (finite.get (without_face way.n e.0).faces now.next_face)) (unsigned_tied now.next_face way.n.next_face ∙ same now.next_face way.n.next_face h.next_face)
        where
          same : (x y : ℕ) → x ≡ y → (x == y) ≡ true
          same x y e = grind (arith, nat_tests)

      two_made : HasCorners two now.next_face made
      two_made = subst (λ k. HasCorners k now.next_face made) (ap (λ k. with_all_renamed b a k (map (λ x. x.0) es)) (sym (renamed_once a b way.n e es h.below h.wait)) ∙ way.then_two)
          (stays_along a b es (with_face (without_face way.n e.0) made) (made_below a b way.n e es h.below h.wait) parts.1 (wait_on a b way.n e es h.below h.wait parts.0) now.next_face made inserted (renamed_lacks a b e.1 apart))

      there : HasCorners three now.next_face made
      there =
          let at = kind_found three a now.next_face found in
          at.1 ∙ ap (λ (c : Corners). Some c) (same_some at.0 made (finite.get two.faces now.next_face) ((three_cut m a b).part now.next_face at.0 at.1) two_made)

      same_points : m.points ≡ now.points
      same_points = sym (h.points ∙ sym (points_along a b (e ∷ es) way.n) ∙ ap (λ (k : Mesh). k.points) way.then_two ∙ sym (three_cut m a b).points ∙ (joined m a b sound apart closed).points)

      still_live : (v : ℕ) → IsLiveVertex m v → IsLiveVertex (without_face now e.0) v
      still_live v live = subst (λ ps. IsSome (finite.get ps v)) same_points live

      -- what is kept at a is left
      kept_is : (g : ℕ) (d : Corners) (o : Option Corners) → finite.get way.n.faces g ≡ o → kept a left g o ≡ Some d → has_corner d a ≡ true → HasCorners way.n g d × (has_id_in left g ≡ true)
      kept_is g d None e is held = absurd cc
      kept_is g d (Some c) e is held = by_tests (has_corner c a) refl (has_id_in left g) refl is
        where
          by_tests : (t : Bool) → has_corner c a ≡ t → (u : Bool) → has_id_in left g ≡ u → cond (t && not u) None (Some c) ≡ Some d → HasCorners way.n g d × (has_id_in left g ≡ true)
          by_tests true t true u is = (e ∙ is, u)
          by_tests true t false u is = absurd cc
          by_tests false t u v is = let same : c ≡ d = cc in absurd (false≢true (sym t ∙ ap (λ (x : Corners). has_corner x a) same ∙ held))

      is_new : (g : ℕ) (d : Corners) → HasCorners now g d → equal_up_to_rotation d made ≡ true → ⊥
      is_new g d old same =
          let held : has_corner d a ≡ true = same_held d made a same ∙ renamed_has a b e.1 (h.wait.0).1 in
          let lacks : has_corner d b ≡ false = same_held d made b same ∙ renamed_lacks a b e.1 apart in
          let was = kept_is g d (finite.get way.n.faces g) refl (sym (h.faces g) ∙ old) held in
          let in_two : HasCorners two g d = subst (λ k. HasCorners k g d) way.then_two (stays_along a b (e ∷ es) way.n h.below h.rising h.wait g d was.0 lacks) in
          let in_three : HasCorners three g d = three_kept m a b g ∙ ap (kept a left g) in_two ∙ (λ i. cond (held i && not (was.1 i)) None (Some d)) in
          less g way.n.next_face (h.below g (ap is_some was.0)) (undoubled three none g now.next_face d made in_three there same ∙ h.next_face)
        where
          less : (x y : ℕ) → x < y → x ≡ y → ⊥
          less x y h e = omega arith
