-- The faces of a collapse after the second and after the third act.
use Rattle.std.proofs.Common.{◌≡◌, ◌≢◌, ◌⊎◌, ⊎_elim, inl, inr, ℕ, zero, suc, ◌+◌, ◌<◌, ◌≤◌, Bool, true, false, cond, ◌&&◌, not, T, List, [], ◌∷◌, map, length, slice_get, Option, Some, None, is_some, refl, sym, ap, subst, ◌∙◌, arith}
use Rattle.std.proofs.lemmas.Bool.{false≢true}
use Rattle.std.specs.Option.{option_map_or}
use Rattle.std.specs.Ordering.{nat_cmp}
use Rattle.std.specs.FinMap as finite
use Rattle.std.specs.FinMap.Entries.{is_sorted, below_all}
use Rattle.mesh_base.specs.declared.ids.Corners.{Corners}
use Rattle.mesh_base.specs.Mesh.{Mesh, IsSound, HasCorners}
use Rattle.mesh_base.specs.Sides.{has_corner, faces_where}
use Rattle.mesh_base.specs.Changes.{with_face, without_face}
use Rattle.mesh_base.proofs.Finite.{got_after_remove, got_after_insert}
use Rattle.mesh_base.proofs.Listed.{all_filter, at_key}
use Rattle.mesh_base.proofs.WalkSteps.{both_of}
use Rattle.edit_base.specs.Edges.{renamed, without_faces, with_all_renamed}
use Rattle.edit_collapse.specs.Collapse.{without_shared, with_joined, with_opposites, with_one_cancelled, cancelled_times, joined_faces}
use Rattle.edit_acts.proofs.Flow.{AreBelow, still_there}
use Rattle.edit_acts.proofs.Changed.{next_face-without_faces}
use Rattle.edit_collapse.proofs.Joined.{kept_with}
use Rattle.edit_acts.proofs.FaceCorners.{same_corners}
use Rattle.edit_collapse.specs.Tried.{only_at, has_id_in, left_at}
use Rattle.edit_collapse.proofs.Lists.{each_has_id, id_found, two_found}
use Rattle.edit_collapse.proofs.Acts.{faces_kept_at, each_at, same_two, renamed_has, Wait, renamed_once, made_below, wait_on, one_below, first_wait, rising, two_is}

-- ---- the third act drops only faces at the joined vertex
pub record IsCut (a : ℕ) (two n : Mesh) : Type 0 where
  pub points : n.points ≡ two.points
  pub solid : n.solid ≡ two.solid
  pub next_vertex : n.next_vertex ≡ two.next_vertex
  pub next_face : n.next_face ≡ two.next_face
  pub limits : n.limits ≡ two.limits
  pub part : (f : ℕ) (c : Corners) → HasCorners n f c → HasCorners two f c
  pub others : (f : ℕ) (c : Corners) → HasCorners two f c → has_corner c a ≡ false → HasCorners n f c

cut_more : (a : ℕ) (two n : Mesh) (f : ℕ) → IsCut a two n → ((c : Corners) → HasCorners n f c → has_corner c a ≡ true) → IsCut a two (without_face n f)
cut_more a two n f s held = record {
  points = s.points;
  solid = s.solid;
  next_vertex = s.next_vertex;
  next_face = s.next_face;
  limits = s.limits;
  part = λ g c there. s.part g c (got_after_remove n.faces f g c there).1;
  others = λ g c there lacks. still_there n f g c (λ same. false≢true (sym lacks ∙ held c (subst (λ k. HasCorners n k c) (sym same) (s.others g c there lacks)))) (s.others g c there lacks);
}

cut_once : (a : ℕ) (two n : Mesh) → IsCut a two n → IsCut a two (with_one_cancelled a n)
cut_once a two n s = by_two (slice_get (with_opposites n a) 0) refl
  where
    at : (f : ℕ) (x : ℕ × Corners) → HasCorners n x.0 x.1 × (has_corner x.1 a ≡ true) → x.0 ≡ f → (c : Corners) → HasCorners n f c → has_corner c a ≡ true
    at f x h is c there = subst (λ (d : Corners). has_corner d a ≡ true) (same_corners n x.0 x.1 c h.0 (subst (λ k. HasCorners n k c) (sym is) there)) h.1

    by_two : (o : Option (ℕ × ℕ)) → slice_get (with_opposites n a) 0 ≡ o → IsCut a two (option_map_or (λ two. without_faces n (two.0 ∷ two.1 ∷ [])) o n)
    by_two None e = s
    by_two (Some t) e =
        let found = two_found (λ (x : ℕ × Corners). HasCorners n x.0 x.1 × (has_corner x.1 a ≡ true)) (faces_kept_at a n) t.0 t.1 (each_at a n) (sym (same_two a n) ∙ e) in
        cut_more a two (without_face n t.0) t.1 (cut_more a two n t.0 s (at t.0 found.first found.first_holds found.first_is))
        (λ c there. at t.1 found.second found.second_holds found.second_is c (got_after_remove n.faces t.0 t.1 c there).1)

cut_times : (k a : ℕ) (two n : Mesh) → IsCut a two n → IsCut a two (cancelled_times k a n)
cut_times zero a two n s = s
cut_times (suc k) a two n s = cut_times k a two (with_one_cancelled a n) (cut_once a two n s)

pub three_cut : (m : Mesh) (a b : ℕ) → IsCut a (with_joined (without_shared m a b) a b) (joined_faces m a b)
three_cut m a b =
    let two = with_joined (without_shared m a b) a b in
    cut_times (finite.len two.faces) a two two (record { points = refl; solid = refl; next_vertex = refl; next_face = refl; limits = refl; part = λ f c there. there; others = λ f c there lacks. there })

-- ---- which are left at the joined vertex
-- the ids of a kind of faces
pub kind_found : (n : Mesh) (v k : ℕ) → has_id_in (faces_kept_at v n) k ≡ true → (c : Corners) × HasCorners n k c × (has_corner c v ≡ true)
kind_found n v k h =
    let found = id_found (λ (e : ℕ × Corners). HasCorners n e.0 e.1 × (has_corner e.1 v ≡ true)) (faces_kept_at v n) k (each_at v n) h in
    ((found.0).1, subst (λ j. HasCorners n j (found.0).1) found.2 (found.1).0, (found.1).1)

pub kind_has : (n : Mesh) (v k : ℕ) (c : Corners) → HasCorners n k c → has_corner c v ≡ true → has_id_in (faces_kept_at v n) k ≡ true
kind_has n v k c there held =
    at_key (λ (e : ℕ × Corners). has_corner e.1 v ≡ true → has_id_in (faces_kept_at v n) e.0 ≡ true) n.faces k c
    (all_filter (λ (e : ℕ × Corners). has_id_in (faces_kept_at v n) e.0 ≡ true) (λ e. has_corner e.1 v) (finite.entries n.faces) (each_has_id (faces_kept_at v n))) there held

-- what is kept of a face, where of those at the one vertex only the listed are left
abbrev pub kept : ℕ → List (ℕ × Corners) → ℕ → Option Corners → Option Corners
kept a left k None = None
kept a left k (Some c) = cond (has_corner c a && not (has_id_in left k)) None (Some c)

pub same_some : (c d : Corners) (o : Option Corners) → o ≡ Some c → o ≡ Some d → c ≡ d
same_some c d o h k = let both : Some c ≡ Some d = sym h ∙ k in cc

module _ (m : Mesh) (a b : ℕ) where
  abbrev two : Mesh
  two = with_joined (without_shared m a b) a b

  abbrev three : Mesh
  three = joined_faces m a b

  abbrev left : List (ℕ × Corners)
  left = left_at m a b

  pub three_kept : (k : ℕ) → finite.get three.faces k ≡ kept a left k (finite.get two.faces k)
  three_kept k = by_answers (finite.get two.faces k) (finite.get three.faces k) refl refl
    where
      by_tests : (c : Corners) (p : Option Corners) → HasCorners two k c → finite.get three.faces k ≡ p → (t u : Bool) → has_corner c a ≡ t → has_id_in left k ≡ u → p ≡ cond (t && not u) None (Some c)
      by_tests c p there is true true t u =
          let found = kind_found three a k u in
          let same : found.0 ≡ c = same_some found.0 c (finite.get two.faces k) ((three_cut m a b).part k found.0 found.1) there in
          sym is ∙ found.1 ∙ ap (λ (d : Corners). Some d) same
      by_tests c None there is true false t u = refl
      by_tests c (Some d) there is true false t u =
          let same : d ≡ c = same_some d c (finite.get two.faces k) ((three_cut m a b).part k d is) there in
          absurd (false≢true (sym u ∙ kind_has three a k d is (ap (λ (x : Corners). has_corner x a) same ∙ t)))
      by_tests c p there is false u t v = sym is ∙ (three_cut m a b).others k c there t

      by_answers : (o p : Option Corners) → finite.get two.faces k ≡ o → finite.get three.faces k ≡ p → p ≡ kept a left k o
      by_answers None None e is = refl
      by_answers None (Some c) e is = let there : Some c ≡ None = sym ((three_cut m a b).part k c is) ∙ e in cc
      by_answers (Some c) p e is = by_tests c p e is (has_corner c a) (has_id_in left k) refl refl

-- ---- the second act
-- a face after it was there before, or is new and at the joined vertex
pub came_from : (a b : ℕ) (es : List (ℕ × Corners)) (n : Mesh) → AreBelow n → T (is_sorted nat_cmp es) → Wait a b n es → (k : ℕ) (c : Corners) →
    HasCorners (with_all_renamed b a n (map (λ e. e.0) es)) k c → HasCorners n k c ⊎ ((has_corner c a ≡ true) × (n.next_face ≤ k))
came_from a b [] n below rising wait k c there = inl there
came_from a b (e ∷ es) n below rising wait k c there =
    let parts = both_of (below_all nat_cmp e.0 es) (is_sorted nat_cmp es) rising in
    let bare = without_face n e.0 in
    let made = renamed b a e.1 in
    let on : HasCorners (with_all_renamed b a (with_face bare made) (map (λ x. x.0) es)) k c = subst (λ j. HasCorners (with_all_renamed b a j (map (λ x. x.0) es)) k c) (renamed_once a b n e es below wait) there in
    ⊎_elim
    (λ old. ⊎_elim
    (λ new. inr (subst (λ (d : Corners). has_corner d a ≡ true) new.1 (renamed_has a b e.1 (wait.0).1), at_least k n.next_face new.0))
    (λ older. inl (got_after_remove n.faces e.0 k c older).1)
    (got_after_insert bare.faces n.next_face made k c old))
    (λ new. inr (new.0, weaker k n.next_face new.1))
    (came_from a b es (with_face bare made) (made_below a b n e es below wait) parts.1 (wait_on a b n e es below wait parts.0) k c on)
  where
    at_least : (x y : ℕ) → x ≡ y → y ≤ x
    at_least x y e = omega arith

    weaker : (x y : ℕ) → y + 1 ≤ x → y ≤ x
    weaker x y e = omega arith

-- a face that does not hold b stays
pub stays_along : (a b : ℕ) (es : List (ℕ × Corners)) (n : Mesh) → AreBelow n → T (is_sorted nat_cmp es) → Wait a b n es → (k : ℕ) (c : Corners) →
    HasCorners n k c → has_corner c b ≡ false → HasCorners (with_all_renamed b a n (map (λ e. e.0) es)) k c
stays_along a b [] n below rising wait k c there lacks = there
stays_along a b (e ∷ es) n below rising wait k c there lacks =
    let parts = both_of (below_all nat_cmp e.0 es) (is_sorted nat_cmp es) rising in
    let bare = without_face n e.0 in
    let made = renamed b a e.1 in
    let apart : e.0 ≢ k = λ same. false≢true (sym lacks ∙ ap (λ (d : Corners). has_corner d b) (same_some c e.1 (finite.get n.faces k) there (subst (λ j. HasCorners n j e.1) same (wait.0).0)) ∙ (wait.0).1) in
    let next : HasCorners (with_face bare made) k c = kept_with bare made k c (λ same. less k n.next_face (below k (ap is_some there)) same) (still_there n e.0 k c apart there) in
    subst (λ j. HasCorners (with_all_renamed b a j (map (λ x. x.0) es)) k c) (sym (renamed_once a b n e es below wait))
    (stays_along a b es (with_face bare made) (made_below a b n e es below wait) parts.1 (wait_on a b n e es below wait parts.0) k c next lacks)
  where
    less : (x y : ℕ) → x < y → x ≡ y → ⊥
    less x y h e = omega arith

-- how many ids it takes, and what else stays
pub ids_taken : (a b : ℕ) (es : List (ℕ × Corners)) (n : Mesh) → (with_all_renamed b a n (map (λ e. e.0) es)).next_face ≡ n.next_face + length es
ids_taken a b [] n = omega arith
ids_taken a b (e ∷ es) n = let rest = ids_taken a b es (with_all_renamed b a n (e.0 ∷ [])) in omega (arith, rest)

module _ (m : Mesh) (a b : ℕ) (sound : IsSound m) (apart : a ≢ b) where
  abbrev one : Mesh
  one = without_shared m a b

  pub two_from : (k : ℕ) (c : Corners) → HasCorners (with_joined one a b) k c → HasCorners one k c ⊎ ((has_corner c a ≡ true) × (m.next_face ≤ k))
  two_from k c there =
      ⊎_elim (λ old. inl old) (λ new. inr (new.0, subst (λ j. j ≤ k) (next_face-without_faces m (faces_where (λ c. has_corner c a && has_corner c b) m)) new.1))
      (came_from a b (only_at m b a) one (one_below m a b sound apart) (rising m a b sound apart) (first_wait m a b sound apart) k c (subst (λ n. HasCorners n k c) (two_is m a b sound apart) there))

  pub two_stays : (k : ℕ) (c : Corners) → HasCorners one k c → has_corner c b ≡ false → HasCorners (with_joined one a b) k c
  two_stays k c there lacks = subst (λ n. HasCorners n k c) (sym (two_is m a b sound apart))
      (stays_along a b (only_at m b a) one (one_below m a b sound apart) (rising m a b sound apart) (first_wait m a b sound apart) k c there lacks)

  pub three_next : (joined_faces m a b).next_face ≡ m.next_face + length (only_at m b a)
  three_next =
      (three_cut m a b).next_face ∙ ap (λ (n : Mesh). n.next_face) (two_is m a b sound apart) ∙ ids_taken a b (only_at m b a) one
      ∙ ap (λ k. k + length (only_at m b a)) (next_face-without_faces m (faces_where (λ c. has_corner c a && has_corner c b) m))
