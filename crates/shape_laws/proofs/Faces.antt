-- The faces of a mesh of which the two faces beside an edge are dropped and others made.
use Rattle.std.proofs.Common.{◌≡◌, ◌≢◌, ◌⊎◌, ℕ, ◌<◌, ◌≤◌, nat_lt, Bool, true, false, cond, ◌==◌, ◌||◌, ◌&&◌, List, [], ◌∷◌, Some, is_some, inl, inr, ⊎_elim, refl, sym, ap, subst, ◌∙◌, arith}
use Rattle.std.proofs.lemmas.Bool.{eqb-true, eqb-false, ne_eqb}
use Rattle.std.proofs.lemmas.Bool.Decides.{nat_tests}
use Rattle.std.specs.Cmp.{nat_cmp_total, eq_by_cmp_equiv, unsigned_tied}
use Rattle.std.specs.FinMap as finite
use Rattle.std.specs.FinMap.{get-insert}
use Rattle.mesh_base.specs.declared.ids.Corners.{Corners}
use Rattle.mesh_base.specs.Mesh.{Mesh, IsMesh, HasCorners, AreDifferent}
use Rattle.mesh_base.specs.Sides.{has_corner, follows, runs}
use Rattle.mesh_base.specs.Pairs.{is_crowded}
use Rattle.mesh_base.specs.Changes.{with_face, without_face}
use Rattle.mesh_base.proofs.Counts.{runs-without_face}
use Rattle.mesh_base.proofs.Finite.{got_after_insert, got_after_remove}
use Rattle.mesh_base.proofs.MeshLaws.{next_is_new}
use Rattle.mesh_base.proofs.Listed.{and_first, and_second, or_either}
use Rattle.edit_base.specs.Edges.{Edge, corners_from, opposite_vertex, without_faces, with_faces}
use Rattle.edit_base.specs.Beside.{IsBeside}
use Rattle.edit_base.proofs.Arcs.{first_way, second_way, third_way}
use Rattle.edit_acts.proofs.Flow.{AreBelow, below-with, still_there}
use Rattle.edit_acts.proofs.FaceCorners.{same_corners, runs_there, steps_of}
use Rattle.shape_laws.proofs.Lists.{In}
use Rattle.shape_laws.proofs.Chained.{Holds, IsFaced}

-- ---- faces that are made
made : (m : Mesh) (c : Corners) → HasCorners (with_face m c) m.next_face c
made m c = get-insert nat_cmp_total m.faces m.next_face c m.next_face ∙ ap (λ b. cond b (Some c) (finite.get m.faces m.next_face)) ((eq_by_cmp_equiv nat_cmp_total).refl m.next_face)

one_more : (m : Mesh) (k c : Corners) → AreBelow m → Holds m c → Holds (with_face m k) c
one_more m k c below h = (
  h.0,
  get-insert nat_cmp_total m.faces m.next_face k h.0
      ∙ ap (λ b. cond b (Some k) (finite.get m.faces h.0)) (unsigned_tied h.0 m.next_face ∙ ne_eqb h.0 m.next_face (other h.0 m.next_face (below h.0 (ap is_some h.1))))
      ∙ h.1,
)
  where
    other : (f n : ℕ) → f < n → f ≢ n
    other f n less e = omega (arith, less, e)

pub made_or_old : (m : Mesh) (cs : List Corners) (c : Corners) → Holds (with_faces m cs) c → In cs c ⊎ Holds m c
made_or_old m [] c h = inr h
made_or_old m (k ∷ ks) c h = by_place (made_or_old (with_face m k) ks c h)
  where
    by_place : In ks c ⊎ Holds (with_face m k) c → In (k ∷ ks) c ⊎ Holds m c
    by_place r = ⊎_elim
        (λ i. inl (inr i))
        (λ old. ⊎_elim (λ e. inl (inl e.1)) (λ was. inr (old.0, was)) (got_after_insert m.faces m.next_face k old.0 c old.1))
        r

pub old_kept : (m : Mesh) (cs : List Corners) (c : Corners) → AreBelow m → Holds m c → Holds (with_faces m cs) c
old_kept m [] c below h = h
old_kept m (k ∷ ks) c below h = old_kept (with_face m k) ks c (below-with m k below) (one_more m k c below h)

pub new_there : (m : Mesh) (cs : List Corners) (c : Corners) → AreBelow m → In cs c → Holds (with_faces m cs) c
new_there m [] c below i = absurd i
new_there m (k ∷ ks) c below i = ⊎_elim
    (λ e. subst (Holds (with_faces (with_face m k) ks)) e (old_kept (with_face m k) ks k (below-with m k below) (m.next_face, made m k)))
    (λ j. new_there (with_face m k) ks c (below-with m k below) j)
    i

-- ---- corners that are alike but for a turn
pub record AreAlike (c d : Corners) : Type 0 where
  pub steps : (u v : ℕ) → follows c u v ≡ follows d u v
  pub corners : (v : ℕ) → has_corner c v ≡ has_corner d v

pub or_turned : (a b c : Bool) → (a || b || c) ≡ (b || c || a)
or_turned true true c = refl
or_turned true false true = refl
or_turned true false false = refl
or_turned false true c = refl
or_turned false false true = refl
or_turned false false false = refl

pub alike_round : (C : Corners) (a b : ℕ) → AreDifferent C → follows C a b ≡ true → AreAlike C (corners_from a b (opposite_vertex C a b))
alike_round C a b different e =
    ⊎_elim (λ two. ⊎_elim
    (λ one.
    let x = eqb-true C.first a (and_first (C.first == a) _ one) in
    let y = eqb-true C.second b (and_second (C.first == a) _ one) in
    let z = sym (first_way C a b (and_first (C.first == a) _ one)) in
    record { steps = λ u v i. follows (corners_from (x i) (y i) (z i)) u v; corners = λ v i. has_corner (corners_from (x i) (y i) (z i)) v })
    (λ one.
    let x = eqb-true C.second a (and_first (C.second == a) _ one) in
    let y = eqb-true C.third b (and_second (C.second == a) _ one) in
    let z = sym (second_way C a b different (and_first (C.second == a) _ one)) in
    record {
      steps = λ u v. or_turned (C.first == u && C.second == v) (C.second == u && C.third == v) (C.third == u && C.first == v) ∙ (λ i. follows (corners_from (x i) (y i) (z i)) u v);
      corners = λ v. or_turned (C.first == v) (C.second == v) (C.third == v) ∙ (λ i. has_corner (corners_from (x i) (y i) (z i)) v);
    })
    (or_either (C.first == a && C.second == b) _ two))
    (λ one.
    let x = eqb-true C.third a (and_first (C.third == a) _ one) in
    let y = eqb-true C.first b (and_second (C.third == a) _ one) in
    let z = sym (third_way C a b different (and_first (C.third == a) _ one)) in
    record {
      steps = λ u v. or_turned (C.first == u && C.second == v) (C.second == u && C.third == v) (C.third == u && C.first == v) ∙ or_turned (C.second == u && C.third == v) (C.third == u && C.first == v) (C.first == u && C.second == v) ∙ (λ i. follows (corners_from (x i) (y i) (z i)) u v);
      corners = λ v. or_turned (C.first == v) (C.second == v) (C.third == v) ∙ or_turned (C.second == v) (C.third == v) (C.first == v) ∙ (λ i. has_corner (corners_from (x i) (y i) (z i)) v);
    })
    (or_either ((C.first == a && C.second == b) || (C.second == a && C.third == b)) _ e)

-- ---- corners one by one
pub corner_is : (x y z v : ℕ) → has_corner (corners_from x y z) v ≡ true → (x ≡ v) ⊎ ((y ≡ v) ⊎ (z ≡ v))
corner_is x y z v h = ⊎_elim
    (λ two. ⊎_elim (λ e. inl (eqb-true x v e)) (λ e. inr (inl (eqb-true y v e))) (or_either (x == v) (y == v) two))
    (λ e. inr (inr (eqb-true z v e)))
    (or_either ((x == v) || (y == v)) (z == v) h)

pub corner_one : (x y z : ℕ) → has_corner (corners_from x y z) x ≡ true
corner_one x y z = grind (arith, nat_tests)

pub corner_two : (x y z : ℕ) → has_corner (corners_from x y z) y ≡ true
corner_two x y z = grind (arith, nat_tests)

pub corner_three : (x y z : ℕ) → has_corner (corners_from x y z) z ≡ true
corner_three x y z = grind (arith, nat_tests)

-- what each corner of a list of three has
pub of_three : (P : ℕ → Type 0) (x y z v : ℕ) → P x → P y → P z → has_corner (corners_from x y z) v ≡ true → P v
of_three P x y z v p q r h = ⊎_elim (λ e. subst P e p) (λ rest. ⊎_elim (λ e. subst P e q) (λ e. subst P e r) rest) (corner_is x y z v h)

-- what each step has
pub of_steps : (P : ℕ → ℕ → Type 0) (x y z u v : ℕ) → P x y → P y z → P z x → follows (corners_from x y z) u v ≡ true → P u v
of_steps P x y z u v p q r h = ⊎_elim (pair x y p) (λ rest. ⊎_elim (pair y z q) (pair z x r) rest) (steps_of x y z u v h)
  where
    pair : (x y : ℕ) → P x y → (x ≡ u) × (y ≡ v) → P u v
    pair x y p e = subst (λ k. P k v) e.0 (subst (P x) e.1 p)

-- both ends of a step are corners
pub step_corners : (c : Corners) (u v : ℕ) → follows c u v ≡ true → (has_corner c u ≡ true) × (has_corner c v ≡ true)
step_corners c u v h =
    let x = c.first in
    let y = c.second in
    let z = c.third in
    of_steps (λ p q. (has_corner c p ≡ true) × (has_corner c q ≡ true)) x y z u v (corner_one x y z, corner_two x y z) (corner_two x y z, corner_three x y z) (corner_three x y z, corner_one x y z) h

-- a vertex that has a face is not the next one
pub faced_not_new : (m : Mesh) → IsMesh m → IsFaced m m.next_vertex → ⊥
faced_not_new m mesh faced =
    let c = faced.0 in
    let away = next_is_new m mesh (faced.1).0 c (faced.1).1 in
    ⊎_elim
    (λ two. ⊎_elim (λ e. away.0 (eqb-true c.first m.next_vertex e)) (λ e. away.1 (eqb-true c.second m.next_vertex e)) (or_either (c.first == m.next_vertex) (c.second == m.next_vertex) two))
    (λ e. away.2 (eqb-true c.third m.next_vertex e))
    (or_either ((c.first == m.next_vertex) || (c.second == m.next_vertex)) (c.third == m.next_vertex) faced.2)

-- ---- the faces beside an edge
module _ (m : Mesh) (s : Edge) (beside : IsBeside m s) where
  abbrev pub bare : Mesh
  bare = without_faces m (s.left_face ∷ s.right_face ∷ [])

  -- the left face, and the right one
  abbrev pub left : Corners
  left = corners_from s.a s.b s.c

  abbrev pub right : Corners
  right = corners_from s.b s.a s.d

  pub left_alike : AreAlike beside.left_corners left
  left_alike = subst (λ t. AreAlike beside.left_corners (corners_from s.a s.b t)) beside.third (alike_round beside.left_corners s.a s.b beside.left_different beside.left_runs)

  pub right_alike : AreAlike beside.right_corners right
  right_alike = subst (λ t. AreAlike beside.right_corners (corners_from s.b s.a t)) beside.fourth (alike_round beside.right_corners s.b s.a beside.right_different beside.right_runs)

  pub left_held : Holds m beside.left_corners
  left_held = (s.left_face, beside.left_face)

  pub right_held : Holds m beside.right_corners
  right_held = (s.right_face, beside.right_face)

  -- a face is one of the two, or stays
  pub left_right_or_stays : (c : Corners) → Holds m c → AreAlike c left ⊎ (AreAlike c right ⊎ Holds bare c)
  left_right_or_stays c h = by_tests (h.0 == s.left_face) (h.0 == s.right_face) refl refl
    where
      is_it : (g : ℕ) (d : Corners) → HasCorners m g d → h.0 ≡ g → d ≡ c
      is_it g d there e = same_corners m g d c there (subst (λ f. HasCorners m f c) e h.1)

      by_tests : (x y : Bool) → (h.0 == s.left_face) ≡ x → (h.0 == s.right_face) ≡ y → AreAlike c left ⊎ (AreAlike c right ⊎ Holds bare c)
      by_tests true y e e' = inl (subst (λ k. AreAlike k left) (is_it s.left_face beside.left_corners beside.left_face (eqb-true h.0 s.left_face e)) left_alike)
      by_tests false true e e' = inr (inl (subst (λ k. AreAlike k right) (is_it s.right_face beside.right_corners beside.right_face (eqb-true h.0 s.right_face e')) right_alike))
      by_tests false false e e' = inr (inr (
        h.0,
        still_there (without_face m s.left_face) s.right_face h.0 c (λ q. eqb-false h.0 s.right_face e' (sym q)) (still_there m s.left_face h.0 c (λ q. eqb-false h.0 s.left_face e (sym q)) h.1),
      ))

  -- what stays was there
  pub stayed : (c : Corners) → Holds bare c → Holds m c
  stayed c h = (h.0, (got_after_remove m.faces s.left_face h.0 c (got_after_remove (without_face m s.left_face).faces s.right_face h.0 c h.1).1).1)

  -- ---- an edge that is not crowded goes with its two faces
  module _ (uncrowded : is_crowded m s.a s.b ≡ false) where
    at_most_one : (j k : ℕ) → (nat_lt 1 j || nat_lt 1 k) ≡ false → (j ≤ 1) × (k ≤ 1)
    at_most_one j k h = (grind (arith, nat_tests), grind (arith, nat_tests))

    pub one_each : (runs m s.a s.b ≤ 1) × (runs m s.b s.a ≤ 1)
    one_each = at_most_one (runs m s.a s.b) (runs m s.b s.a) uncrowded

    pub two_run : (g : ℕ) (d c : Corners) (f u v : ℕ) → HasCorners m g d → follows d u v ≡ true → g ≢ f → HasCorners m f c → follows c u v ≡ true → runs m u v ≤ 1 → ⊥
    two_run g d c f u v there step apart here step' few =
        let count = runs-without_face m g d u v there in
        let one : ◌≡◌ {A = ℕ} (cond (follows d u v) 1 0) 1 = ap (λ t. cond t 1 0) step in
        let some = runs_there (without_face m g) f c u v (still_there m g f c apart here) step' in
        absurd (omega (arith, count, one, some, few))

    pub none_stays : (c : Corners) → Holds bare c → (follows c s.a s.b ≡ true → ⊥) × (follows c s.b s.a ≡ true → ⊥)
    none_stays c h =
        let second = got_after_remove (without_face m s.left_face).faces s.right_face h.0 c h.1 in
        let first = got_after_remove m.faces s.left_face h.0 c second.1 in (
          λ step. two_run s.left_face beside.left_corners c h.0 s.a s.b beside.left_face beside.left_runs (λ e. first.0 (sym e)) first.1 step one_each.0,
          λ step. two_run s.right_face beside.right_corners c h.0 s.b s.a beside.right_face beside.right_runs (λ e. second.0 (sym e)) first.1 step one_each.1,
        )
