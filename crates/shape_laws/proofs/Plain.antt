-- What a plain link says of faces and edges.
use Rattle.std.proofs.Common.{◌≡◌, ◌≢◌, ◌⊎◌, ℕ, ◌+◌, ◌≤◌, ◌==◌, ◌||◌, ◌&&◌, Bool, true, false, not, nat_lt, min, max, cond, inl, inr, ⊎_elim, refl, sym, ap, ◌∙◌, arith}
use Rattle.std.proofs.lemmas.Bool.{false≢true, eqb-true, eqb-false, not-true, lt-ltb}
use Rattle.std.proofs.lemmas.Bool.Decides.{nat_tests}
use Rattle.std.specs.List.{list_any}
use Rattle.mesh_base.specs.declared.ids.Corners.{Corners}
use Rattle.mesh_base.specs.Mesh.{Mesh, IsSound, HasCorners}
use Rattle.mesh_base.specs.Sides.{has_corner, follows, faces_at, runs}
use Rattle.mesh_base.specs.Changes.{corner_list, without_face}
use Rattle.mesh_base.specs.Pairs.{is_edge, is_crowded}
use Rattle.mesh_base.proofs.Listed.{and_second}
use Rattle.mesh_base.proofs.Tests.{and_both}
use Rattle.edit_base.specs.Edges.{Edge, edge_of, corners_at, face_running, opposite_beside, opposite_vertex, runs_both_ways}
use Rattle.edit_base.proofs.Beside.{face_there}
use Rattle.edit_base.proofs.Chains.{any_of}
use Rattle.edit_acts.proofs.FaceCorners.{runs_there, step_one, step_two, step_three}
use Rattle.mesh_base.proofs.Counts.{runs-without_face}
use Rattle.edit_acts.proofs.Flow.{still_there}
use Rattle.mesh_measure.proofs.Around.{listed_corner, corners_there, face_listed}
use Rattle.shape_laws.specs.Link.{has_two_opposites, some_near, is_poor_edge, has_poor_edge, is_other_neighbour, has_other_neighbour, has_face_with, may_faces_cancel}
use Rattle.shape_laws.proofs.Chained.{Holds}
use Rattle.shape_laws.proofs.Listed.{AreSided}
use Rattle.shape_laws.proofs.Faces.{alike_round, corner_is, corner_one, corner_two, corner_three, of_steps, step_corners}
use Rattle.shape_laws.proofs.CollapseLink.{IsFace, HasThree}
use Rattle.shape_laws.proofs.CollapseShape.{order_either}

-- ---- no corner near passes
none_near : (m : Mesh) (v : ℕ) (test : ℕ → Bool) → some_near m v test ≡ false → (c : Corners) (x : ℕ) → Holds m c → has_corner c v ≡ true → has_corner c x ≡ true → test x ≡ false
none_near m v test none c x h at_v at_x = by_test (test x) refl
  where
    by_test : (t : Bool) → test x ≡ t → test x ≡ false
    by_test false e = e
    by_test true e =
        let same = corners_there m h.0 c h.1 in
        let at : list_any test (corner_list (corners_at m h.0)) ≡ true = ap (λ k. list_any test (corner_list k)) same ∙ any_of test (corner_list c) x (listed_corner c x at_x) e in
        absurd (false≢true (sym none ∙ any_of (λ f. list_any test (corner_list (corners_at m f))) (faces_at m v) h.0 (face_listed m (λ k. has_corner k v) h.0 c h.1 at_v) at))

-- ---- edges that are not poor
pub record IsGood (m : Mesh) (v x : ℕ) : Type 0 where
  pub uncrowded : is_crowded m v x ≡ false
  pub two_opposites : has_two_opposites m v x ≡ true

good : (m : Mesh) (v x : ℕ) → x ≢ v → is_poor_edge m v x ≡ false → IsGood m v x
good m v x apart h =
    let both = parts (x == v) (is_crowded m v x) (has_two_opposites m v x) h (untied x v apart) in
    record { uncrowded = both.0; two_opposites = both.1 }
  where
    untied : (x y : ℕ) → x ≢ y → (x == y) ≡ false
    untied x y k = grind (arith, nat_tests)

    parts : (p q r : Bool) → (not p && (q || not r)) ≡ false → p ≡ false → (q ≡ false) × (r ≡ true)
    parts true q r e f = absurd (false≢true (sym f))
    parts false true r e f = absurd (false≢true (sym e))
    parts false false true e f = (refl, refl)
    parts false false false e f = absurd (false≢true (sym e))

pub good_near : (m : Mesh) (v : ℕ) → has_poor_edge m v ≡ false → (c : Corners) (x : ℕ) → Holds m c → has_corner c v ≡ true → has_corner c x ≡ true → x ≢ v → IsGood m v x
good_near m v none c x h at_v at_x apart = good m v x apart (none_near m v (is_poor_edge m v) none c x h at_v at_x)

pub two_opposites : (m : Mesh) (u v : ℕ) → has_two_opposites m u v ≡ true → (edge_of m u v).c ≢ (edge_of m u v).d
two_opposites m u v h =
    let s = edge_of m u v in
    eqb-false s.c s.d (not-true (s.c == s.d) (and_second (runs_both_ways m s.a s.b) (not (s.c == s.d)) h))

-- ---- the one face that runs one way
one_face_runs : (m : Mesh) (g f : ℕ) (d c : Corners) (u v : ℕ) → HasCorners m g d → follows d u v ≡ true → HasCorners m f c → follows c u v ≡ true → runs m u v ≤ 1 → g ≡ f
one_face_runs m g f d c u v there step here step' few = by_test (g == f) refl
  where
    by_test : (t : Bool) → (g == f) ≡ t → g ≡ f
    by_test true e = eqb-true g f e
    by_test false e =
        let count = runs-without_face m g d u v there in
        let one : ◌≡◌ {A = ℕ} (cond (follows d u v) 1 0) 1 = ap (λ t. cond t 1 0) step in
        let some = runs_there (without_face m g) f c u v (still_there m g f c (eqb-false g f e) here) step' in
        absurd (omega (arith, count, one, some, few))

at_most_one : (m : Mesh) (u v : ℕ) → is_crowded m u v ≡ false → (runs m u v ≤ 1) × (runs m v u ≤ 1)
at_most_one m u v h = few (runs m u v) (runs m v u) h
  where
    few : (j k : ℕ) → (nat_lt 1 j || nat_lt 1 k) ≡ false → (j ≤ 1) × (k ≤ 1)
    few j k h = (grind (arith, nat_tests), grind (arith, nat_tests))

-- its opposite vertex is its third corner
third_is : (m : Mesh) (sound : IsSound m) (c : Corners) (u v y : ℕ) → Holds m c → follows c u v ≡ true → has_corner c y ≡ true → y ≢ u → y ≢ v → runs m u v ≤ 1 → opposite_beside m u v ≡ y
third_is m sound c u v y h step at_y y_u y_v few =
    let found = face_there m u v (runs_there m h.0 c u v h.1 step) in
    let same : face_running m u v ≡ h.0 = one_face_runs m (face_running m u v) h.0 found.0 c u v found.2 found.1 h.1 step few in
    let corners : corners_at m (face_running m u v) ≡ c = ap (corners_at m) same ∙ corners_there m h.0 c h.1 in
    let alike = alike_round c u v (sound.is_mesh.different_corners h.0 c h.1) step in
    ap (λ k. opposite_vertex k u v) corners
    ∙ ⊎_elim (λ e. absurd (y_u (sym e))) (λ rest. ⊎_elim (λ e. absurd (y_v (sym e))) (λ e. e) rest) (corner_is u v (opposite_vertex c u v) y (sym (alike.corners y) ∙ at_y))

apart_step : (m : Mesh) → IsSound m → (c : Corners) (u v : ℕ) → Holds m c → follows c u v ≡ true → u ≢ v
apart_step m sound c u v h step =
    let different = sound.is_mesh.different_corners h.0 c h.1 in
    of_steps (λ p q. p ≢ q) c.first c.second c.third u v different.first_second different.second_third different.third_first step

-- no two faces at the vertex are opposite to each other
pub none_opposite : (m : Mesh) (v : ℕ) → IsSound m → has_poor_edge m v ≡ false → (x y : ℕ) → IsFace m v x y → IsFace m v y x → ⊥
none_opposite m v sound none x y f g =
    let v_x : follows f.0 v x ≡ true = (f.2).steps v x ∙ step_one v x y in
    let x_y : follows f.0 x y ≡ true = (f.2).steps x y ∙ step_two v x y in
    let y_v : follows f.0 y v ≡ true = (f.2).steps y v ∙ step_three v x y in
    let x_v : follows g.0 x v ≡ true = (g.2).steps x v ∙ step_three v y x in
    let apart = apart_step m sound f.0 v x f.1 v_x in
    let y_not_v = apart_step m sound f.0 y v f.1 y_v in
    let y_not_x : y ≢ x = λ e. apart_step m sound f.0 x y f.1 x_y (sym e) in
    let is = good_near m v none f.0 x f.1 ((f.2).corners v ∙ corner_one v x y) ((f.2).corners x ∙ corner_two v x y) (λ e. apart (sym e)) in
    let few = at_most_one m v x is.uncrowded in
    let one = third_is m sound f.0 v x y f.1 v_x ((f.2).corners y ∙ corner_three v x y) y_not_v y_not_x few.0 in
    let two = third_is m sound g.0 x v y g.1 x_v ((g.2).corners y ∙ corner_two v y x) y_not_x y_not_v few.1 in
    two_opposites m v x is.two_opposites (either (min v x) (max v x) (order_either v x) (one ∙ sym two))
  where
    either : (p q : ℕ) → ((p ≡ v) × (q ≡ x)) ⊎ ((p ≡ x) × (q ≡ v)) → opposite_beside m v x ≡ opposite_beside m x v → opposite_beside m p q ≡ opposite_beside m q p
    either p q is same = ⊎_elim
        (λ e. (λ i. opposite_beside m (e.0 i) (e.1 i)) ∙ same ∙ sym (λ i. opposite_beside m (e.1 i) (e.0 i)))
        (λ e. (λ i. opposite_beside m (e.0 i) (e.1 i)) ∙ sym same ∙ sym (λ i. opposite_beside m (e.1 i) (e.0 i)))
        is

-- ---- common neighbours
sided_edge : (m : Mesh) (u v : ℕ) → AreSided m u v → is_edge m u v ≡ true
sided_edge m u v sided = lt-ltb 0 (runs m u v + runs m v u) (⊎_elim
    (λ side. let some = runs_there m (side.1).0 side.0 u v (side.1).1 side.2 in omega (arith, some))
    (λ side. let some = runs_there m (side.1).0 side.0 v u (side.1).1 side.2 in omega (arith, some))
    sided)

-- ---- faces that may cancel
no_face_with : (m : Mesh) (v c d : ℕ) → has_face_with m v c d ≡ false → (k : Corners) → Holds m k → HasThree k v c d → ⊥
no_face_with m v c d none k h has =
    let same = corners_there m h.0 k h.1 in
    let both : (has_corner (corners_at m h.0) c && has_corner (corners_at m h.0) d) ≡ true = ap (λ e. has_corner e c && has_corner e d) same ∙ and_both (has_corner k c) (has_corner k d) has.1 has.2 in
    false≢true (sym none ∙ any_of (λ f. has_corner (corners_at m f) c && has_corner (corners_at m f) d) (faces_at m v) h.0 (face_listed m (λ e. has_corner e v) h.0 k h.1 has.0) both)

pub no_two_caps : (m : Mesh) (s : Edge) → may_faces_cancel m s ≡ false → (k l : Corners) → Holds m k → Holds m l → HasThree k s.a s.c s.d → HasThree l s.b s.c s.d → ⊥
no_two_caps m s none k l h h' has has' = ⊎_elim
    (λ e. no_face_with m s.a s.c s.d e k h has)
    (λ e. no_face_with m s.b s.c s.d e l h' has')
    (either (has_face_with m s.a s.c s.d) (has_face_with m s.b s.c s.d) none)
  where
    either : (p q : Bool) → (p && q) ≡ false → (p ≡ false) ⊎ (q ≡ false)
    either true q e = inr e
    either false q e = inl refl

pub common_is : (m : Mesh) (s : Edge) → IsSound m → has_other_neighbour m s ≡ false → (x : ℕ) → AreSided m s.a x → AreSided m s.b x → (s.c ≡ x) ⊎ (s.d ≡ x)
common_is m s sound none x at_a at_b =
    ⊎_elim (λ e. inl (sym (eqb-true x s.c e))) (λ e. inr (sym (eqb-true x s.d e)))
    (either (x == s.a) (is_edge m s.b x) (x == s.c) (x == s.d) outside (untied x s.a x_a) (sided_edge m s.b x at_b))
  where
    x_a : x ≢ s.a
    x_a e = ⊎_elim (λ side. apart_step m sound side.0 s.a x side.1 side.2 (sym e)) (λ side. apart_step m sound side.0 x s.a side.1 side.2 e) at_a

    outside : is_other_neighbour m s x ≡ false
    outside = ⊎_elim
        (λ side. none_near m s.a (is_other_neighbour m s) none side.0 x side.1 (step_corners side.0 s.a x side.2).0 (step_corners side.0 s.a x side.2).1)
        (λ side. none_near m s.a (is_other_neighbour m s) none side.0 x side.1 (step_corners side.0 x s.a side.2).1 (step_corners side.0 x s.a side.2).0)
        at_a

    untied : (x y : ℕ) → x ≢ y → (x == y) ≡ false
    untied x y k = grind (arith, nat_tests)

    either : (p q r t : Bool) → (not p && q && not r && not t) ≡ false → p ≡ false → q ≡ true → (r ≡ true) ⊎ (t ≡ true)
    either true q r t h e f = absurd (false≢true (sym e))
    either false false r t h e f = absurd (false≢true f)
    either false true true t h e f = inl refl
    either false true false true h e f = inr refl
    either false true false false h e f = absurd (false≢true (sym h))
