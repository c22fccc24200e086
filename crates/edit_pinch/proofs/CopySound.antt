-- A pinch keeps the laws of a mesh: a fan's faces with a new vertex in the old one's place are new.
use Rattle.std.proofs.Common.{◌≡◌, ◌≢◌, ℕ, ◌+◌, ◌≤◌, Bool, true, false, cond, ◌&&◌, ◌||◌, ◌==◌, List, [], ◌∷◌, drop, ⊎_elim, refl, sym, ap, subst, ◌∙◌, arith}
use Rattle.std.proofs.lemmas.Bool.{eqb-true}
use Rattle.std.proofs.lemmas.Bool.Decides.{nat_tests}
use Rattle.std.specs.List.{AllByRecursion, fold, zip}
use Rattle.grid_base.specs.declared.Point.{Point}
use Rattle.mesh_base.specs.declared.ids.Corners.{Corners}
use Rattle.mesh_base.specs.Mesh.{Mesh, IsMesh, IsSound, IsLiveVertex, HasCorners, equal_up_to_rotation, same_corners, turned}
use Rattle.mesh_base.specs.Sides.{IsClosed}
use Rattle.mesh_base.specs.Changes.{with_face, without_face, with_vertex, with_point, IsFresh}
use Rattle.mesh_base.specs.Limits.{is_over_limits}
use Rattle.mesh_base.proofs.Finite.{got_after_insert, got_after_remove, live_inserted}
use Rattle.mesh_base.proofs.MeshLaws.{sound-with_point}
use Rattle.mesh_base.proofs.Tests.{and_first, and_second, and_both, or_first, or_second, or_either}
use Rattle.edit_base.specs.Edges.{corners_at, renamed, with_renamed, with_all_renamed}
use Rattle.edit_pinch.specs.Pinch.{with_copy, pinch_mesh, fans}
use Rattle.edit_acts.proofs.Sound.{mesh-without_face, mesh-with_vertex, mesh-with_face, not_over}
use Rattle.edit_pinch.proofs.FansApart.{Differ, AreApart}
use Rattle.edit_pinch.proofs.FanBalance.{IsFan, corners_there}
use Rattle.edit_pinch.proofs.CopyClosed.{IsWithout, without_new, AreThere, others_there, fans_stay, fan_without, next_vertex-renamed, limits-copied, later_fans, later_apart, later_there}
use Rattle.mesh_base.specs.declared.limits.Limits.{Limits}
use Rattle.grid_base.specs.declared.TheConstants.{VERTICES_MAX, FACES_MAX}

-- ---- corners with one vertex in another's place
there_and_back : (v w x : ℕ) → x ≢ w → cond (cond (x == v) w x == w) v (cond (x == v) w x) ≡ x
there_and_back v w x x_w = by_test (x == v) refl
  where
    itself : (p : ℕ) → (p == p) ≡ true
    itself p = grind (arith, nat_tests)

    apart : (p q : ℕ) → p ≢ q → (p == q) ≡ false
    apart p q h = grind (arith, nat_tests)

    by_test : (b : Bool) → (x == v) ≡ b → cond (cond b w x == w) v (cond b w x) ≡ x
    by_test true e = ap (λ c. cond c v w) (itself w) ∙ sym (eqb-true x v e)
    by_test false e = ap (λ c. cond c v x) (apart x w x_w)

same_without : (v w x : ℕ) → x ≢ w → cond (x == w) v x ≡ x
same_without v w x x_w = ap (λ c. cond c v x) (apart x w x_w)
  where
    apart : (p q : ℕ) → p ≢ q → (p == q) ≡ false
    apart p q h = grind (arith, nat_tests)

renamed_back : (v w : ℕ) (c : Corners) → IsWithout w c → renamed w v (renamed v w c) ≡ c
renamed_back v w c off = λ i. record { first = there_and_back v w c.first off.first i; second = there_and_back v w c.second off.second i; third = there_and_back v w c.third off.third i }

renamed_none : (v w : ℕ) (c : Corners) → IsWithout w c → renamed w v c ≡ c
renamed_none v w c off = λ i. record { first = same_without v w c.first off.first i; second = same_without v w c.second off.second i; third = same_without v w c.third off.third i }

corners_same : (c d : Corners) → same_corners c d ≡ true → c ≡ d
corners_same c d h =
    let two = and_first (c.first == d.first && c.second == d.second) _ h in
    let a = eqb-true c.first d.first (and_first _ _ two) in
    let b = eqb-true c.second d.second (and_second (c.first == d.first) _ two) in
    let e = eqb-true c.third d.third (and_second (c.first == d.first && c.second == d.second) _ h) in
    λ i. record { first = a i; second = b i; third = e i }

same_itself : (c : Corners) → same_corners c c ≡ true
same_itself c = and_both (c.first == c.first && c.second == c.second) _ (and_both (c.first == c.first) _ (itself c.first) (itself c.second)) (itself c.third)
  where
    itself : (p : ℕ) → (p == p) ≡ true
    itself p = grind (arith, nat_tests)

-- what is equal stays so
equal_renamed : (p q : ℕ) (c d : Corners) → equal_up_to_rotation c d ≡ true → equal_up_to_rotation (renamed p q c) (renamed p q d) ≡ true
equal_renamed p q c d h =
    let r : Corners → Corners = λ x. renamed p q x in
    ⊎_elim
    (λ two. or_first (same_corners (r c) (r d) || same_corners (turned (r c)) (r d)) _ (⊎_elim
    (λ one. or_first (same_corners (r c) (r d)) _ (subst (λ x. same_corners (r c) (r x) ≡ true) (corners_same c d one) (same_itself (r c))))
    (λ one. or_second (same_corners (r c) (r d)) _ (subst (λ x. same_corners (turned (r c)) (r x) ≡ true) (corners_same (turned c) d one) (same_itself (turned (r c)))))
    (or_either (same_corners c d) _ two)))
    (λ one. or_second (same_corners (r c) (r d) || same_corners (turned (r c)) (r d)) _ (subst (λ x. same_corners (turned (turned (r c))) (r x) ≡ true) (corners_same (turned (turned c)) d one) (same_itself (turned (turned (r c))))))
    (or_either (same_corners c d || same_corners (turned c) d) _ h)

different_renamed : (v w x y : ℕ) → x ≢ w → y ≢ w → x ≢ y → cond (x == v) w x ≢ cond (y == v) w y
different_renamed v w x y x_w y_w apart = by_tests (x == v) (y == v) refl refl
  where
    by_tests : (a b : Bool) → (x == v) ≡ a → (y == v) ≡ b → cond a w x ≢ cond b w y
    by_tests true true p q h = apart (eqb-true x v p ∙ sym (eqb-true y v q))
    by_tests true false p q h = y_w (sym h)
    by_tests false true p q h = x_w h
    by_tests false false p q h = apart h

-- ---- one face after another
-- no two faces are equal, even with v in w's place
abbrev pub StayApart : ℕ → ℕ → Mesh → Type 0
StayApart v w m = (f g : ℕ) (c d : Corners) → HasCorners m f c → HasCorners m g d → equal_up_to_rotation (renamed w v c) (renamed w v d) ≡ true → f ≡ g

pub apart_at_first : (v w : ℕ) (m : Mesh) → IsMesh m → m.next_vertex ≤ w → StayApart v w m
apart_at_first v w m mesh new f g c d h k same =
    mesh.different_faces f g c d h k
    (subst (λ x. equal_up_to_rotation x d ≡ true) (renamed_none v w c (without_new m w f c mesh new h))
    (subst (λ x. equal_up_to_rotation (renamed w v c) x ≡ true) (renamed_none v w d (without_new m w g d mesh new k)) same))

module _ (v w : ℕ) (m : Mesh) (f : ℕ) (c : Corners) (mesh : IsMesh m) (apart : StayApart v w m) (there : HasCorners m f c) (off : IsWithout w c) where
  abbrev bare : Mesh
  bare = without_face m f

  abbrev made : Corners
  made = renamed v w c

  -- back again it is as the old face
  as_old : (d : Corners) → equal_up_to_rotation (renamed w v made) (renamed w v d) ≡ true → equal_up_to_rotation (renamed w v c) (renamed w v d) ≡ true
  as_old d h = subst (λ x. equal_up_to_rotation x (renamed w v d) ≡ true) (renamed_back v w c off ∙ sym (renamed_none v w c off)) h

  as_old_right : (d : Corners) → equal_up_to_rotation (renamed w v d) (renamed w v made) ≡ true → equal_up_to_rotation (renamed w v d) (renamed w v c) ≡ true
  as_old_right d h = subst (λ x. equal_up_to_rotation (renamed w v d) x ≡ true) (renamed_back v w c off ∙ sym (renamed_none v w c off)) h

  one_live : IsLiveVertex m w → (x : ℕ) → IsLiveVertex m x → IsLiveVertex m (cond (x == v) w x)
  one_live w_live x live = by_test (x == v)
    where
      by_test : (b : Bool) → IsLiveVertex m (cond b w x)
      by_test true = w_live
      by_test false = live

  is_not : (b : Bool) → (b ≡ true → ⊥) → b ≡ false
  is_not true never = absurd (never refl)
  is_not false never = refl

  pub made_fresh : IsLiveVertex m w → IsFresh bare made
  made_fresh w_live =
      let live = mesh.live_corners f c there in
      let different = mesh.different_corners f c there in
      record {
        live = (one_live w_live c.first live.0, one_live w_live c.second live.1, one_live w_live c.third live.2);
        different = record {
          first_second = different_renamed v w c.first c.second off.first off.second different.first_second;
          second_third = different_renamed v w c.second c.third off.second off.third different.second_third;
          third_first = different_renamed v w c.third c.first off.third off.first different.third_first;
        };
        new = λ g d h. is_not (equal_up_to_rotation d made) (λ same.
            let old = got_after_remove m.faces f g d h in
            old.0 (apart g f d c old.1 there (as_old_right d (equal_renamed w v d made same))));
      }

  pub one_apart : StayApart v w (with_face bare made)
  one_apart g g' d d' h h' same =
      let got = got_after_insert bare.faces bare.next_face made in
      ⊎_elim
      (λ e. ⊎_elim
      (λ e'. e.0 ∙ sym e'.0)
      (λ in'. let old' = got_after_remove m.faces f g' d' in' in
      absurd (old'.0 (sym (apart f g' c d' there old'.1 (as_old d' (subst (λ x. equal_up_to_rotation (renamed w v x) (renamed w v d') ≡ true) (sym e.1) same))))))
      (got g' d' h'))
      (λ in_. let old = got_after_remove m.faces f g d in_ in
      ⊎_elim
      (λ e'. absurd (old.0 (apart g f d c old.1 there (as_old_right d (subst (λ x. equal_up_to_rotation (renamed w v d) (renamed w v x) ≡ true) (sym e'.1) same)))))
      (λ in'. apart g g' d d' old.1 (got_after_remove m.faces f g' d' in').1 same)
      (got g' d' h'))
      (got g d h)

  pub one_mesh : IsLiveVertex m w → 1 ≤ m.next_face → IsMesh (with_face bare made)
  one_mesh w_live first = mesh-with_face bare made (mesh-without_face m f mesh) first (made_fresh w_live)

-- ---- a fan
pub fan_mesh : (at : ℕ → Corners) (v w : ℕ) (m : Mesh) (fs : List ℕ) → IsMesh m → StayApart v w m → IsLiveVertex m w → 1 ≤ m.next_face → Differ fs → AreThere at m fs → AllByRecursion (λ f. IsWithout w (at f)) fs →
    IsMesh (with_all_renamed v w m fs) × (1 ≤ (with_all_renamed v w m fs).next_face)
fan_mesh at v w m [] mesh apart w_live first differ there off = (mesh, first)
fan_mesh at v w m (f ∷ fs) mesh apart w_live first differ there off =
    let same : with_face (without_face m f) (renamed v w (at f)) ≡ with_renamed v w m f = ap (λ c. with_face (without_face m f) (renamed v w c)) (sym (corners_there m f (at f) there.0)) in
    fan_mesh at v w (with_renamed v w m f) fs
    (subst IsMesh same (one_mesh v w m f (at f) mesh apart there.0 off.0 w_live first))
    (subst (StayApart v w) same (one_apart v w m f (at f) mesh apart there.0 off.0))
    w_live
    (let h : 1 ≤ m.next_face + 1 = omega arith in h)
    differ.1
    (others_there at v w m f fs (λ g live. (mesh.face_ids g live).1) differ.0 there.1)
    off.1

-- ---- one fan after another
pub record IsWell (m : Mesh) : Type 0 where
  pub is_mesh : IsMesh m
  pub some_vertex : 1 ≤ m.next_vertex
  pub some_face : 1 ≤ m.next_face

module _ (m : Mesh) (v : ℕ) (mesh : IsMesh m) where
  pub copies_are_well : (n : Mesh) (others : List (List ℕ)) (points : List Point) → m.next_vertex ≤ n.next_vertex → AllByRecursion (IsFan m v) others → AreApart others → AllByRecursion (AreThere (corners_at m) n) others →
      IsWell n → IsWell (fold (with_copy v) n (zip others points))
  copies_are_well n [] points new fan apart there well = well
  copies_are_well n (d ∷ ds) [] new fan apart there well = well
  copies_are_well n (d ∷ ds) (p ∷ ps) new fan apart there well =
      let w = n.next_vertex in
      let base = with_vertex n p in
      let base_mesh = mesh-with_vertex n p well.is_mesh well.some_vertex in
      let more : m.next_vertex ≤ n.next_vertex + 1 = omega (arith, new) in
      let first : 1 ≤ n.next_vertex + 1 = omega arith in
      let next = next_vertex-renamed v w base d in
      let after = fan_mesh (corners_at m) v w base d base_mesh (apart_at_first v w n well.is_mesh (omega arith)) (live_inserted n.points w p) well.some_face fan.0.differ there.0 (fan_without m v w d mesh new fan.0) in
      copies_are_well (with_copy v n (d, p)) ds ps
      (subst (λ k. m.next_vertex ≤ k) (sym next) more)
      fan.1 apart.1
      (fans_stay (corners_at m) v w base d ds (λ g live. (well.is_mesh.face_ids g live).1) apart.0 there.1)
      (record { is_mesh = after.0; some_vertex = subst (λ k. 1 ≤ k) (sym next) first; some_face = after.1 })

-- a pinch that passes no limit leaves a sound mesh, whatever the points
pub pinch_is_sound : (m : Mesh) (v : ℕ) (at : Point) (points : List Point) → IsSound m → IsClosed m → IsLiveVertex m v → is_over_limits (pinch_mesh m v at points) ≡ false → IsSound (pinch_mesh m v at points)
pinch_is_sound m v at points sound closed live fits =
    let moved = sound-with_point m v at sound live in
    let well = copies_are_well m v sound.is_mesh (with_point m v at) (drop 1 (fans m v)) points (omega arith) (later_fans m v closed) (later_apart m v) (later_there m v closed)
    (record { is_mesh = moved.is_mesh; some_vertex = moved.limits.vertex_ids.0; some_face = moved.limits.face_ids.0 }) in
    record { is_mesh = well.is_mesh; limits = not_over (pinch_mesh m v at points) fits well.some_vertex well.some_face (subst (λ (l : Limits). (l.vertices ≤ VERTICES_MAX) × (l.faces ≤ FACES_MAX)) (sym (limits-copied v (with_point m v at) (zip (drop 1 (fans m v)) points))) sound.limits.greatest) }
