-- Of two faces that are one another's opposites one rises.
use Rattle.std.proofs.Common.{◌≡◌, ◌≢◌, ℕ, Bool, true, false, ◌&&◌, ◌||◌, ◌==◌, not, List, [], ◌∷◌, map, nat_lt, ⊎_elim, refl, sym, ◌∙◌, arith}
use Rattle.std.proofs.lemmas.Bool.{false≢true, eqb-true}
use Rattle.std.proofs.lemmas.Bool.Decides.{nat_tests}
use Rattle.std.specs.List.{list_any, AllByRecursion}
use Rattle.std.specs.FinMap as finite
use Rattle.mesh_base.specs.declared.ids.Corners.{Corners}
use Rattle.mesh_base.specs.Mesh.{Mesh, IsSound, HasCorners, AreDifferent, same_corners, turned, equal_up_to_rotation}
use Rattle.mesh_base.proofs.Listed.{at_key}
use Rattle.mesh_base.proofs.ListedPairs.{all_mapped, all_weaker}
use Rattle.mesh_base.proofs.MeshLaws.{equal_symmetric}
use Rattle.mesh_base.proofs.Tests.{and_first, and_second, and_both, or_first, or_second, or_either}
use Rattle.track_run.specs.Surface.{each_corners, backward, has_opposite, opposite_faces, most, rises}
use Rattle.track_run.proofs.SurfaceSteps.{each_there, none_of, none_counted}

-- ---- two of three
most_turned : (a b c : Bool) → most b c a ≡ most a b c
most_turned true true true = refl
most_turned true true false = refl
most_turned true false true = refl
most_turned true false false = refl
most_turned false true true = refl
most_turned false true false = refl
most_turned false false true = refl
most_turned false false false = refl

most_others : (a b c : Bool) → most a b c ≡ false → most (not b) (not a) (not c) ≡ true
most_others true true c h = cc
most_others true false true h = cc
most_others true false false h = refl
most_others false true true h = cc
most_others false true false h = refl
most_others false false true h = refl
most_others false false false h = refl

-- ---- corners that are the same up to rotation rise alike
pub less_back : (x y : ℕ) → nat_lt x y ≡ true → nat_lt y x ≡ false
less_back x y h = grind (arith, nat_tests)

less_on : (x y : ℕ) → x ≢ y → nat_lt x y ≡ false → nat_lt y x ≡ true
less_on x y apart h = grind (arith, nat_tests)

less_turned : (x y : ℕ) → x ≢ y → nat_lt y x ≡ not (nat_lt x y)
less_turned x y apart = by_test (nat_lt x y) refl
  where
    by_test : (b : Bool) → nat_lt x y ≡ b → nat_lt y x ≡ not b
    by_test true is = less_back x y is
    by_test false is = less_on x y apart is

same_rise : (c d : Corners) → same_corners c d ≡ true → rises c ≡ rises d
same_rise c d h =
    let two = and_first (c.first == d.first && c.second == d.second) (c.third == d.third) h in
    let p = eqb-true c.first d.first (and_first (c.first == d.first) (c.second == d.second) two) in
    let q = eqb-true c.second d.second (and_second (c.first == d.first) (c.second == d.second) two) in
    let r = eqb-true c.third d.third (and_second (c.first == d.first && c.second == d.second) (c.third == d.third) h) in
    λ i. most (nat_lt (p i) (q i)) (nat_lt (q i) (r i)) (nat_lt (r i) (p i))

turned_rises : (c : Corners) → rises (turned c) ≡ rises c
turned_rises c = most_turned (nat_lt c.first c.second) (nat_lt c.second c.third) (nat_lt c.third c.first)

pub alike_rise : (c d : Corners) → equal_up_to_rotation c d ≡ true → rises c ≡ rises d
alike_rise c d h = ⊎_elim
    (λ two. ⊎_elim
    (λ one. same_rise c d one)
    (λ one. sym (turned_rises c) ∙ same_rise (turned c) d one)
    (or_either (same_corners c d) (same_corners (turned c) d) two))
    (λ one. sym (turned_rises (turned c) ∙ turned_rises c) ∙ same_rise (turned (turned c)) d one)
    (or_either (same_corners c d || same_corners (turned c) d) (same_corners (turned (turned c)) d) h)

backward_rises : (c : Corners) → AreDifferent c → rises c ≡ false → rises (backward c) ≡ true
backward_rises c apart h =
    let a = nat_lt c.first c.second in
    let b = nat_lt c.second c.third in
    let d = nat_lt c.third c.first in
    (λ i. most (less_turned c.second c.third apart.second_third i) (less_turned c.first c.second apart.first_second i) (less_turned c.third c.first apart.third_first i))
    ∙ most_others a b d h

-- ---- opposites have one another
three_back : (p q r : Bool) → (p && q && r) ≡ true → (r && q && p) ≡ true
three_back true true true h = refl
three_back true true false h = cc
three_back true false r h = cc
three_back false q r h = cc

-- the corners of both the other way round
unturned : (c d : Corners) → equal_up_to_rotation (backward c) (backward d) ≡ true → equal_up_to_rotation c d ≡ true
unturned c d h =
    let s = same_corners c d in
    let t = same_corners (turned c) d in
    let u = same_corners (turned (turned c)) d in
    ⊎_elim
    (λ two. ⊎_elim
    (λ one. or_first (s || t) u (or_first s t (three_back (c.third == d.third) (c.second == d.second) (c.first == d.first) one)))
    (λ one. or_second (s || t) u (three_back (c.second == d.third) (c.first == d.second) (c.third == d.first) one))
    (or_either (same_corners (backward c) (backward d)) (same_corners (turned (backward c)) (backward d)) two))
    (λ one. or_first (s || t) u (or_second s t (three_back (c.first == d.third) (c.third == d.second) (c.second == d.first) one)))
    (or_either (same_corners (backward c) (backward d) || same_corners (turned (backward c)) (backward d)) (same_corners (turned (turned (backward c))) (backward d)) h)

opposite_back : (c d : Corners) → equal_up_to_rotation d (backward c) ≡ true → equal_up_to_rotation c (backward d) ≡ true
opposite_back c d h = unturned c (backward d) (equal_symmetric d (backward c) h)

-- ---- where no face that rises has an opposite, none has
module _ (m : Mesh) where
  found : (test : Corners → Bool) (es : List (ℕ × Corners)) → AllByRecursion (λ (e : ℕ × Corners). HasCorners m e.0 e.1) es → list_any test (map (λ e. e.1) es) ≡ true →
      (e : ℕ × Corners) × (test e.1 ≡ true) × HasCorners m e.0 e.1
  found test [] h t = absurd (false≢true t)
  found test (e ∷ es) h t = ⊎_elim (λ here. (e, here, h.0)) (λ rest. found test es h.1 rest) (or_either (test e.1) (list_any test (map (λ x. x.1) es)) t)

  held : (test : Corners → Bool) (f : ℕ) (c : Corners) → HasCorners m f c → test c ≡ true → list_any test (each_corners m) ≡ true
  held test f c there t = by_test (list_any test (each_corners m)) refl
    where
      by_test : (b : Bool) → list_any test (each_corners m) ≡ b → b ≡ true
      by_test true is = refl
      by_test false is = absurd (false≢true (sym (at_key (λ e. test e.1 ≡ false) m.faces f c (none_of test (finite.entries m.faces) is) there) ∙ t))

  module _ (sound : IsSound m) (none : AllByRecursion (λ (e : ℕ × Corners). (rises e.1 && has_opposite m e.1) ≡ false) (finite.entries m.faces)) where
    flat : (f : ℕ) (c : Corners) → HasCorners m f c → rises c ≡ true → has_opposite m c ≡ true → false ≡ true
    flat f c there up has = sym (at_key (λ e. (rises e.1 && has_opposite m e.1) ≡ false) m.faces f c none there) ∙ and_both (rises c) (has_opposite m c) up has

    lone : (f : ℕ) (c : Corners) → HasCorners m f c → has_opposite m c ≡ false
    lone f c there = by_test (has_opposite m c) refl
      where
        by_way : has_opposite m c ≡ true → (b : Bool) → rises c ≡ b → false ≡ true
        by_way has true is = flat f c there is has
        by_way has false is =
            let other = found (λ d. equal_up_to_rotation d (backward c)) (finite.entries m.faces) (each_there m) has in
            let d = (other.0).1 in
            let up : rises d ≡ true = alike_rise d (backward c) other.1 ∙ backward_rises c (sound.is_mesh.different_corners f c there) is in
            flat (other.0).0 d other.2 up (held (λ x. equal_up_to_rotation x (backward d)) f c there (opposite_back c d other.1))

        by_test : (b : Bool) → has_opposite m c ≡ b → b ≡ false
        by_test true is = absurd (false≢true (by_way is (rises c) refl))
        by_test false is = refl

  pub none_opposite : IsSound m → list_any (λ c. rises c && has_opposite m c) (each_corners m) ≡ false → opposite_faces m ≡ 0
  none_opposite sound h =
      let none = none_of (λ c. rises c && has_opposite m c) (finite.entries m.faces) h in
      none_counted (λ c. has_opposite m c) (each_corners m)
      (all_mapped (λ c. has_opposite m c ≡ false) (λ (e : ℕ × Corners). e.1) (finite.entries m.faces)
      (all_weaker (λ (e : ℕ × Corners). HasCorners m e.0 e.1) (λ (e : ℕ × Corners). has_opposite m e.1 ≡ false) (finite.entries m.faces) (λ e there. lone sound none e.0 e.1 there) (each_there m)))
