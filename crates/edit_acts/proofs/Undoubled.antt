-- Where no two faces are equal up to rotation, the faces of a mesh are different.
use Rattle.std.proofs.Common.{◌≡◌, ℕ, Bool, true, false, cond, List, [], ◌∷◌, map, Some, refl, sym, subst, ◌∙◌}
use Rattle.std.proofs.lemmas.Bool.{false≢true}
use Rattle.std.specs.List.{list_any}
use Rattle.std.specs.Ordering.{nat_cmp, eq_by_cmp}
use Rattle.std.specs.FinMap as finite
use Rattle.std.specs.FinMap.{get-entries}
use Rattle.std.specs.FinMap.Entries.{find}
use Rattle.std.proofs.lemmas.Map.Lookups.{exact_unsigned}
use Rattle.std.proofs.lemmas.Map.Views.{tells_apart}
use Rattle.mesh_base.specs.declared.ids.Corners.{Corners}
use Rattle.mesh_base.specs.Mesh.{Mesh, HasCorners, equal_up_to_rotation}
use Rattle.mesh_base.proofs.MeshLaws.{equal_symmetric}
use Rattle.edit_base.specs.Edges.{has_equal, doubles_a_face}
use Rattle.edit_acts.proofs.Sound.{neither}

-- what is found at a key is among the values
found_any : (test : Corners → Bool) (es : List (ℕ × Corners)) (f : ℕ) (c : Corners) → find nat_cmp f es ≡ Some c → list_any test (map (λ e. e.1) es) ≡ false → test c ≡ false
found_any test [] f c h none = cc
found_any test (e ∷ es) f c h none = by_test (λ is. found_any test es f c is (neither (test e.1) (list_any test (map (λ x. x.1) es)) none).1) (eq_by_cmp nat_cmp f e.0) h
  where
    rest : test e.1 ≡ false
    rest = (neither (test e.1) (list_any test (map (λ x. x.1) es)) none).0

    by_test : (find nat_cmp f es ≡ Some c → test c ≡ false) → (b : Bool) → cond b (Some e.1) (find nat_cmp f es) ≡ Some c → test c ≡ false
    by_test behind true is = let same : e.1 ≡ c = cc in subst (λ x. test x ≡ false) same rest
    by_test behind false is = behind is

-- two that are found at different keys are not equal
apart : (es : List (ℕ × Corners)) (f g : ℕ) (c d : Corners) → has_equal (map (λ e. e.1) es) ≡ false → find nat_cmp f es ≡ Some c → find nat_cmp g es ≡ Some d → equal_up_to_rotation c d ≡ true → f ≡ g
apart [] f g c d none h k same = cc
apart (e ∷ es) f g c d none h k same = by_tests (apart es f g c d two.1) (eq_by_cmp nat_cmp f e.0) (eq_by_cmp nat_cmp g e.0) refl refl h k
  where
    two : (list_any (λ x. equal_up_to_rotation e.1 x) (map (λ x. x.1) es) ≡ false) × (has_equal (map (λ x. x.1) es) ≡ false)
    two = neither (list_any (λ x. equal_up_to_rotation e.1 x) (map (λ x. x.1) es)) (has_equal (map (λ x. x.1) es)) none

    by_tests : (find nat_cmp f es ≡ Some c → find nat_cmp g es ≡ Some d → equal_up_to_rotation c d ≡ true → f ≡ g) → (a b : Bool) → eq_by_cmp nat_cmp f e.0 ≡ a → eq_by_cmp nat_cmp g e.0 ≡ b →
        cond a (Some e.1) (find nat_cmp f es) ≡ Some c → cond b (Some e.1) (find nat_cmp g es) ≡ Some d → f ≡ g
    by_tests rest true true i j h k = tells_apart exact_unsigned f e.0 i ∙ sym (tells_apart exact_unsigned g e.0 j)
    by_tests rest true false i j h k =
        let is : e.1 ≡ c = cc in
        absurd (false≢true (sym (found_any (λ x. equal_up_to_rotation e.1 x) es g d k two.0) ∙ subst (λ x. equal_up_to_rotation x d ≡ true) (sym is) same))
    by_tests rest false true i j h k =
        let is : e.1 ≡ d = cc in
        absurd (false≢true (sym (found_any (λ x. equal_up_to_rotation e.1 x) es f c h two.0) ∙ subst (λ x. equal_up_to_rotation x c ≡ true) (sym is) (equal_symmetric c d same)))
    by_tests rest false false i j h k = rest h k same

pub undoubled : (m : Mesh) → doubles_a_face m ≡ false → (f g : ℕ) (c d : Corners) → HasCorners m f c → HasCorners m g d → equal_up_to_rotation c d ≡ true → f ≡ g
undoubled m none f g c d h k same = apart (finite.entries m.faces) f g c d none (sym (get-entries m.faces f) ∙ h) (sym (get-entries m.faces g) ∙ k) same
