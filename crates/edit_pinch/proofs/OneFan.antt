-- Where a chain leads from the first number of a list to each, there is one class.
use Rattle.std.proofs.Common.{◌≡◌, ℕ, Bool, true, false, cond, ◌==◌, List, [], ◌∷◌, length, map, slice_index, refl, sym, ap, subst, ◌∙◌, arith}
use Rattle.std.proofs.lemmas.Bool.{eqb-true}
use Rattle.std.specs.List.{filter}
use Rattle.std.specs.Prelude.{Option, Some, None, slice_get}
use Rattle.mesh_base.specs.Mesh.{Mesh}
use Rattle.mesh_base.specs.Sides.{faces_at}
use Rattle.edit_base.specs.Classes.{is_one_of, Linked, class_of, classes}
use Rattle.edit_pinch.specs.Pinch.{share_second, fans}
use Rattle.edit_base.proofs.Chains.{Has, either_first, either_second, equal_itself, passed, near_is, test_at, linked_has}
use Rattle.edit_pinch.proofs.FansApart.{IsSymmetric, Differ, classes_same}
use Rattle.edit_pinch.proofs.FanBalance.{share_both_ways, faces_differ}

-- each is kept, or none
all_kept : (test : ℕ → Bool) (xs : List ℕ) → ((y : ℕ) → Has xs y → test y ≡ true) → filter test xs ≡ xs
all_kept test [] h = refl
all_kept test (x ∷ xs) h =
    ap (λ b. cond b (x ∷ filter test xs) (filter test xs)) (h x (either_first (x == x) _ (equal_itself x)))
    ∙ ap (λ l. x ∷ l) (all_kept test xs (λ y has. h y (either_second (x == y) _ has)))

none_kept : (test : ℕ → Bool) (xs : List ℕ) → ((y : ℕ) → Has xs y → test y ≡ false) → filter test xs ≡ []
none_kept test [] h = refl
none_kept test (x ∷ xs) h =
    ap (λ b. cond b (x ∷ filter test xs) (filter test xs)) (h x (either_first (x == x) _ (equal_itself x)))
    ∙ none_kept test xs (λ y has. h y (either_second (x == y) _ has))

module _ (touch : ℕ → ℕ → Bool) (x : ℕ) (xs : List ℕ) (both : IsSymmetric touch) (differ : Differ (x ∷ xs)) (reached : (y : ℕ) → Has (x ∷ xs) y → Has (class_of touch (x ∷ xs) x) y) where
  abbrev all : List ℕ
  all = x ∷ xs

  abbrev is_least : ℕ → Bool
  is_least y = slice_index (class_of touch all y) 0 == y

  here : Has all x
  here = either_first (x == x) _ (equal_itself x)

  -- the class of the first has all
  is_all : class_of touch all x ≡ all
  is_all =
      let n = length all in
      let is = near_is touch all x n in
      is ∙ all_kept (test_at touch all x n) all (λ y has. kept_passes (test_at touch all x n) all y (subst (λ l. Has l y) is (reached y has)))
    where
      kept_passes : (test : ℕ → Bool) (ys : List ℕ) (y : ℕ) → Has (filter test ys) y → test y ≡ true
      kept_passes test ys y has = (passed test ys y has).1

  same_class : (y : ℕ) → Has all y → class_of touch all y ≡ all
  same_class y has = classes_same touch all both y x y has here (linked_has touch all y y has Linked.itself) (reached y has) ∙ is_all

  first_least : is_least x ≡ true
  first_least = ap (λ l. slice_index l 0 == x) is_all ∙ equal_itself x

  others_not : (y : ℕ) → Has xs y → is_least y ≡ false
  others_not y has = ap (λ l. slice_index l 0 == y) (same_class y (either_second (x == y) _ has)) ∙ apart (x == y) refl
    where
      apart : (b : Bool) → (x == y) ≡ b → b ≡ false
      apart true e = absurd (differ.0 (subst (Has xs) (sym (eqb-true x y e)) has))
      apart false e = refl

  pub one_class : length (classes touch all) ≡ 1
  one_class =
      ap (λ l. length (map (λ y. class_of touch all y) l))
      (ap (λ b. cond b (x ∷ filter is_least xs) (filter is_least xs)) first_least
      ∙ ap (λ l. x ∷ l) (none_kept is_least xs others_not))

-- a list of no items
pub no_items : {X : Type 0} (xs : List X) (n : ℕ) → n ≡ length xs → (n == 0) ≡ true → xs ≡ []
no_items [] n is none = refl
no_items (x ∷ xs) n is none = absurd (let zero = eqb-true n 0 none in omega (arith, is, zero))

same_some : (a b : ℕ) → Some a ≡ Some b → a ≡ b
same_some a b h = cc

some≢none : (x : ℕ) → ◌≡◌ {A = Option ℕ} (Some x) None → ⊥
some≢none x e = cc

-- the faces at a vertex, to each of which a chain leads from the first, are one fan
pub one_fan : (m : Mesh) (v : ℕ) (faces : List ℕ) (f : ℕ) (fan : List ℕ) → faces ≡ faces_at m v → Some f ≡ slice_get faces 0
    → ((g : ℕ) → is_one_of fan g ≡ is_one_of (class_of (share_second m v) faces f) g) → ((g : ℕ) → Has faces g → Has fan g) → length (fans m v) ≡ 1
one_fan m v [] f fan same at found each = absurd (some≢none f at)
one_fan m v (x ∷ xs) f fan same at found each =
    let touch = share_second m v in
    let is : f ≡ x = same_some f x at in
    let reached : (y : ℕ) → Has (x ∷ xs) y → Has (class_of touch (x ∷ xs) x) y = λ y has. subst (λ z. Has (class_of touch (x ∷ xs) z) y) is (sym (found y) ∙ each y has) in
    ap (λ l. length (classes touch l)) (sym same)
    ∙ one_class touch x xs (share_both_ways m v) (subst Differ (sym same) (faces_differ m v)) reached
