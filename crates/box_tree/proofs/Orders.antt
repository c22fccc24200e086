-- Lists that have each place once.
use Rattle.std.proofs.Common.{◌≡◌, ◌∙◌, ⊎_elim, ℕ, ◌+◌, ◌<◌, Bool, true, false, ◌||◌, nat_eq, List, [], ◌∷◌, ◌++◌, map, refl, sym, ap, subst, arith}
use Rattle.std.specs.Prelude.{Result, IfOk, Ok, Err}
use Rattle.std.specs.List.{list_any, AllByRecursion, IsDistinct}
use Rattle.std.specs.List.Sorted.{IsPermutation}
use Rattle.std.specs.Cmp.{nat_eq_equiv}
use Rattle.std.proofs.lemmas.Bool.{eq-eqb, eqb-true, or_left, or_right, cases_lt, cases_Bool}
use Rattle.std.proofs.lemmas.List.Sorted.{list_any-IsPermutation}
use Rattle.std.proofs.lemmas.Map.Keys.{IsDistinct-IsPermutation}
use Rattle.cell_grid.specs.Filed.{has}
use Rattle.box_tree.specs.declared.labelled_box.LabelledBox.{LabelledBox}
use Rattle.box_tree.specs.Order.{HasEachPlace, HaveEachPlace, same_place}

abbrev is_beside : ℕ → ℕ × ℕ → Bool
is_beside j k = nat_eq j k.1

either : (p : ℕ × ℕ → Bool) (xs : List (ℕ × ℕ)) (x : ℕ × ℕ) → list_any p (xs ++ x ∷ []) ≡ (list_any p xs || p x)
either p [] x = or_none (p x)
  where
    or_none : (b : Bool) → (b || false) ≡ b
    or_none true = refl
    or_none false = refl
either p (y ∷ ys) x = ap (λ (b : Bool). p y || b) (either p ys x) ∙ or_assoc (p y) (list_any p ys) (p x)
  where
    or_assoc : (a b c : Bool) → (a || (b || c)) ≡ ((a || b) || c)
    or_assoc true b c = refl
    or_assoc false b c = refl

-- each place before this one is there once, and no other
pub record HaveBefore (i : ℕ) (keyed : List (ℕ × ℕ)) : Type 0 where
  pub each : (j : ℕ) → j < i → list_any (is_beside j) keyed ≡ true
  pub once : IsDistinct same_place keyed
  pub before : AllByRecursion (λ k. k.1 < i) keyed

pub none_yet : HaveBefore 0 []
unfolding IsDistinct
none_yet = record { each = λ j lt. absurd (omega arith); once = tt; before = tt }

each_more : (xs : List (ℕ × ℕ)) (i code : ℕ) → ((j : ℕ) → j < i → list_any (is_beside j) xs ≡ true) → (j : ℕ) → j < i + 1 → list_any (is_beside j) (xs ++ (code, i) ∷ []) ≡ true
each_more xs i code before j lt =
    either (is_beside j) xs (code, i)
    ∙ ⊎_elim
    (λ less. or_left _ _ (before j less))
    (λ rest. let e : j ≡ i = omega arith in or_right (list_any (is_beside j) xs) _ (eq-eqb j i e))
    (cases_lt j i)

before_more : (xs : List (ℕ × ℕ)) (i code : ℕ) → AllByRecursion (λ k. k.1 < i) xs → AllByRecursion (λ k. k.1 < i + 1) (xs ++ (code, i) ∷ [])
before_more [] i code h = (omega arith, tt)
before_more (x ∷ xs) i code h = (up x.1 h.0, before_more xs i code h.1)
  where
    up : (j : ℕ) → j < i → j < i + 1
    up j lt = omega arith

less_differs : (j i : ℕ) → j < i → nat_eq j i ≡ false
less_differs j i lt = ⊎_elim (λ same. let e = eqb-true j i same in absurd (omega arith)) (λ no'. no') (cases_Bool (nat_eq j i))

other_more : (x : ℕ × ℕ) (xs : List (ℕ × ℕ)) (i code : ℕ) → x.1 < i → AllByRecursion (λ y. same_place x y ≡ false) xs → AllByRecursion (λ y. same_place x y ≡ false) (xs ++ (code, i) ∷ [])
other_more x [] i code lt h = (less_differs x.1 i lt, tt)
other_more x (y ∷ ys) i code lt h = (h.0, other_more x ys i code lt h.1)

once_more : (xs : List (ℕ × ℕ)) (i code : ℕ) → AllByRecursion (λ k. k.1 < i) xs → IsDistinct same_place xs → IsDistinct same_place (xs ++ (code, i) ∷ [])
unfolding IsDistinct
once_more [] i code before h = (tt, tt)
once_more (x ∷ xs) i code before h = (other_more x xs i code before.0 h.0, once_more xs i code before.1 h.1)

pub one_more : (xs ys : List (ℕ × ℕ)) (i code : ℕ) → ys ≡ xs ++ (code, i) ∷ [] → HaveBefore i xs → HaveBefore (i + 1) ys
one_more xs ys i code is h = subst (HaveBefore (i + 1)) (sym is) (record {
  each = each_more xs i code h.each;
  once = once_more xs i code h.before h.once;
  before = before_more xs i code h.before;
})

has_seconds : (j : ℕ) (xs : List (ℕ × ℕ)) → has j (map (λ k. k.1) xs) ≡ list_any (is_beside j) xs
has_seconds j [] = refl
has_seconds j (x ∷ xs) = ap (λ (b : Bool). nat_eq j x.1 || b) (has_seconds j xs)

others_alone : (x : ℕ × ℕ) (xs : List (ℕ × ℕ)) → AllByRecursion (λ y. same_place x y ≡ false) xs → AllByRecursion (λ j. nat_eq x.1 j ≡ false) (map (λ k. k.1) xs)
others_alone x [] h = tt
others_alone x (y ∷ ys) h = (h.0, others_alone x ys h.1)

once_alone : (xs : List (ℕ × ℕ)) → IsDistinct same_place xs → IsDistinct nat_eq (map (λ k. k.1) xs)
unfolding IsDistinct
once_alone [] h = tt
once_alone (x ∷ xs) h = (others_alone x xs h.0, once_alone xs h.1)

pub sorted_places : (boxes : List LabelledBox) (keyed sorted : List (ℕ × ℕ)) (order : List ℕ) → HaveEachPlace boxes keyed → IsPermutation keyed sorted → order ≡ map (λ k. k.1) sorted → HasEachPlace boxes order
sorted_places boxes keyed sorted order h p is = record {
  each = λ i lt. ap (has i) is ∙ has_seconds i sorted ∙ sym (list_any-IsPermutation (is_beside i) keyed sorted p) ∙ h.each i lt;
  once = subst (IsDistinct nat_eq) (sym is) (once_alone sorted (IsDistinct-IsPermutation same_place (λ k l. nat_eq_equiv.symm k.1 l.1) keyed sorted p h.once));
}

-- what follows from an answer that is Ok
pub if_ok : {A E : Type 0} (r : Result A E) {P Q : A → Type 0} → ((x : A) → P x → Q x) → IfOk r P → IfOk r Q
if_ok (Ok x) f h = f x h
if_ok (Err e) f h = h
