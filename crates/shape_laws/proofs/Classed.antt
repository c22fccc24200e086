-- Two lists of numbers in classes, where what stands for numbers of one class is of one class: there are no more classes.
use Rattle.std.proofs.Common.{◌≡◌, ℕ, ◌≤◌, ◌==◌, Bool, true, List, length, slice_index, sym, ap, subst, ◌∙◌, arith}
use Rattle.std.proofs.lemmas.Bool.{eqb-true}
use Rattle.std.proofs.lemmas.List.{length-map}
use Rattle.std.specs.List.{filter}
use Rattle.edit_base.specs.Classes.{Linked, class_of, classes}
use Rattle.edit_base.proofs.Chains.{Has, equal_itself, passed, passes, is_linked, linked_has}
use Rattle.edit_pinch.proofs.FansApart.{IsSymmetric, Differ, classes_same, differ-filter}
use Rattle.shape_laws.proofs.Lists.{In, no_longer}
use Rattle.shape_laws.proofs.Numbers.{has_in, in_has, first_there, all_differ}

module _ (touch near : ℕ → ℕ → Bool) (all them : List ℕ) (both : IsSymmetric touch) (both_near : IsSymmetric near) (differ : Differ all) (R : ℕ → ℕ → Type 0)
    (each : (x : ℕ) → Has all x → (z : ℕ) × Has them z × R x z)
    (back : (x y z w : ℕ) → Has all x → Has all y → Has them z → Has them w → R x z → R y w → Has (class_of near them z) w → Has (class_of touch all x) y) where
  abbrev of : ℕ → List ℕ
  of x = class_of touch all x

  abbrev of_them : ℕ → List ℕ
  of_them z = class_of near them z

  abbrev is_least : ℕ → Bool
  is_least x = slice_index (of x) 0 == x

  abbrev is_least_there : ℕ → Bool
  is_least_there z = slice_index (of_them z) 0 == z

  -- the class of what stands for x has y
  abbrev Leads : ℕ → ℕ → Type 0
  Leads x y = (z : ℕ) × Has them z × R x z × Has (of_them z) y

  has_itself : (x : ℕ) → Has all x → Has (of x) x
  has_itself x has = linked_has touch all x x has Linked.itself

  have_itself : (z : ℕ) → Has them z → Has (of_them z) z
  have_itself z has = linked_has near them z z has Linked.itself

  found : (x : ℕ) → In (filter is_least all) x → (y : ℕ) × In (filter is_least_there them) y × Leads x y
  found x i =
      let at = passed is_least all x (has_in (filter is_least all) x i) in
      let z = each x at.0 in
      let head = slice_index (of_them z.0) 0 in
      let in_class : Has (of_them z.0) head = first_there (of_them z.0) z.0 (have_itself z.0 z.1) in
      let there = (is_linked near them z.0 (length them) head in_class).0 in
      let same : of_them head ≡ of_them z.0 = classes_same near them both_near head z.0 head there z.1 (have_itself head there) in_class in
      let least : is_least_there head ≡ true = ap (λ l. slice_index l 0 == head) same ∙ equal_itself head in
      (head, in_has (filter is_least_there them) head (passes is_least_there them head there least), (z.0, z.1, z.2, in_class))

  single : (x y w : ℕ) → In (filter is_least all) x → In (filter is_least all) y → Leads x w → Leads y w → x ≡ y
  single x y w i j p q =
      let a = passed is_least all x (has_in (filter is_least all) x i) in
      let b = passed is_least all y (has_in (filter is_least all) y j) in
      let alike : of_them p.0 ≡ of_them q.0 = classes_same near them both_near p.0 q.0 w p.1 q.1 p.3 q.3 in
      let there : Has (of_them p.0) q.0 = subst (λ l. Has l q.0) (sym alike) (have_itself q.0 q.1) in
      let here : Has (of x) y = back x y p.0 q.0 a.0 b.0 p.1 q.1 p.2 q.2 there in
      let same : of x ≡ of y = classes_same touch all both x y y a.0 b.0 here (has_itself y b.0) in
      sym (eqb-true (slice_index (of x) 0) x a.1) ∙ ap (λ l. slice_index l 0) same ∙ eqb-true (slice_index (of y) 0) y b.1

  pub no_more_classes : length (classes touch all) ≤ length (classes near them)
  no_more_classes =
      let fewer = no_longer Leads (filter is_least all) (filter is_least_there them) (all_differ (filter is_least all) (differ-filter is_least all differ)) found single in
      omega (arith, fewer, length-map (filter is_least all) of, length-map (filter is_least_there them) of_them)
