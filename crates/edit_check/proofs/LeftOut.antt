-- The first pair of the edges in order, where each edge has none or is not before the one of a pair that is found.
use Rattle.std.proofs.Common.{◌≡◌, ℕ, Bool, true, false, List, [], ◌∷◌, ◌++◌, Option, Some, None, ◌⊎◌, ⊎_elim, refl, sym, ap, ◌∙◌, arith}
use Rattle.std.specs.List.{find, flat_map, AllByRecursion}
use Rattle.std.specs.List.Sorted.{IsStrictlySortedBy}
use Rattle.std.specs.Ordering.{nat_cmp, eq_by_cmp}
use Rattle.std.specs.declared.cmp.Ordering.TheVariants.{Less}
use Rattle.std.specs.Option.{option_map, option_or}
use Rattle.std.proofs.lemmas.Bool.{false≢true, or_cases}
use Rattle.std.proofs.lemmas.Bool.Decides.{nat_tests}
use Rattle.std.proofs.lemmas.List.Folds.{find-append}
use Rattle.std.proofs.lemmas.Map.Lookups.{CmpEqualImpliesEq, exact_pairs, exact_unsigned}
use Rattle.std.proofs.lemmas.Map.Views.{tells_apart}
use Rattle.mesh_base.specs.declared.ids.PairName.{PairName}
use Rattle.mesh_base.specs.SideList.{edge_cmp, has_side}
use Rattle.edit_check.specs.Searching.{is_settled}
use Rattle.edit_check.proofs.Settling.{is_after}

edge_exact : CmpEqualImpliesEq edge_cmp
edge_exact = exact_pairs nat_cmp nat_cmp exact_unsigned exact_unsigned

-- an edge before another is not after it
not_after : (c d a b : ℕ) → edge_cmp (a, b) (c, d) ≡ Less → is_after c d a b ≡ true → false ≡ true
not_after c d a b h i = grind (arith, nat_tests)

module _ {Y : Type 0} (name : Y → PairName) (test : Y → Bool) (of : ℕ × ℕ → List Y) where
  abbrev first_in : List Y → Option PairName
  first_in ys = option_map name (find test ys)

  nothing : (o : Option Y) → option_map name o ≡ None → o ≡ None
  nothing None h = refl
  nothing (Some y) h = cc

  passed_by : (x : ℕ × ℕ) (ys : List Y) → first_in (of x) ≡ None → first_in (of x ++ ys) ≡ first_in ys
  passed_by x ys h = ap (option_map name) (find-append test (of x) ys ∙ ap (λ o. option_or o (find test ys)) (nothing (find test (of x)) h))

  stopped_at : (x : ℕ × ℕ) (ys : List Y) (n : PairName) → first_in (of x) ≡ Some n → first_in (of x ++ ys) ≡ Some n
  stopped_at x ys n h = ap (option_map name) (find-append test (of x) ys) ∙ by_case (find test (of x)) h
    where
      by_case : (o : Option Y) → option_map name o ≡ Some n → option_map name (option_or o (find test ys)) ≡ Some n
      by_case (Some y) h = h
      by_case None h = cc

  abbrev pub IsPassed : Option PairName → ℕ × ℕ → Type 0
  IsPassed found e = (first_in (of e) ≡ None) ⊎ (is_settled found e.0 e.1 ≡ true)

  -- nothing is found, and none has one
  pub none_in : (es : List (ℕ × ℕ)) → AllByRecursion (IsPassed None) es → first_in (flat_map of es) ≡ None
  none_in [] h = refl
  none_in (e ∷ es) h = ⊎_elim (λ none. passed_by e (flat_map of es) none ∙ none_in es h.1) (λ t. absurd (false≢true t)) h.0

  -- a pair is found
  pub one_in : (n : PairName) (es : List (ℕ × ℕ)) → IsStrictlySortedBy edge_cmp es → AllByRecursion (IsPassed (Some n)) es → first_in (of (n.a, n.b)) ≡ Some n → has_side es n.a n.b ≡ true
      → first_in (flat_map of es) ≡ Some n
  unfolding IsStrictlySortedBy
  one_in n [] sorted h is has = absurd (false≢true has)
  one_in n (e ∷ es) sorted h is has = by_test (eq_by_cmp edge_cmp (n.a, n.b) e) refl (one_in n es sorted.1 h.1 is)
    where
      later : (xs : List (ℕ × ℕ)) → AllByRecursion (λ x. edge_cmp e x ≡ Less) xs → has_side xs n.a n.b ≡ true → edge_cmp e (n.a, n.b) ≡ Less
      later [] all there = absurd (false≢true there)
      later (x ∷ xs) all there = ⊎_elim
          (λ same. ap (edge_cmp e) (tells_apart edge_exact (n.a, n.b) x same) ∙ all.0)
          (λ rest. later xs all.1 rest)
          (or_cases (eq_by_cmp edge_cmp (n.a, n.b) x) (has_side xs n.a n.b) there)

      tail_has : (t : Bool) → eq_by_cmp edge_cmp (n.a, n.b) e ≡ t → t ≡ false → has_side es n.a n.b ≡ true
      tail_has t i off = ⊎_elim (λ same. absurd (false≢true (sym off ∙ sym i ∙ same))) (λ rest. rest) (or_cases (eq_by_cmp edge_cmp (n.a, n.b) e) (has_side es n.a n.b) has)

      by_test : (t : Bool) → eq_by_cmp edge_cmp (n.a, n.b) e ≡ t → (has_side es n.a n.b ≡ true → first_in (flat_map of es) ≡ Some n) → first_in (of e ++ flat_map of es) ≡ Some n
      by_test true same rest = stopped_at e (flat_map of es) n (ap (λ x. first_in (of x)) (sym (tells_apart edge_exact (n.a, n.b) e same)) ∙ is)
      by_test false off rest =
          let there = tail_has false off refl in
          let before = later es sorted.0 there in
          ⊎_elim (λ none. passed_by e (flat_map of es) none ∙ rest there) (λ t. absurd (false≢true (not_after n.a n.b e.0 e.1 before t))) h.0
