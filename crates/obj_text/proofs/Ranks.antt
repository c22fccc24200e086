-- How many ids of a rising list there are up to one.
use Rattle.std.proofs.Common.{◌≡◌, ℕ, zero, suc, ◌+◌, ◌-◌, ◌<◌, ◌≤◌, min, Bool, true, false, leb, List, [], ◌∷◌, T, length, get_or, take, sym, ap, ◌∙◌, arith, cond, inl, inr}
use Rattle.std.specs.Prelude.{map}
use Rattle.std.specs.List.{filter}
use Rattle.std.specs.Ordering.{nat_cmp}
use Rattle.std.specs.FinMap as finite
use Rattle.std.specs.FinMap.{FinMap, entries_sorted}
use Rattle.std.specs.FinMap.Entries.{is_sorted, below_all}
use Rattle.std.specs.List.Sorted.{IsPartitionPoint, IsNonDecreasing}
use Rattle.std.proofs.lemmas.Bool.{cases_lt, ltb-true, le-leb, lt-leb}
use Rattle.std.proofs.lemmas.List.{take_all, get_or_default}
use Rattle.std.proofs.lemmas.List.Filters.{length-filter_more}
use Rattle.mesh_base.proofs.WalkSteps.{both_of, less_true}

module _ (p : ℕ → Bool) (xs : List ℕ) (i : ℕ) (h : IsPartitionPoint (λ y. p y ≡ true) (λ y. p y ≡ false) xs i) where
  among_first : (n : ℕ) → n ≤ length xs → length (filter p (take n xs)) ≡ min n i
  among_first zero le = omega arith
  among_first (suc n) le =
      let more : length (filter p (take (n + 1) xs)) ≡ length (filter p (take n xs)) + cond (p (get_or xs n 0)) 1 0 = length-filter_more p xs n 0 (omega arith) in
      let next : suc n ≡ n + 1 = omega arith in
      let before = among_first n (omega arith) in
      elim (cases_lt n i) [
        | inl lt ↦ let passes : p (get_or xs n 0) ≡ true = h.0 n 0 (omega arith) lt in rw (next, more, passes) (omega arith)
        | inr ge ↦ let fails : p (get_or xs n 0) ≡ false = h.1 n 0 ge (omega arith) in rw (next, more, fails) (omega arith)
      ]

  -- those that pass are the ones before the point where passing ends
  pub passing_are : i ≤ length xs → length (filter p xs) ≡ i
  passing_are le = let all : take (length xs) xs ≡ xs = take_all (length xs) xs (omega arith) in let e : length (filter p xs) ≡ min (length xs) i = ap (λ ys. length (filter p ys)) (sym all) ∙ among_first (length xs) (omega arith) in omega arith

-- how many are up to v, where those in front are and the next is not
pub so_many : (ids : List ℕ) (v i : ℕ) → IsNonDecreasing ids → 0 < i → i ≤ length ids → get_or ids (i - 1) 0 ≤ v → (i < length ids → v < get_or ids i 0) → length (filter (λ u. leb u v) ids) ≡ i
so_many ids v i rises some le last next =
    let before : (k d : ℕ) → 0 ≤ k → k < i → leb (get_or ids k d) v ≡ true = λ k d low lt. le-leb _ _ (omega (arith, rises k (i - 1) d (omega arith) (omega arith), get_or_default ids (i - 1) d 0 (omega arith), last)) in
    let behind : (k d : ℕ) → i ≤ k → k < length ids → leb (get_or ids k d) v ≡ false = λ k d low lt. lt-leb _ _ (omega (arith, rises i k d low lt, get_or_default ids i d 0 (omega arith), next (omega arith))) in
    passing_are (λ u. leb u v) ids i (before, behind) le

module _ {X : Type 0} where
  below_at : (k : ℕ) (es : List (ℕ × X)) → T (below_all nat_cmp k es) → (j d : ℕ) → j < length (map (λ e. e.0) es) → k ≤ get_or (map (λ e. e.0) es) j d
  below_at k [] h j d lt = absurd (omega arith)
  below_at k (e ∷ es) h zero d lt = let less : k < e.0 = ltb-true _ _ (less_true k e.0 (both_of _ _ h).0) in omega arith
  below_at k (e ∷ es) h (suc j) d lt = below_at k es (both_of _ _ h).1 j d (omega arith)

  rise_along : (es : List (ℕ × X)) → T (is_sorted nat_cmp es) → (i j d : ℕ) → i ≤ j → j < length (map (λ e. e.0) es) → get_or (map (λ e. e.0) es) i d ≤ get_or (map (λ e. e.0) es) j d
  rise_along [] s i j d le lt = absurd (omega arith)
  rise_along (e ∷ es) s zero zero d le lt = omega arith
  rise_along (e ∷ es) s zero (suc j) d le lt = below_at e.0 es (both_of (below_all nat_cmp e.0 es) (is_sorted nat_cmp es) s).0 j d (omega arith)
  rise_along (e ∷ es) s (suc i) zero d le lt = absurd (omega arith)
  rise_along (e ∷ es) s (suc i) (suc j) d le lt = rise_along es (both_of (below_all nat_cmp e.0 es) (is_sorted nat_cmp es) s).1 i j d (omega arith) (omega arith)

  -- the keys of a map rise
  pub keys_rise : (m : FinMap nat_cmp X) → IsNonDecreasing (finite.keys m)
  keys_rise m = rise_along (finite.entries m) (entries_sorted m)
