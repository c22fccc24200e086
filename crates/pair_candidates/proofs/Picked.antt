-- What some of the things of a list make is what all make, where the others make nothing.
use Rattle.std.proofs.Common.{◌≡◌, ◌∙◌, ⊎_elim, inl, inr, ◌⊎◌, ℕ, zero, suc, ◌+◌, ◌<◌, ◌≤◌, true, false, ◌||◌, List, [], ◌∷◌, ◌++◌, length, Option, Some, None, refl, sym, ap, arith}
use Rattle.std.specs.Prelude.{slice_get}
use Rattle.std.specs.List.{flat_map, AllByRecursion}
use Rattle.std.specs.List.Sorted.{IsStrictlySortedBy}
use Rattle.std.specs.Ordering.{nat_cmp}
use Rattle.std.specs.declared.cmp.Ordering.TheVariants.{Less}
use Rattle.std.proofs.lemmas.Bool.{ne_eqb, cases_order, false≢true}
use Rattle.std.proofs.lemmas.Cmp.{ranked}
use Rattle.std.proofs.lemmas.Map.Keys.{sorted_head, sorted_tail}
use Rattle.std.proofs.lemmas.Option.{slice_get_past}
use Rattle.cell_grid.specs.Filed.{has}
use Rattle.mesh_base.proofs.ListedPairs.{all_weaker}
use Rattle.pair_paths.proofs.Numbered.{numbers}

less_of : (k y : ℕ) → nat_cmp k y ≡ Less → k < y
less_of k y h = ranked k y Less (sym h)

above_all : (from : ℕ) (ks : List ℕ) → AllByRecursion (λ y. from + 1 ≤ y) ks → has from ks ≡ false
above_all from [] h = refl
above_all from (k ∷ ks) h = ap (λ b. b || has from ks) (ne_eqb from k (differs k h.0)) ∙ above_all from ks h.1
  where
    differs : (k : ℕ) → from + 1 ≤ k → from ≡ k → ⊥
    differs k lt e = omega arith

module _ {Y : Type 0} (each : ℕ → List Y) where
  none_from : (from n : ℕ) → ((k : ℕ) → from ≤ k → each k ≡ []) → flat_map each (numbers from n) ≡ []
  none_from from zero none = refl
  none_from from (suc n) none = ap (λ ys. ys ++ flat_map each (numbers (from + 1) n)) (none from (omega arith)) ∙ none_from (from + 1) n (λ k le. none k (omega arith))

  none_of : (ks : List ℕ) → AllByRecursion (λ k. each k ≡ []) ks → flat_map each ks ≡ []
  none_of [] h = refl
  none_of (k ∷ ks) h = ap (λ ys. ys ++ flat_map each ks) h.0 ∙ none_of ks h.1

  -- those of the list, which rise from this number on, make what all numbers in a row make
  in_a_row : (near : List ℕ) (from n : ℕ) → IsStrictlySortedBy nat_cmp near → AllByRecursion (λ k. from ≤ k) near
      → ((k : ℕ) → from ≤ k → has k near ≡ false → each k ≡ []) → ((k : ℕ) → from + n ≤ k → each k ≡ [])
      → flat_map each near ≡ flat_map each (numbers from n)
  in_a_row near from zero rising low off past = none_of near (all_weaker (λ k. from ≤ k) (λ k. each k ≡ []) near (λ k le. past k (omega arith)) low)
  in_a_row [] from (suc n) rising low off past = sym (none_from from (suc n) (λ k le. off k le refl))
  in_a_row (k ∷ ks) from (suc n) rising low off past = by_order
      (λ same. in_a_row ks (from + 1) n (sorted_tail nat_cmp k ks rising) (tail_from from same) (λ j le h. off j (omega arith) (others j same le h)) (λ j le. past j (omega arith)))
      (λ lt. in_a_row (k ∷ ks) (from + 1) n rising (all_above lt) (λ j le h. off j (omega arith) h) (λ j le. past j (omega arith)))
      (cases_order from k)
    where
      tail_from : (f : ℕ) → f ≡ k → AllByRecursion (λ y. f + 1 ≤ y) ks
      tail_from f same = all_weaker (λ y. nat_cmp k y ≡ Less) (λ y. f + 1 ≤ y) ks (λ y h. let lt : k < y = less_of k y h in omega arith) (sorted_head nat_cmp k ks rising)

      all_above : from < k → AllByRecursion (λ y. from + 1 ≤ y) (k ∷ ks)
      all_above lt = (omega arith, all_weaker (λ y. nat_cmp k y ≡ Less) (λ y. from + 1 ≤ y) ks (λ y h. let later : k < y = less_of k y h in omega arith) (sorted_head nat_cmp k ks rising))

      others : (j : ℕ) → from ≡ k → from + 1 ≤ j → has j ks ≡ false → has j (k ∷ ks) ≡ false
      others j same le h = ap (λ b. b || has j ks) (ne_eqb j k (λ e. absurd (omega arith))) ∙ h

      by_order : (from ≡ k → flat_map each ks ≡ flat_map each (numbers (from + 1) n)) → (from < k → flat_map each (k ∷ ks) ≡ flat_map each (numbers (from + 1) n))
          → (from ≡ k) ⊎ ((from < k) ⊎ (k < from)) → flat_map each (k ∷ ks) ≡ flat_map each (numbers from (suc n))
      by_order here later (inl same) = ap (λ j. each j ++ flat_map each ks) (sym same) ∙ ap (λ ys. each from ++ ys) (here same)
      by_order here later (inr (inl lt)) = later lt ∙ sym (ap (λ ys. ys ++ flat_map each (numbers (from + 1) n)) (off from (omega arith) (above_all from (k ∷ ks) (all_above lt))))
      by_order here later (inr (inr lt)) = let le : from ≤ k = low.0 in absurd (omega arith)

-- ---- all of the numbers
one_more : (i k : ℕ) → i + suc k ≡ i + 1 + k
one_more i k = omega arith

at_start : (i : ℕ) → i ≡ i + zero
at_start i = omega arith

module _ {X Y : Type 0} (made : Option X → List Y) where
  all_numbers : (all xs : List X) (i : ℕ) → ((k : ℕ) → slice_get all (i + k) ≡ slice_get xs k)
      → flat_map (λ k. made (slice_get all k)) (numbers i (length xs)) ≡ flat_map (λ x. made (Some x)) xs
  all_numbers all [] i h = refl
  all_numbers all (x ∷ xs) i h =
      let rest = all_numbers all xs (i + 1) (λ k. ap (slice_get all) (sym (one_more i k)) ∙ h (suc k)) in
      let here : slice_get all i ≡ Some x = ap (slice_get all) (at_start i) ∙ h zero in
      ap (λ o. made o ++ flat_map (λ k. made (slice_get all k)) (numbers (i + 1) (length xs))) here ∙ ap (λ zs. made (Some x) ++ zs) rest

  -- places that rise, and leave out only what makes nothing
  pub picked_all : (xs : List X) (near : List ℕ) → made None ≡ [] → IsStrictlySortedBy nat_cmp near
      → ((i : ℕ) (x : X) → slice_get xs i ≡ Some x → (has i near ≡ true) ⊎ (made (Some x) ≡ []))
      → flat_map (λ k. made (slice_get xs k)) near ≡ flat_map (λ x. made (Some x)) xs
  picked_all xs near none rising each =
      in_a_row (λ k. made (slice_get xs k)) near 0 (length xs) rising (all_from_zero near) (λ k le off. by_thing k off (slice_get xs k) refl) (λ k past. ap made (slice_get_past xs k (omega arith)) ∙ none)
      ∙ all_numbers xs xs 0 (λ k. ap (slice_get xs) (from_zero k))
    where
      from_zero : (k : ℕ) → 0 + k ≡ k
      from_zero k = omega arith

      all_from_zero : (ks : List ℕ) → AllByRecursion (λ k. 0 ≤ k) ks
      all_from_zero [] = tt
      all_from_zero (k ∷ ks) = (omega arith, all_from_zero ks)

      by_thing : (k : ℕ) → has k near ≡ false → (o : Option X) → slice_get xs k ≡ o → made o ≡ []
      by_thing k off None is = none
      by_thing k off (Some x) is = ⊎_elim (λ there. absurd (false≢true (sym off ∙ there))) (λ nothing. nothing) (each k x is)
