-- A binary search in a list of items whose ids rise.
use Rattle.std.proofs.Common.{◌≡◌, ⊎_elim, ℕ, zero, suc, ◌+◌, ◌<◌, ◌≤◌, ◌==◌, true, false, cond, List, [], ◌∷◌, length, get_or, map, Some, None, Ok, Err, refl, sym, ap, subst, ◌∙◌, arith}
use Rattle.std.specs.Prelude.{slice_get}
use Rattle.std.specs.List.{find, AllByRecursion}
use Rattle.std.specs.List.Sorted.{IsStrictlySortedBy, IsNonDecreasingBy, IsBinarySearchResult}
use Rattle.std.specs.Ordering.{nat_cmp, ordering_index}
use Rattle.std.specs.Cmp.{nat_cmp_total}
use Rattle.std.specs.declared.cmp.Ordering.TheVariants.{Less, Equal}
use Rattle.std.proofs.lemmas.Bool.{cases_order, cases_lt}
use Rattle.std.proofs.lemmas.Bool.Decides.{nat_tests}
use Rattle.std.proofs.lemmas.Cmp.{ranked}
use Rattle.std.proofs.lemmas.List.Sorted.{IsNonDecreasingBy-from_default}
use Rattle.std.proofs.lemmas.Map.Keys.{below_from_sorted, sorted_head, sorted_tail, sorted_from_all_adjacent}
use Rattle.std.proofs.lemmas.List.{get_or_past}
use Rattle.std.proofs.lemmas.Option.{slice_get_read}

not_same : (k v : ℕ) → nat_cmp k v ≡ Less → (k == v) ≡ false
not_same k v h = grind (arith, nat_tests)

same : (k v : ℕ) → k ≡ v → (k == v) ≡ true
same k v h = grind (arith, nat_tests)

-- ---- items of any type, each with an id; `past v` is an item with the id v, which stands for what is past the end
module _ {X : Type 0} (id_of : X → ℕ) (past : ℕ → X) (past_id : (v : ℕ) → id_of (past v) ≡ v) where
  get_or-id : (by : List X) (i : ℕ) (d : X) → get_or (map id_of by) i (id_of d) ≡ id_of (get_or by i d)
  get_or-id [] i d = refl
  get_or-id (s ∷ by) zero d = refl
  get_or-id (s ∷ by) (suc i) d = get_or-id by i d

  get_or-ids : (by : List X) (i v : ℕ) → get_or (map id_of by) i v ≡ id_of (get_or by i (past v))
  get_or-ids by i v = subst (λ d. get_or (map id_of by) i d ≡ id_of (get_or by i (past v))) (past_id v) (get_or-id by i (past v))

  length-ids : (by : List X) → length (map id_of by) ≡ length by
  length-ids [] = refl
  length-ids (s ∷ by) = ap suc (length-ids by)

  -- ---- what a search finds
  later : (k : ℕ) (by : List X) (i : ℕ) (s : X) → AllByRecursion (λ y. nat_cmp k y ≡ Less) (map id_of by) → slice_get by i ≡ Some s → nat_cmp k (id_of s) ≡ Less
  later k [] i s h e = cc
  later k (t ∷ by) zero s h e = let is : t ≡ s = cc in subst (λ u. nat_cmp k (id_of u) ≡ Less) is h.0
  later k (t ∷ by) (suc i) s h e = later k by i s h.1 e

  pub found : (by : List X) (v i : ℕ) (s : X) → IsStrictlySortedBy nat_cmp (map id_of by) → slice_get by i ≡ Some s → id_of s ≡ v → find (λ t. id_of t == v) by ≡ Some s
  found [] v i s sorted e is = cc
  found (t ∷ by) v zero s sorted e is =
      let this : t ≡ s = cc in
      ap (λ b. cond b (Some t) (find (λ u. id_of u == v) by)) (same (id_of t) v (ap id_of this ∙ is)) ∙ ap Some this
  found (t ∷ by) v (suc i) s sorted e is =
      ap (λ b. cond b (Some t) (find (λ u. id_of u == v) by)) (not_same (id_of t) v (subst (λ k. nat_cmp (id_of t) k ≡ Less) is (later (id_of t) by i s (sorted_head nat_cmp (id_of t) (map id_of by) sorted) e)))
      ∙ found by v i s (sorted_tail nat_cmp (id_of t) (map id_of by) sorted) e is

  absent : (by : List X) (v : ℕ) → ((i : ℕ) → i < length by → id_of (get_or by i (past v)) ≡ v → ⊥) → find (λ t. id_of t == v) by ≡ None
  absent [] v h = refl
  absent (t ∷ by) v h =
      ap (λ b. cond b (Some t) (find (λ u. id_of u == v) by)) (differs (id_of t) v (h zero (omega arith)))
      ∙ absent by v (λ i lt is. h (suc i) (omega arith) is)
    where
      differs : (k v : ℕ) → (k ≡ v → ⊥) → (k == v) ≡ false
      differs k v h = grind (arith, nat_tests)

  -- ---- what a binary search answers
  module _ (by : List X) (v : ℕ) (sorted : IsStrictlySortedBy nat_cmp (map id_of by)) where
    ids_rise : (i j : ℕ) → i ≤ j → j < length by → id_of (get_or by i (past v)) ≤ id_of (get_or by j (past v))
    ids_rise i j le lt = ⊎_elim
        (λ e. subst (λ k. id_of (get_or by i (past v)) ≤ id_of (get_or by k (past v))) e (omega arith))
        (λ rest. ⊎_elim (λ below. ids_below below) (λ above. absurd (omega arith)) rest)
        (cases_order i j)
      where
        ids_below : i < j → id_of (get_or by i (past v)) ≤ id_of (get_or by j (past v))
        ids_below below =
            let up = below_from_sorted (map id_of by) i j v sorted below (subst (λ n. j < n) (sym (length-ids by)) lt) in
            let a = get_or-ids by i v in
            let b = get_or-ids by j v in
            omega (arith, up, a, b)

    comparisons_rise : IsNonDecreasingBy (λ s. ordering_index (nat_cmp (id_of s) v)) by
    comparisons_rise = IsNonDecreasingBy-from_default (λ s. ordering_index (nat_cmp (id_of s) v)) by (past v) (λ i j le lt. let up = ids_rise i j le lt in rises _ _ up)
      where
        rises : (a b : ℕ) → a ≤ b → ordering_index (nat_cmp a v) ≤ ordering_index (nat_cmp b v)
        rises a b le = grind (arith, nat_tests)

    -- none is found where the search ends between two
    pub absent_between : (i : ℕ) → IsBinarySearchResult (λ s. nat_cmp (id_of s) v) by (Err i) → find (λ t. id_of t == v) by ≡ None
    absent_between i parted = absent by v (λ k lt is. ⊎_elim
        (λ below. differ (id_of (get_or by k (past v))) (ranked _ v _ (sym ((parted comparisons_rise).0 k (past v) (omega arith) below))) is)
        (λ from. above (id_of (get_or by k (past v))) (ranked _ v _ (sym ((parted comparisons_rise).1 k (past v) from lt))) is)
        (cases_lt k i))
      where
        differ : (k : ℕ) → k < v → k ≡ v → ⊥
        differ k lt e = omega arith

        above : (k : ℕ) → v < k → k ≡ v → ⊥
        above k lt e = omega arith

    -- what stands at the place found is the item
    pub found_at : (i : ℕ) (s : X) → IsBinarySearchResult (λ t. nat_cmp (id_of t) v) by (Ok i) → i < length by → s ≡ get_or by i s → find (λ t. id_of t == v) by ≡ Some s
    found_at i s equal lt is = found by v i s sorted (slice_get_read by (length by) i s refl lt is) (ranked (id_of s) v _ (sym (subst (λ t. nat_cmp (id_of t) v ≡ Equal) (sym is) (equal s))))

    -- the place found is inside
    pub found_inside : (i : ℕ) → IsBinarySearchResult (λ t. nat_cmp (id_of t) v) by (Ok i) → length by ≤ i → ⊥
    found_inside i equal end = outside (sym (past_id (suc v)) ∙ ranked (id_of (past (suc v))) v _ (sym (subst (λ t. nat_cmp (id_of t) v ≡ Equal) (get_or_past by i (past (suc v)) end) (equal (past (suc v))))))
      where
        outside : suc v ≡ v → ⊥
        outside e = omega arith

  -- ---- ids of which each is below the next
  pub ids_in_order : (by : List X) → ((k : ℕ) (d : X) → k + 1 < length by → id_of (get_or by k d) < id_of (get_or by (k + 1) d)) → IsStrictlySortedBy nat_cmp (map id_of by)
  ids_in_order by up = sorted_from_all_adjacent nat_cmp_total (map id_of by) 0
      (λ k lt.
      let inside : k + 1 < length by = omega (arith, length-ids by) in
      let a = get_or-ids by k 0 in
      let b = get_or-ids by (k + 1) 0 in
      less (get_or (map id_of by) k 0) (get_or (map id_of by) (k + 1) 0) (let lt' = up k (past 0) inside in omega (arith, a, b, lt')))
    where
      less : (a b : ℕ) → a < b → nat_cmp a b ≡ Less
      less a b lt = grind (arith, nat_tests)
