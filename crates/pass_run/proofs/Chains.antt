-- Chains of places by buckets.
use Rattle.std.proofs.Common.{◌≡◌, ◌≢◌, ◌⊎◌, inl, inr, ⊎_elim, ℕ, zero, suc, ◌+◌, ◌<◌, ◌≤◌, Bool, true, false, cond, nat_eq, List, [], ◌∷◌, ◌++◌, length, get_or, set, replicate, refl, sym, ap, subst, ◌∙◌, arith}
use Rattle.std.proofs.lemmas.Bool.{false≢true, eq-eqb, eqb-true, ne_eqb, cases_order, cases_lt, or_left, or_right}
use Rattle.std.proofs.lemmas.List.Folds.{list_any-append}
use Rattle.cell_grid.specs.Filed.{has}
use Rattle.std.proofs.lemmas.List.{get_or-set_same, get_or-set_other, get_or_append_left, get_or-replicate}
use Rattle.std.proofs.Math.Seq.{get_or-append_seam}
use Rattle.pass_run.specs.MidpointCells.{last_below, AreChains}

module _ (bucket : ℕ → ℕ) where
  -- no place is before the first
  pub none_yet : (buckets : ℕ) → AreChains bucket buckets 0 (replicate buckets 0) []
  none_yet buckets = record {
    last_of = λ h below. get_or-replicate buckets h 0 0 below;
    before_of = λ k below. absurd (omega arith);
  }

  -- one place more
  next_below : (h k : ℕ) (b : Bool) → nat_eq (bucket k) h ≡ b → last_below bucket h (k + 1) ≡ cond b (k + 1) (last_below bucket h k)
  next_below h k b e = ap (last_below bucket h) (one_more k) ∙ ap (λ t. cond t (suc k) (last_below bucket h k)) e ∙ ap (λ n. cond b n (last_below bucket h k)) (sym (one_more k))
    where
      one_more : (k : ℕ) → k + 1 ≡ suc k
      one_more k = omega arith

  module _ (buckets k : ℕ) (last before : List ℕ) (here : AreChains bucket buckets k last before) (long : length last ≡ buckets) (before_long : length before ≡ k) (b head : ℕ) (is : b ≡ bucket k) (below : b < buckets) (at : head ≡ get_or last b 0) where
    last_after : (h : ℕ) → h < buckets → get_or (set last b (k + 1)) h 0 ≡ last_below bucket h (k + 1)
    last_after h low = ⊎_elim
        (λ same. ap (λ j. get_or (set last b (k + 1)) j 0) same ∙ get_or-set_same last b (k + 1) 0 (omega (arith, below, long)) ∙ sym (next_below h k true (eq-eqb (bucket k) h (sym is ∙ sym same))))
        (λ apart. get_or-set_other last b h (k + 1) 0 apart ∙ here.last_of h low ∙ sym (next_below h k false (ne_eqb (bucket k) h (λ e. apart (sym e ∙ sym is)))))
        (same_or_not h b)
      where
        same_or_not : (x y : ℕ) → (x ≡ y) ⊎ (x ≢ y)
        same_or_not x y = ⊎_elim (λ e. inl e) (λ r. inr (⊎_elim (λ lt e. omega (arith, lt, e)) (λ lt e. omega (arith, lt, e)) r)) (cases_order x y)

    before_after : (j : ℕ) → j < k + 1 → get_or (before ++ head ∷ []) j 0 ≡ last_below bucket (bucket j) j
    before_after j low = ⊎_elim
        (λ lt. get_or_append_left before (head ∷ []) 0 j (omega (arith, lt, before_long)) ∙ here.before_of j lt)
        (λ le. let same : j ≡ k = omega (arith, le, low) in
        ap (λ n. get_or (before ++ head ∷ []) n 0) (same ∙ sym before_long) ∙ get_or-append_seam before head [] 0 ∙ at ∙ here.last_of b below
        ∙ ap (λ n. last_below bucket n k) is ∙ ap (λ n. last_below bucket (bucket n) n) (sym same))
        (cases_lt j k)

    pub one_more : AreChains bucket buckets (k + 1) (set last b (k + 1)) (before ++ head ∷ [])
    one_more = record { last_of = last_after; before_of = before_after }

  -- ---- what a place in a chain is
  pub at_most : (h j : ℕ) → last_below bucket h j ≤ j
  at_most h zero = omega arith
  at_most h (suc j) = by_test (nat_eq (bucket j) h) (at_most h j)
    where
      by_test : (b : Bool) → last_below bucket h j ≤ j → cond b (suc j) (last_below bucket h j) ≤ suc j
      by_test true le = omega arith
      by_test false le = omega (arith, le)

  -- it is of the bucket
  pub is_of : (h j k : ℕ) → last_below bucket h j ≡ k + 1 → bucket k ≡ h
  is_of h zero k e = absurd (omega (arith, e))
  is_of h (suc j) k e = by_test (nat_eq (bucket j) h) refl (is_of h j k) e
    where
      by_test : (b : Bool) → nat_eq (bucket j) h ≡ b → (last_below bucket h j ≡ k + 1 → bucket k ≡ h) → cond b (suc j) (last_below bucket h j) ≡ k + 1 → bucket k ≡ h
      by_test true t earlier e = ap bucket (let same : k ≡ j = omega (arith, e) in same) ∙ eqb-true (bucket j) h t
      by_test false t earlier e = earlier e

  -- and none that is later, but before the end, is
  none_between : (h j k : ℕ) → last_below bucket h j ≤ k → k < j → bucket k ≢ h
  none_between h zero k le lt e = absurd (omega (arith, lt))
  none_between h (suc j) k le lt e = by_test (nat_eq (bucket j) h) refl (λ low earlier. none_between h j k low earlier e) le
    where
      by_test : (b : Bool) → nat_eq (bucket j) h ≡ b → (last_below bucket h j ≤ k → k < j → ⊥) → cond b (suc j) (last_below bucket h j) ≤ k → ⊥
      by_test true t earlier le = omega (arith, le, lt)
      by_test false t earlier le = ⊎_elim
          (λ low. earlier le low)
          (λ later. let same : k ≡ j = omega (arith, lt, later) in false≢true (sym t ∙ eq-eqb (bucket j) h (ap bucket (sym same) ∙ e)))
          (cases_lt k j)

  -- ---- a walk along the chain of a bucket
  -- at its start: none is beyond the last
  module _ (h count next : ℕ) (is : next ≡ last_below bucket h count) where
    pub start_end : next ≤ count
    start_end = let le = at_most h count in omega (arith, le, is)

    pub start_chain : (j : ℕ) → next ≡ j + 1 → bucket j ≡ h
    start_chain j e = is_of h count j (sym is ∙ e)

    pub start_none : (j : ℕ) → next ≤ j → j < count → bucket j ≢ h
    start_none j le lt = none_between h count j (omega (arith, le, is)) lt

  -- and a step further
  module _ (h count next k after : ℕ) (is : next ≡ k + 1) (chain : (j : ℕ) → next ≡ j + 1 → bucket j ≡ h) (follows : after ≡ last_below bucket (bucket k) k) where
    after_is : after ≡ last_below bucket h k
    after_is = follows ∙ ap (λ b. last_below bucket b k) (chain k is)

    pub after_end : after ≤ k
    after_end = let le = at_most h k in omega (arith, le, after_is)

    pub after_chain : (j : ℕ) → after ≡ j + 1 → bucket j ≡ h
    after_chain j e = is_of h k j (sym after_is ∙ e)

    pub after_finds : (Wanted Has : ℕ → Type 0) → ((j : ℕ) → next ≤ j → j < count → Wanted j → bucket j ≡ h → Has j) → (Wanted k → Has k)
        → (j : ℕ) → after ≤ j → j < count → Wanted j → bucket j ≡ h → Has j
    after_finds Wanted Has before here j le lt wanted of = ⊎_elim
        (λ low. absurd (none_between h k j (omega (arith, le, after_is)) low of))
        (λ high. ⊎_elim
        (λ e. subst Has (sym e) (here (subst Wanted e wanted)))
        (λ beyond. before j (omega (arith, beyond, is)) lt wanted of)
        (same_or_beyond j k high))
        (cases_lt j k)
      where
        same_or_beyond : (j k : ℕ) → k ≤ j → (j ≡ k) ⊎ (k < j)
        same_or_beyond j k le = ⊎_elim (λ lt. inr lt) (λ ge. inl (omega (arith, le, ge))) (cases_lt k j)

-- ---- what a list has after a push
module _ (xs : List ℕ) (x : ℕ) where
  pub has_pushed : has x (xs ++ x ∷ []) ≡ true
  has_pushed = list_any-append (nat_eq x) xs (x ∷ []) ∙ or_right (has x xs) _ (or_left (nat_eq x x) false (eq-eqb x x refl))

  pub has_before : (k : ℕ) → has k xs ≡ true → has k (xs ++ x ∷ []) ≡ true
  has_before k h = list_any-append (nat_eq k) xs (x ∷ []) ∙ or_left (has k xs) _ h
