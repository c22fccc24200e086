-- The boxes of things in a list are numbered as the things are.
use Rattle.std.proofs.Common.{◌≡◌, ⊎_elim, ℕ, zero, suc, ◌+◌, ◌<◌, ◌≤◌, ◌∙◌, sym, ap, subst, true, cond, nat_eq, List, [], ◌∷◌, length, Some, None, Option, arith}
use Rattle.std.specs.Prelude.{slice_get, is_some}
use Rattle.std.specs.Ordering.{nat_cmp, eq_by_cmp}
use Rattle.std.specs.declared.cmp.Ordering.TheVariants.{Less}
use Rattle.std.specs.Cmp.{nat_cmp_total, unsigned_tied, nat_cmp_is}
use Rattle.std.specs.List.{AllByRecursion}
use Rattle.std.specs.List.Sorted.{IsStrictlySortedBy}
use Rattle.std.specs.Map.{keys_of}
use Rattle.std.specs.FinMap as fin
use Rattle.std.specs.FinMap.{get-entries, entries_sorted, get-insert}
use Rattle.std.proofs.lemmas.Bool.{false≢true, eq-eqb, eqb-true, or_left, or_right, or_cases, cases_order, cases_lt, ne_eqb}
use Rattle.std.proofs.lemmas.Option.{slice_get_cases, slice_get_within}
use Rattle.std.proofs.lemmas.Map.Made.{is_some-lookup}
use Rattle.cell_grid.specs.Filed.{has}
use Rattle.cell_grid.proofs.Found.{both_ways}
use Rattle.cell_grid.proofs.Listed.{find_is_lookup, same_rising}
use Rattle.pair_paths.specs.Bounds.{AreBoxes}

module _ {V : Type 0} where
  has_key : (m : fin.FinMap nat_cmp V) (q : ℕ) → has q (keys_of (fin.entries m)) ≡ is_some (fin.get m q)
  has_key m q = sym (is_some-lookup (nat_eq q) (fin.entries m)) ∙ ap is_some (sym (get-entries m q ∙ find_is_lookup (fin.entries m) q))

-- n numbers, from this one on
abbrev pub numbers : ℕ → ℕ → List ℕ
numbers from zero = []
numbers from (suc n) = from ∷ numbers (from + 1) n

-- ---- numbers in a row
below_numbers : (k from n : ℕ) → k < from → AllByRecursion (λ y. nat_cmp k y ≡ Less) (numbers from n)
below_numbers k from zero h = tt
below_numbers k from (suc n) h = (sym (nat_cmp_is k from Less h), below_numbers k (from + 1) n (omega arith))

sorted_numbers : (from n : ℕ) → IsStrictlySortedBy nat_cmp (numbers from n)
unfolding IsStrictlySortedBy
sorted_numbers from zero = tt
sorted_numbers from (suc n) = (below_numbers from (from + 1) n (omega arith), sorted_numbers (from + 1) n)

has_number_below : (q from n : ℕ) → has q (numbers from n) ≡ true → q < from + n
has_number_below q from zero h = absurd (false≢true h)
has_number_below q from (suc n) h = ⊎_elim (λ here. let e : q ≡ from = eqb-true q from here in omega arith) (λ later. let r : q < from + 1 + n = has_number_below q (from + 1) n later in omega arith) (or_cases (nat_eq q from) (has q (numbers (from + 1) n)) h)

number_has : (q from n : ℕ) → from ≤ q → q < from + n → has q (numbers from n) ≡ true
number_has q from zero h i = absurd (omega arith)
number_has q from (suc n) h i = ⊎_elim
    (λ e. or_left (nat_eq q from) _ (eq-eqb q from e))
    (λ rest. ⊎_elim (λ lt. absurd (omega arith)) (λ lt. or_right (nat_eq q from) _ (number_has q (from + 1) n (omega arith) (omega arith))) rest)
    (cases_order q from)

-- ---- the boxes are numbered as the things in the list are
some_is : {A : Type 0} (o : Option A) (v : A) → o ≡ Some v → is_some o ≡ true
some_is o v h = ap is_some h

pub keys_are_numbers : {X Box : Type 0} (holds : X → Box → Type 0) (faces : List X) (m : fin.FinMap nat_cmp Box) → AreBoxes holds faces m → numbers 0 (length faces) ≡ keys_of (fin.entries m)
keys_are_numbers holds faces m boxes = same_rising (numbers 0 (length faces)) (fin.entries m) (sorted_numbers 0 (length faces)) (entries_sorted m)
    (λ q. both_ways _ _
    (λ h. has_key m q ∙ ⊎_elim
    (λ there. let box = boxes.boxed q there.0 there.2 in some_is (fin.get m q) box.0 box.1.0)
    (λ past. absurd (let below : q < 0 + length faces = has_number_below q 0 (length faces) h in omega arith))
    (slice_get_cases faces q).1)
    (λ h. ⊎_elim
    (λ there. number_has q 0 (length faces) (omega arith) (omega arith))
    (λ past. absurd (false≢true (sym (ap is_some (boxes.no_others q past.0)) ∙ sym (has_key m q) ∙ h)))
    (slice_get_cases faces q).1))

pub same_some : {A : Type 0} (a b : A) → Some a ≡ Some b → a ≡ b
same_some a b h = cc

-- ---- the loop that makes the boxes
-- the boxes of the first i things are in the map
pub record AreBoxesTo {X Box : Type 0} (holds : X → Box → Type 0) (faces : List X) (i : ℕ) (m : fin.FinMap nat_cmp Box) : Type 0 where
  pub boxed : (k : ℕ) (f : X) → k < i → slice_get faces k ≡ Some f → (box : Box) × ((fin.get m k ≡ Some box) × holds f box)
  pub no_others : (k : ℕ) → i ≤ k → fin.get m k ≡ None

module _ {X Box : Type 0} (holds : X → Box → Type 0) (faces : List X) (i : ℕ) (m n : fin.FinMap nat_cmp Box) (face : X) (box : Box) (there : slice_get faces i ≡ Some face) (held : holds face box) (is : n ≡ fin.insert m i box)
    (before : AreBoxesTo holds faces i m) where
  at_key : (k : ℕ) → fin.get n k ≡ cond (eq_by_cmp nat_cmp k i) (Some box) (fin.get m k)
  at_key k = ap (λ map. fin.get map k) is ∙ get-insert nat_cmp_total m i box k

  kept_key : (k : ℕ) → (k ≡ i → ⊥) → fin.get n k ≡ fin.get m k
  kept_key k apart = at_key k ∙ ap (λ b. cond b (Some box) (fin.get m k)) (unsigned_tied k i ∙ ne_eqb k i apart)

  new_key : (k : ℕ) → k ≡ i → fin.get n k ≡ Some box
  new_key k e = at_key k ∙ ap (λ b. cond b (Some box) (fin.get m k)) (unsigned_tied k i ∙ eq-eqb k i e)

  pub boxed_more : (k : ℕ) (f : X) → k < i + 1 → slice_get faces k ≡ Some f → (b : Box) × ((fin.get n k ≡ Some b) × holds f b)
  boxed_more k f lt h = ⊎_elim
      (λ below. let old = before.boxed k f below h in (old.0, (kept_key k (λ e. omega arith) ∙ old.1.0, old.1.1)))
      (λ le. let e : k ≡ i = omega arith in (box, (new_key k e, subst (λ g. holds g box) (same_some face f (sym there ∙ ap (slice_get faces) (sym e) ∙ h)) held)))
      (cases_lt k i)

  pub no_others_more : (k : ℕ) → i + 1 ≤ k → fin.get n k ≡ None
  no_others_more k le = kept_key k (λ e. omega arith) ∙ before.no_others k (omega arith)

pub all_boxed : {X Box : Type 0} (holds : X → Box → Type 0) (faces : List X) (i : ℕ) (m : fin.FinMap nat_cmp Box) → i ≡ length faces → AreBoxesTo holds faces i m → AreBoxes holds faces m
all_boxed holds faces i m e h = record {
  boxed = λ k f found. h.boxed k f (let within : k < length faces = slice_get_within faces k f found in omega arith) found;
  no_others = λ k le. h.no_others k (omega arith);
}
