-- Labels in a list, looked up and joined.
use Rattle.std.proofs.Common.{◌≡◌, ℕ, zero, suc, ◌+◌, ◌<◌, ◌==◌, min, Bool, true, false, cond, List, [], ◌∷◌, drop, get_or, length, map, Some, None, refl, sym, ap, subst, ◌∙◌, ⊎_elim, arith}
use Rattle.std.specs.Prelude.{slice_get}
use Rattle.std.specs.List.{find, list_all}
use Rattle.std.specs.List.Sorted.{IsStrictlySortedBy}
use Rattle.std.specs.Ordering.{nat_cmp}
use Rattle.std.specs.List.{AllByRecursion}
use Rattle.std.specs.declared.cmp.Ordering.TheVariants.{Less}
use Rattle.std.proofs.lemmas.Bool.{false≢true, eqb-true}
use Rattle.std.proofs.lemmas.Bool.Decides.{nat_tests}
use Rattle.std.proofs.lemmas.Map.Keys.{sorted_head, sorted_tail}
use Rattle.mesh_base.specs.declared.steps.ShiftOf.{ShiftOf}
use Rattle.mesh_base.specs.declared.ids.PairName.{PairName}
use Rattle.mesh_base.specs.Mesh.{Mesh}
use Rattle.mesh_base.specs.Pairs.{five_ids}
use Rattle.mesh_base.specs.Shifts.{Shifts}
use Rattle.mesh_base.proofs.Tests.{or_either, and_first, and_second}
use Rattle.pair_scan.specs.Named.{pair_named}
use Rattle.pair_scan.proofs.Lists.{rest_at}
use Rattle.step_zones.specs.Chains.{is_one_of}
use Rattle.step_zones.specs.Ranks.{label_by, least_of, relabelled, joined_in, joined_all}

-- ---- a label that is looked up
not_earlier : (k y v : ℕ) → y ≡ v → nat_cmp k y ≡ Less → (k == v) ≡ false
not_earlier k y v e h = grind (arith, nat_tests)

same : (k v : ℕ) → k ≡ v → (k == v) ≡ true
same k v e = grind (arith, nat_tests)

pub below_at : (k : ℕ) (shifts : Shifts) (i : ℕ) (s : ShiftOf) → AllByRecursion (λ y. nat_cmp k y ≡ Less) (map (λ t. t.v) shifts) → slice_get shifts i ≡ Some s → nat_cmp k s.v ≡ Less
below_at k [] i s h e = cc
below_at k (t ∷ rest) zero s h e = let is : t ≡ s = cc in subst (λ (u : ShiftOf). nat_cmp k u.v ≡ Less) is h.0
below_at k (t ∷ rest) (suc i) s h e = below_at k rest i s h.1 e

pub label_found : (asked : Shifts) (labels : List ℕ) (v i l : ℕ) (s : ShiftOf) → IsStrictlySortedBy nat_cmp (map (λ t. t.v) asked) → length labels ≡ length asked → slice_get asked i ≡ Some s → s.v ≡ v → l ≡ get_or labels i l
    → l ≡ label_by asked labels v
label_found [] labels v i l s sorted n at is read = cc
label_found (t ∷ rest) [] v i l s sorted n at is read = absurd (omega arith)
label_found (t ∷ rest) (k ∷ labels) v zero l s sorted n at is read =
    let this : t ≡ s = cc in
    read ∙ sym (ap (λ b. cond b k (label_by rest labels v)) (same t.v v (ap (λ (u : ShiftOf). u.v) this ∙ is)))
label_found (t ∷ rest) (k ∷ labels) v (suc i) l s sorted n at is read =
    label_found rest labels v i l s (sorted_tail nat_cmp t.v (map (λ u. u.v) rest) sorted) (omega arith) at is read
    ∙ sym (ap (λ b. cond b k (label_by rest labels v)) (not_earlier t.v s.v v is (below_at t.v rest i s (sorted_head nat_cmp t.v (map (λ u. u.v) rest) sorted) at)))

pub found_named : (v : ℕ) (shifts : Shifts) (s : ShiftOf) → find (λ t. t.v == v) shifts ≡ Some s → s.v ≡ v
found_named v [] s e = cc
found_named v (t ∷ rest) s e = by_test (found_named v rest s) (t.v == v) refl e
  where
    by_test : (find (λ u. u.v == v) rest ≡ Some s → s.v ≡ v) → (b : Bool) → (t.v == v) ≡ b → cond b (Some t) (find (λ u. u.v == v) rest) ≡ Some s → s.v ≡ v
    by_test others true h e = let this : t ≡ s = cc in ap (λ (u : ShiftOf). u.v) (sym this) ∙ eqb-true t.v v h
    by_test others false h e = others e

pub label_none : (asked : Shifts) (labels : List ℕ) (v : ℕ) → find (λ s. s.v == v) asked ≡ None → v ≡ label_by asked labels v
label_none [] labels v e = refl
label_none (s ∷ rest) [] v e = refl
label_none (s ∷ rest) (l ∷ labels) v e = by_test (label_none rest labels v) (s.v == v) refl e
  where
    by_test : (find (λ u. u.v == v) rest ≡ None → v ≡ label_by rest labels v) → (b : Bool) → (s.v == v) ≡ b → cond b (Some s) (find (λ u. u.v == v) rest) ≡ None → v ≡ cond b l (label_by rest labels v)
    by_test others true h e = cc
    by_test others false h e = others e

-- ---- labels that are one already
one_of_one : (touched : List ℕ) (first l : ℕ) → list_all (λ k. k == first) touched ≡ true → is_one_of touched l ≡ true → l ≡ first
one_of_one [] first l all is = absurd (false≢true is)
one_of_one (k ∷ touched) first l all is = ⊎_elim
    (λ e. sym (eqb-true k l e) ∙ eqb-true k first (and_first (k == first) (list_all (λ j. j == first) touched) all))
    (λ later. one_of_one touched first l (and_second (k == first) (list_all (λ j. j == first) touched) all) later)
    (or_either (k == l) (is_one_of touched l) is)

least_of_one : (touched : List ℕ) (first k : ℕ) → list_all (λ l. l == first) (k ∷ touched) ≡ true → least_of (k ∷ touched) ≡ first
least_of_one [] first k all = eqb-true k first (and_first (k == first) true all)
least_of_one (j ∷ touched) first k all =
    (λ i. min (eqb-true k first (and_first (k == first) (list_all (λ l. l == first) (j ∷ touched)) all) i) (least_of_one touched first j (and_second (k == first) (list_all (λ l. l == first) (j ∷ touched)) all) i))
    ∙ min_same first
  where
    min_same : (n : ℕ) → min n n ≡ n
    min_same n = omega arith

keeps : (touched : List ℕ) (first l : ℕ) → list_all (λ k. k == first) touched ≡ true → relabelled touched l ≡ l
keeps [] first l all = refl
keeps (k ∷ touched) first l all = by_test (is_one_of (k ∷ touched) l) refl
  where
    by_test : (b : Bool) → is_one_of (k ∷ touched) l ≡ b → cond b (least_of (k ∷ touched)) l ≡ l
    by_test true e = least_of_one touched first k all ∙ sym (one_of_one (k ∷ touched) first l all e)
    by_test false e = refl

pub keeps_all : (touched : List ℕ) (first : ℕ) (labels : List ℕ) → list_all (λ k. k == first) touched ≡ true → labels ≡ map (relabelled touched) labels
keeps_all touched first [] all = refl
keeps_all touched first (l ∷ labels) all = λ i. sym (keeps touched first l all) i ∷ keeps_all touched first labels all i

-- ---- one pair more
pub joined_length : (asked : Shifts) (labels five : List ℕ) → length (joined_in asked labels five) ≡ length labels
joined_length asked labels five = kept (relabelled (map (label_by asked labels) five)) labels
  where
    kept : (f : ℕ → ℕ) (ls : List ℕ) → length (map f ls) ≡ length ls
    kept f [] = refl
    kept f (l ∷ ls) = ap suc (kept f ls)

pub joined_more : (m : Mesh) (asked : Shifts) (names : List PairName) (k : ℕ) (n : PairName) (labels after all : List ℕ) → k < length names → n ≡ get_or names k n
    → after ≡ joined_in asked labels (five_ids (pair_named m n))
    → joined_all m asked labels (drop k names) ≡ all → joined_all m asked after (drop (k + 1) names) ≡ all
joined_more m asked names k n labels after all h at made whole =
    ap (λ ls. joined_all m asked ls (drop (k + 1) names)) made
    ∙ (λ i. joined_all m asked labels (at i ∷ drop (k + 1) names))
    ∙ (λ i. joined_all m asked labels (sym (rest_at names k n h) i))
    ∙ whole
