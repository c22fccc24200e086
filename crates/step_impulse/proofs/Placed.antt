-- A shift that is put in the place of another, among shifts by rising id.
use Rattle.std.proofs.Common.{◌≡◌, ℕ, zero, suc, ◌+◌, ◌<◌, ◌≤◌, ◌==◌, Bool, true, false, cond, List, [], ◌∷◌, drop, get_or, length, map, Option, Some, None, refl, sym, ap, ◌∙◌, add-one, eq-eqb}
use Rattle.std.specs.Prelude.{slice_get, slice_set}
use Rattle.std.specs.List.{find, fold, AllByRecursion}
use Rattle.std.specs.List.Sorted.{IsStrictlySortedBy}
use Rattle.std.specs.Ordering.{nat_cmp}
use Rattle.std.specs.declared.cmp.Ordering.TheVariants.{Less}
use Rattle.std.proofs.lemmas.Bool.Decides.{nat_tests}
use Rattle.std.proofs.lemmas.Map.Keys.{sorted_head, sorted_tail}
use Rattle.std.proofs.Common.{arith, subst}
use Rattle.pair_scan.proofs.Lists.{rest_at}
use Rattle.grid_base.specs.declared.Shift.{Shift}
use Rattle.grid_base.specs.Triples.{Triple}
use Rattle.grid_base.specs.Points.{displacement_of, shift_by}
use Rattle.grid_base.proofs.PointLaws.{shift_by-displacement_of}
use Rattle.mesh_base.specs.declared.steps.ShiftOf.{ShiftOf}
use Rattle.mesh_base.specs.declared.ids.PairName.{PairName}
use Rattle.mesh_base.specs.Mesh.{Mesh, is_solid}
use Rattle.mesh_base.specs.Pairs.{Pair, five_ids}
use Rattle.mesh_base.specs.Placements.{rest_positions, positions}
use Rattle.mesh_base.specs.Shifts.{Shifts, with_shift, shift_at}
use Rattle.pair_scan.specs.Named.{pair_named, pairs_named}
use Rattle.step_impulse.specs.Impulse.{after_impulse}
use Rattle.step_impulse.specs.Passes.{with_shift_of, with_shifts_of, after_pair, after_pass}

not_later : (k y v : ℕ) → k ≡ v → nat_cmp k y ≡ Less → (y == v) ≡ false
not_later k y v e h = grind (arith, nat_tests)

not_earlier : (k y v : ℕ) → y ≡ v → nat_cmp k y ≡ Less → (k == v) ≡ false
not_earlier k y v e h = grind (arith, nat_tests)

-- those after it stay as they are
others_stay : (v k : ℕ) (t : Triple) (shifts : Shifts) → k ≡ v → AllByRecursion (λ y. nat_cmp k y ≡ Less) (map (λ s. s.v) shifts) → with_shift_of v t shifts ≡ shifts
others_stay v k t [] e h = refl
others_stay v k t (s ∷ rest) e h =
    ap (λ b. cond b (with_shift s t) s ∷ with_shift_of v t rest) (not_later k s.v v e h.0) ∙ ap (λ l. s ∷ l) (others_stay v k t rest e h.1)

below_at : (k : ℕ) (shifts : Shifts) (i : ℕ) (s : ShiftOf) → AllByRecursion (λ y. nat_cmp k y ≡ Less) (map (λ t. t.v) shifts) → slice_get shifts i ≡ Some s → nat_cmp k s.v ≡ Less
below_at k [] i s h e = cc
below_at k (t ∷ rest) zero s h e = let is : t ≡ s = cc in subst (λ (u : ShiftOf). nat_cmp k u.v ≡ Less) is h.0
below_at k (t ∷ rest) (suc i) s h e = below_at k rest i s h.1 e

put_here : (v : ℕ) (by : Shift) (s : ShiftOf) → s.v ≡ v → ◌≡◌ {A = ShiftOf} (with_shift s (displacement_of by)) (record { v = v; by = by })
put_here v by s is = λ i. record { v = is i; by = shift_by-displacement_of by i }

-- what is set in its place is put for the vertex
set_in_place : (v : ℕ) (by : Shift) (shifts : Shifts) (i : ℕ) (s : ShiftOf) → IsStrictlySortedBy nat_cmp (map (λ t. t.v) shifts) → slice_get shifts i ≡ Some s → s.v ≡ v
    → slice_set shifts i (record { v = v; by = by }) ≡ with_shift_of v (displacement_of by) shifts
set_in_place v by [] i s sorted at is = cc
set_in_place v by (t ∷ rest) zero s sorted at is =
    let this : t ≡ s = cc in
    let named : t.v ≡ v = ap (λ (u : ShiftOf). u.v) this ∙ is in
    sym
    (ap (λ b. cond b (with_shift t (displacement_of by)) t ∷ with_shift_of v (displacement_of by) rest) (eq-eqb t.v v named)
    ∙ ap (λ l. with_shift t (displacement_of by) ∷ l) (others_stay v t.v (displacement_of by) rest named (sorted_head nat_cmp t.v (map (λ u. u.v) rest) sorted))
    ∙ ap (λ u. u ∷ rest) (put_here v by t named))
set_in_place v by (t ∷ rest) (suc i) s sorted at is =
    ap (λ l. t ∷ l) (set_in_place v by rest i s (sorted_tail nat_cmp t.v (map (λ u. u.v) rest) sorted) at is)
    ∙ sym (ap (λ b. cond b (with_shift t (displacement_of by)) t ∷ with_shift_of v (displacement_of by) rest) (not_earlier t.v s.v v is (below_at t.v rest i s (sorted_head nat_cmp t.v (map (λ u. u.v) rest) sorted) at)))

found_named : (v : ℕ) (shifts : Shifts) (s : ShiftOf) → find (λ t. t.v == v) shifts ≡ Some s → s.v ≡ v
found_named v [] s e = cc
found_named v (t ∷ rest) s e = by_test (found_named v rest s) (t.v == v) refl e
  where
    equal : (a b : ℕ) → (a == b) ≡ true → a ≡ b
    equal a b h = grind (arith, nat_tests)

    by_test : (find (λ u. u.v == v) rest ≡ Some s → s.v ≡ v) → (b : Bool) → (t.v == v) ≡ b → cond b (Some t) (find (λ u. u.v == v) rest) ≡ Some s → s.v ≡ v
    by_test others true h e = let this : t ≡ s = cc in ap (λ (u : ShiftOf). u.v) (sym this) ∙ equal t.v v h
    by_test others false h e = others e

pub put_found : (v : ℕ) (by : Shift) (shifts : Shifts) (i : ℕ) (s : ShiftOf) → IsStrictlySortedBy nat_cmp (map (λ t. t.v) shifts) → slice_get shifts i ≡ Some s → find (λ t. t.v == v) shifts ≡ Some s
    → slice_set shifts i (record { v = v; by = by }) ≡ with_shift_of v (displacement_of by) shifts
put_found v by shifts i s sorted at found = set_in_place v by shifts i s sorted at (found_named v shifts s found)

-- where the vertex is not named nothing is put
pub put_nowhere : (v : ℕ) (t : Triple) (shifts : Shifts) → find (λ s. s.v == v) shifts ≡ None → shifts ≡ with_shift_of v t shifts
put_nowhere v t [] e = refl
put_nowhere v t (s ∷ rest) e = by_test (put_nowhere v t rest) (s.v == v) refl e
  where
    by_test : (find (λ u. u.v == v) rest ≡ None → rest ≡ with_shift_of v t rest) → (b : Bool) → (s.v == v) ≡ b → cond b (Some s) (find (λ u. u.v == v) rest) ≡ None → s ∷ rest ≡ cond b (with_shift s t) s ∷ with_shift_of v t rest
    by_test others true h e = cc
    by_test others false h e = ap (λ l. s ∷ l) (others e)

-- ---- the names stay
pub names_put : (v : ℕ) (t : Triple) (shifts : Shifts) → map (λ s. s.v) (with_shift_of v t shifts) ≡ map (λ s. s.v) shifts
names_put v t [] = refl
names_put v t (s ∷ rest) = elim (s.v == v) as (λ b. (cond b (with_shift s t) s).v ∷ map (λ u. u.v) (with_shift_of v t rest) ≡ s.v ∷ map (λ u. u.v) rest) [
  | true ↦ ap (λ ids. s.v ∷ ids) (names_put v t rest)
  | false ↦ ap (λ ids. s.v ∷ ids) (names_put v t rest)
]

pub names_put_all : (ids : List ℕ) (ts : List Triple) (shifts : Shifts) → map (λ s. s.v) (with_shifts_of ids ts shifts) ≡ map (λ s. s.v) shifts
names_put_all [] ts shifts = refl
names_put_all (v ∷ ids) [] shifts = refl
names_put_all (v ∷ ids) (t ∷ ts) shifts = names_put_all ids ts (with_shift_of v t shifts) ∙ names_put v t shifts

pub names_after_pair : (m : Mesh) (shifts : Shifts) (p : Pair) → map (λ s. s.v) (after_pair m shifts p) ≡ map (λ s. s.v) shifts
unfolding after_pair
names_after_pair m shifts p =
    let ids : List ℕ = five_ids p in
    names_put_all ids (after_impulse (positions (rest_positions m) p) ids (map (is_solid m) ids) (map (shift_at shifts) ids)) shifts

pub names_after : (m : Mesh) (hits : List Pair) (shifts : Shifts) → map (λ s. s.v) (after_pass m hits shifts) ≡ map (λ s. s.v) shifts
names_after m [] shifts = refl
names_after m (p ∷ hits) shifts = names_after m hits (after_pair m shifts p) ∙ names_after_pair m shifts p

-- ---- one more
pub put_more : (ids : List ℕ) (by : List Shift) (k v : ℕ) (s : Shift) (shifts after all : Shifts) → k < length ids → k < length by → v ≡ get_or ids k v → s ≡ get_or by k s
    → after ≡ with_shift_of v (displacement_of s) shifts
    → with_shifts_of (drop k ids) (map displacement_of (drop k by)) shifts ≡ all → with_shifts_of (drop (k + 1) ids) (map displacement_of (drop (k + 1) by)) after ≡ all
put_more ids by k v s shifts after all h h' at at' put whole =
    ap (with_shifts_of (drop (k + 1) ids) (map displacement_of (drop (k + 1) by))) put
    ∙ (λ i. with_shifts_of (at i ∷ drop (k + 1) ids) (displacement_of (at' i) ∷ map displacement_of (drop (k + 1) by)) shifts)
    ∙ (λ i. with_shifts_of (sym (rest_at ids k v h) i) (map displacement_of (sym (rest_at by k s h') i)) shifts)
    ∙ whole

pub pass_more : (m : Mesh) (names : List PairName) (k : ℕ) (n : PairName) (shifts after all : Shifts) → k < length names → n ≡ get_or names k n → after ≡ after_pair m shifts (pair_named m n)
    → after_pass m (pairs_named m (drop k names)) shifts ≡ all → after_pass m (pairs_named m (drop (k + 1) names)) after ≡ all
pass_more m names k n shifts after all h at made whole =
    ap (after_pass m (pairs_named m (drop (k + 1) names))) made
    ∙ (λ i. after_pass m (pair_named m (at i) ∷ pairs_named m (drop (k + 1) names)) shifts)
    ∙ (λ i. after_pass m (pairs_named m (sym (rest_at names k n h) i)) shifts)
    ∙ whole
