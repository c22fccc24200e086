-- A shift is asked of each vertex in turn.
use Rattle.std.proofs.Common.{◌≡◌, ℕ, zero, suc, ◌+◌, ◌<◌, ◌≤◌, ◌==◌, nat_lt, Bool, true, false, cond, List, [], ◌∷◌, map, Some, Ok, Err, ℤ, pos, ◌+ℤ◌, refl, ap, sym, subst, ◌∙◌, ⊎_elim, arith}
use Rattle.std.proofs.lemmas.Int.{ints}
use Rattle.std.proofs.lemmas.Bool.{false≢true, eqb-true, cases_eq, cases_lt}
use Rattle.std.proofs.lemmas.Bool.Decides.{nat_tests}
use Rattle.std.specs.List.{find, range_with_len}
use Rattle.grid_base.specs.declared.TheConstants.{SHIFT_MAX}
use Rattle.grid_base.specs.declared.Shift.{Shift}
use Rattle.grid_base.specs.Triples.{plus}
use Rattle.grid_base.specs.Points.{displacement_of, is_within, no_shift}
use Rattle.grid_base.proofs.MeetingLaws.{same_triple}
use Rattle.grid_base.specs.Points.{shift_by}
use Rattle.grid_base.proofs.PointLaws.{of_within, shift_by-displacement_of}
use Rattle.mesh_base.specs.declared.ShiftOf.{ShiftOf}
use Rattle.mesh_base.specs.declared.UseWhy.TheVariants.{ShiftRange}
use Rattle.mesh_base.specs.Mesh.{Mesh, is_solid}
use Rattle.mesh_base.specs.Shifts.{Shifts, with_shift}
use Rattle.step_text.specs.declared.Directive.TheVariants.{ShiftOne}
use Rattle.track_engine.specs.State.{State, still_at}
use Rattle.track_engine.specs.Effects.{shift_effect, sum_of_one, sum_at, summed, one_summed}
use Rattle.run_laws.proofs.Taking.{AreTaken}

-- the shift of a vertex
abbrev pub given : (ℕ → Shift) → ℕ → ShiftOf
given by v = record { v = v; by = by v }

-- the shifts of the vertices below one, and none of the others
abbrev pub up_to : (ℕ → Shift) → ℕ → ℕ → Shift
up_to by a w = cond (nat_lt w a) (by w) no_shift

-- ---- what is asked of a vertex
past_it : (a v : ℕ) → a ≤ v → (a == v) ≡ false → a + 1 ≤ v
past_it a v h e = grind (arith, nat_tests)

pub found : (by : ℕ → Shift) (a c v : ℕ) → a ≤ v → v < a + c → find (λ s. s.v == v) (map (given by) (range_with_len a c)) ≡ Some (given by v)
found by a zero v h h' = absurd (omega arith)
found by a (suc c) v h h' = by_test (λ k. found by (a + 1) c v k (omega arith)) (a == v) refl
  where
    by_test : (a + 1 ≤ v → find (λ s. s.v == v) (map (given by) (range_with_len (a + 1) c)) ≡ Some (given by v))
        → (b : Bool) → (a == v) ≡ b → cond b (Some (given by a)) (find (λ s. s.v == v) (map (given by) (range_with_len (a + 1) c))) ≡ Some (given by v)
    by_test later true e = ap (λ w. Some (given by w)) (eqb-true a v e)
    by_test later false e = later (past_it a v h e)

-- ---- one more
own_sum : (t : Shift) → plus (displacement_of no_shift) (displacement_of t) ≡ displacement_of t
own_sum t = same_triple (plus (displacement_of no_shift) (displacement_of t)) (displacement_of t) (part t.x) (part t.y) (part t.z)
  where
    part : (x : ℤ) → pos 0 +ℤ x ≡ x
    part x = omega (arith, ints)

own_fits : (t : Shift) → is_within SHIFT_MAX (displacement_of t) ≡ true
own_fits t = of_within SHIFT_MAX (displacement_of t) (record { x_fits = t.in_range.x_fits; y_fits = t.in_range.y_fits; z_fits = t.in_range.z_fits })

not_below : (a : ℕ) → nat_lt a a ≡ false
not_below a = grind (arith, nat_tests)

below_next : (a : ℕ) → nat_lt a (a + 1) ≡ true
below_next a = grind (arith, nat_tests)

itself : (a : ℕ) → (a == a) ≡ true
itself a = grind (arith, nat_tests)

not_itself : (w a : ℕ) → (w ≡ a → ⊥) → (w == a) ≡ false
not_itself w a h = grind (arith, nat_tests)

lower : (w a : ℕ) → w < a → nat_lt w a ≡ true
lower w a h = grind (arith, nat_tests)

higher : (w a : ℕ) → a ≤ w → nat_lt w a ≡ false
higher w a h = grind (arith, nat_tests)

same_side : (w a : ℕ) → (w ≡ a → ⊥) → nat_lt w a ≡ nat_lt w (a + 1)
same_side w a h = ⊎_elim
    (λ less. lower w a less ∙ sym (lower w (a + 1) (omega arith)))
    (λ most. higher w a most ∙ sym (higher w (a + 1) (above w a h most)))
    (cases_lt w a)
  where
    above : (w a : ℕ) → (w ≡ a → ⊥) → a ≤ w → a + 1 ≤ w
    above w a h most = ⊎_elim (λ less. omega arith) (λ least. absurd (h (let same : w ≡ a = omega arith in same))) (cases_lt a w)

module _ (by : ℕ → Shift) (a : ℕ) where
  -- at the vertex
  at_it : (e l l' : Bool) → e ≡ true → l ≡ false → l' ≡ true
      → cond {A = ShiftOf} e (with_shift (record { v = a; by = cond l (by a) no_shift }) (summed (by a) (record { v = a; by = cond l (by a) no_shift }))) (record { v = a; by = cond l (by a) no_shift }) ≡ record { v = a; by = cond l' (by a) no_shift }
  at_it true false true p q r = ap (λ t. record { v = a; by = t }) (ap shift_by (own_sum (by a)) ∙ shift_by-displacement_of (by a))
  at_it true false false p q r = absurd (false≢true r)
  at_it true true l' p q r = absurd (false≢true (sym q))
  at_it false l l' p q r = absurd (false≢true p)

  one_more : (w : ℕ) → cond (w == a) (with_shift (given (up_to by a) w) (summed (by a) (given (up_to by a) w))) (given (up_to by a) w) ≡ given (up_to by (a + 1)) w
  one_more w = ⊎_elim
      (λ same. subst (λ (x : ℕ). cond (x == a) (with_shift (given (up_to by a) x) (summed (by a) (given (up_to by a) x))) (given (up_to by a) x) ≡ given (up_to by (a + 1)) x) (sym same)
      (at_it (a == a) (nat_lt a a) (nat_lt a (a + 1)) (itself a) (not_below a) (below_next a)))
      (λ differ. ap (λ b. cond b (with_shift (given (up_to by a) w) (summed (by a) (given (up_to by a) w))) (given (up_to by a) w)) (not_itself w a differ)
      ∙ ap (λ b. record { v = w; by = cond b (by w) no_shift }) (same_side w a differ))
      (cases_eq w a)

  more_asked : (ids : List ℕ) → one_summed a (by a) (map (given (up_to by a)) ids) ≡ map (given (up_to by (a + 1))) ids
  more_asked [] = refl
  more_asked (w ∷ ids) = ap (λ s. s ∷ one_summed a (by a) (map (given (up_to by a)) ids)) (one_more w) ∙ ap (λ l. given (up_to by (a + 1)) w ∷ l) (more_asked ids)

  -- nothing was asked of it yet, and it is not solid
  sums : (m : Mesh) (count : ℕ) → is_solid m a ≡ false → 1 ≤ a → a < 1 + count
      → sum_of_one m a (by a) (map (given (up_to by a)) (range_with_len 1 count)) ≡ Ok (map (given (up_to by (a + 1))) (range_with_len 1 count))
  sums m count free h h' =
      let asked : Shifts = map (given (up_to by a)) (range_with_len 1 count) in
      ap (λ o. sum_at o (is_solid m a) a (by a) asked) (found (up_to by a) 1 count a h h')
      ∙ ap (λ b. sum_at (Some (given (up_to by a) a)) b a (by a) asked) free
      ∙ ap (λ b. cond b (Ok (one_summed a (by a) asked)) (Err (ShiftRange a)))
      (ap (λ b. is_within SHIFT_MAX (plus (displacement_of (cond b (by a) no_shift)) (displacement_of (by a)))) (not_below a) ∙ ap (is_within SHIFT_MAX) (own_sum (by a)) ∙ own_fits (by a))
      ∙ ap Ok (more_asked (range_with_len 1 count))

-- ---- all of them
asked_from : (by : ℕ → Shift) (count : ℕ) (s : State) → ((v : ℕ) → is_solid s.mesh v ≡ false) → (a c : ℕ) → 1 ≤ a → a + c ≤ count + 1 → s.asked ≡ map (given (up_to by a)) (range_with_len 1 count)
    → AreTaken (map (λ v. ShiftOne v (by v)) (range_with_len a c)) s (record s { asked = map (given (up_to by (a + c))) (range_with_len 1 count) }) 0
asked_from by count s free a zero h h' e =
    let same : a ≡ a + 0 = omega arith in
    let now = e ∙ ap (λ (k : ℕ). map (given (up_to by k)) (range_with_len 1 count)) same in
    (λ i. record s { asked = now i }, refl)
asked_from by count s free a (suc c) h h' e =
    let next : State = record s { asked = map (given (up_to by (a + 1))) (range_with_len 1 count) } in
    let same : (a + 1) + c ≡ a + suc c = omega arith in
    let rest = asked_from by count next free (a + 1) c (omega arith) (omega arith) refl in (
      next,
      0,
      0,
      record {
        lines = [];
        goes = ap (λ r. shift_effect r s) (ap (sum_of_one s.mesh a (by a)) e ∙ sums by a s.mesh count (free a) h (omega arith));
        whole = tt;
        count = refl;
      },
      subst (λ (k : ℕ). AreTaken (map (λ v. ShiftOne v (by v)) (range_with_len (a + 1) c)) next (record s { asked = map (given (up_to by k)) (range_with_len 1 count) }) 0) same rest,
      refl,
    )

all_given : (by : ℕ → Shift) (k a c : ℕ) → a + c ≤ k → map (given (up_to by k)) (range_with_len a c) ≡ map (given by) (range_with_len a c)
all_given by k a zero h = refl
all_given by k a (suc c) h =
    ap (λ b. record { v = a; by = cond b (by a) no_shift } ∷ map (given (up_to by k)) (range_with_len (a + 1) c)) (lower a k (omega arith))
    ∙ ap (λ l. given by a ∷ l) (all_given by k (a + 1) c (omega arith))

none_given : (by : ℕ → Shift) (a c : ℕ) → 1 ≤ a → map still_at (range_with_len a c) ≡ map (given (up_to by 1)) (range_with_len a c)
none_given by a zero h = refl
none_given by a (suc c) h =
    ap (λ b. record { v = a; by = cond b (by a) no_shift } ∷ map still_at (range_with_len (a + 1) c)) (sym (higher a 1 h))
    ∙ ap (λ l. given (up_to by 1) a ∷ l) (none_given by (a + 1) c (omega arith))

-- where nothing is asked of the vertices, none of which is solid, each is asked its shift
pub all_asked : (by : ℕ → Shift) (count : ℕ) (s : State) → ((v : ℕ) → is_solid s.mesh v ≡ false) → s.asked ≡ map still_at (range_with_len 1 count)
    → AreTaken (map (λ v. ShiftOne v (by v)) (range_with_len 1 count)) s (record s { asked = map (given by) (range_with_len 1 count) }) 0
all_asked by count s free e =
    let start : 1 + count ≤ count + 1 = omega arith in
    let some : 1 ≤ 1 = omega arith in
    let taken = asked_from by count s free 1 count some start (e ∙ none_given by 1 count some) in
    subst (λ (l : Shifts). AreTaken (map (λ v. ShiftOne v (by v)) (range_with_len 1 count)) s (record s { asked = l }) 0) (all_given by (1 + count) 1 count (omega arith)) taken
