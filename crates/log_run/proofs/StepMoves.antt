-- The lists of a step, from move to move.
use Rattle.std.proofs.Common.{◌≡◌, ℕ, zero, suc, ◌<◌, ◌==◌, ◌||◌, ◌&&◌, Bool, true, false, cond, eqb, List, [], ◌∷◌, ◌++◌, map, length, Some, None, Option, refl, ap, sym, ◌∙◌, subst, arith}
use Rattle.std.specs.Prelude.{slice_get, slice_set}
use Rattle.std.specs.Option.{option_or, unwrap_or}
use Rattle.std.specs.List.{find, list_any, list_all, All, AllByRecursion, IsDistinct}
use Rattle.std.specs.List.Sorted.{IsStrictlySortedBy}
use Rattle.std.specs.Ordering.{nat_cmp}
use Rattle.std.specs.Cmp.{nat_eq_equiv}
use Rattle.std.specs.declared.cmp.Ordering.TheVariants.{Less}
use Rattle.std.specs.FinMap as finite
use Rattle.std.specs.FinMap.{entries_sorted}
use Rattle.std.proofs.lemmas.Bool.{false≢true, eq-eqb, eqb-true}
use Rattle.std.proofs.lemmas.Bool.Decides.{nat_tests}
use Rattle.std.proofs.lemmas.List.Elements.{All-nil, All-cons, All-head, All-tail, All-append}
use Rattle.std.proofs.lemmas.List.Folds.{find-append, list_all-append, list_any-append}
use Rattle.std.proofs.lemmas.Map.Keys.{sorted_head, sorted_tail, IsDistinct-head, IsDistinct-tail, IsDistinct-push}
use Rattle.grid_base.specs.declared.TheConstants.{BOX}
use Rattle.grid_base.specs.Points.{is_within}
use Rattle.mesh_base.specs.declared.ShiftOf.{ShiftOf}
use Rattle.mesh_base.specs.Mesh.{Mesh, IsLiveVertex}
use Rattle.mesh_base.specs.Shifts.{Shifts, NameLive, NameOnce, end_in_box, with_move}
use Rattle.mesh_base.proofs.InOrder.{keys_sorted}
use Rattle.mesh_base.proofs.Moves.{both_true, same_ends, still_live}
use Rattle.log_run.specs.declared.replay_state.StepSoFar.{StepSoFar}
use Rattle.log_replay.specs.Moves.{is_named, end_of, MayMove, AreMoves}
use Rattle.log_run.specs.Steps.{still_at, shift_for, shifts_of, names_of}
use Rattle.log_run.specs.Placing.{CanMove, CanMoveAll}
use Rattle.log_run.specs.Parts.{StepHolds}

-- ---- no move yet
pub none_moves : (m : Mesh) → AreMoves m []
unfolding IsDistinct
none_moves m = record { once = record { live = All-nil (λ s. IsLiveVertex m s.v); once = tt }; inside = refl }

pub rests : (m : Mesh) (step : StepSoFar) → step.moves ≡ [] → step.shifts ≡ map still_at (finite.keys m.points) → step.named ≡ map (λ v. false) (finite.keys m.points) → StepHolds m step
rests m step none shifts named = record {
  moves = subst (AreMoves m) (sym none) (none_moves m);
  shifts = shifts ∙ sym (ap (shifts_of m) none);
  named = named ∙ sym (ap (names_of m) none);
}

-- ---- what is named
keys_rise : (m : Mesh) → IsStrictlySortedBy nat_cmp (finite.keys m.points)
keys_rise m = keys_sorted (finite.entries m.points) (entries_sorted m.points)

pub found_is : (moves : Shifts) (v : ℕ) (s : ShiftOf) → find (λ t. t.v == v) moves ≡ Some s → s.v ≡ v
found_is [] v s e = cc
found_is (t ∷ rest) v s e = by_test (found_is rest v s) (t.v == v) refl e
  where
    by_test : (find (λ u. u.v == v) rest ≡ Some s → s.v ≡ v) → (b : Bool) → (t.v == v) ≡ b → cond b (Some t) (find (λ u. u.v == v) rest) ≡ Some s → s.v ≡ v
    by_test others true h e = let this : t ≡ s = cc in ap (λ (u : ShiftOf). u.v) (sym this) ∙ eqb-true t.v v h
    by_test others false h e = others e

-- the shift of a vertex names it
pub shift_names : (moves : Shifts) (v : ℕ) → (shift_for moves v).v ≡ v
shift_names moves v = by_answer (find (λ t. t.v == v) moves) refl
  where
    by_answer : (o : Option ShiftOf) → find (λ t. t.v == v) moves ≡ o → (unwrap_or o (still_at v)).v ≡ v
    by_answer (Some s) e = found_is moves v s e
    by_answer None e = refl

mapped_names : (moves : Shifts) (keys : List ℕ) → map (λ (s : ShiftOf). s.v) (map (shift_for moves) keys) ≡ keys
mapped_names moves [] = refl
mapped_names moves (k ∷ keys) = ap (λ v. v ∷ map (λ (s : ShiftOf). s.v) (map (shift_for moves) keys)) (shift_names moves k) ∙ ap (λ l. k ∷ l) (mapped_names moves keys)

-- the shifts name the live vertices
pub shifts_name : (m : Mesh) (moves : Shifts) → NameLive m (shifts_of m moves)
shifts_name m moves = mapped_names moves (finite.keys m.points)

-- and their ids rise
pub shifts_rise : (m : Mesh) (shifts moves : Shifts) → shifts ≡ shifts_of m moves → IsStrictlySortedBy nat_cmp (map (λ s. s.v) shifts)
shifts_rise m shifts moves e =
    subst (IsStrictlySortedBy nat_cmp) (sym (ap (map (λ s. s.v)) e ∙ shifts_name m moves)) (keys_rise m)

-- ---- places in lists that were made of others
key_at : {B : Type 0} (f : ℕ → B) (keys : List ℕ) (i : ℕ) (x : B) → slice_get (map f keys) i ≡ Some x → (k : ℕ) × (slice_get keys i ≡ Some k) × (f k ≡ x)
key_at f [] i x e = absurd cc
key_at f (k ∷ keys) zero x e = (k, refl, cc)
key_at f (k ∷ keys) (suc i) x e = key_at f keys i x e

item_at : {B : Type 0} (f : ℕ → B) (keys : List ℕ) (i : ℕ) (k : ℕ) → slice_get keys i ≡ Some k → slice_get (map f keys) i ≡ Some (f k)
item_at f [] i k e = absurd cc
item_at f (j ∷ keys) zero k e = let same : j ≡ k = cc in ap (λ v. Some (f v)) same
item_at f (j ∷ keys) (suc i) k e = item_at f keys i k e

within : {B : Type 0} (f : ℕ → B) (keys : List ℕ) (i : ℕ) (k : ℕ) → slice_get keys i ≡ Some k → i < length (map f keys)
within f [] i k e = absurd cc
within f (j ∷ keys) zero k e = omega arith
within f (j ∷ keys) (suc i) k e = let h = within f keys i k e in omega arith

-- the place of a shift is that of its vertex
pub place_is : (m : Mesh) (shifts moves : Shifts) (i v : ℕ) (s : ShiftOf) → shifts ≡ shifts_of m moves → slice_get shifts i ≡ Some s → s.v ≡ v → slice_get (finite.keys m.points) i ≡ Some v
place_is m shifts moves i v s e at is =
    let found = key_at (shift_for moves) (finite.keys m.points) i s (sym (ap (λ (l : Shifts). slice_get l i) e) ∙ at) in
    found.1 ∙ ap Some (sym (shift_names moves found.0) ∙ ap (λ (t : ShiftOf). t.v) found.2 ∙ is)

pub name_at : (m : Mesh) (named : List Bool) (moves : Shifts) (i v : ℕ) → named ≡ names_of m moves → slice_get (finite.keys m.points) i ≡ Some v → slice_get named i ≡ Some (is_named moves v)
name_at m named moves i v e at = ap (λ (l : List Bool). slice_get l i) e ∙ item_at (is_named moves) (finite.keys m.points) i v at

pub within_shifts : (m : Mesh) (shifts moves : Shifts) (i v : ℕ) → shifts ≡ shifts_of m moves → slice_get (finite.keys m.points) i ≡ Some v → i < length shifts
within_shifts m shifts moves i v e at = subst (λ (l : Shifts). i < length l) (sym e) (within (shift_for moves) (finite.keys m.points) i v at)

pub within_names : (m : Mesh) (named : List Bool) (moves : Shifts) (i v : ℕ) → named ≡ names_of m moves → slice_get (finite.keys m.points) i ≡ Some v → i < length named
within_names m named moves i v e at = subst (λ (l : List Bool). i < length l) (sym e) (within (is_named moves) (finite.keys m.points) i v at)

after_apart : (v u : ℕ) → nat_cmp v u ≡ Less → (v == u) ≡ false
after_apart v u h = grind (arith, nat_tests)

before_apart : (v k : ℕ) → nat_cmp k v ≡ Less → (v == k) ≡ false
before_apart v k h = grind (arith, nat_tests)

module _ {B : Type 0} (f g : ℕ → B) (v : ℕ) (apart : (u : ℕ) → (v == u) ≡ false → g u ≡ f u) where
  later : (keys : List ℕ) → AllByRecursion (λ y. nat_cmp v y ≡ Less) keys → map f keys ≡ map g keys
  later [] h = refl
  later (k ∷ keys) h = ap (λ x. x ∷ map f keys) (sym (apart k (after_apart v k h.0))) ∙ ap (λ l. g k ∷ l) (later keys h.1)

  less_at : (k : ℕ) (keys : List ℕ) (i : ℕ) → AllByRecursion (λ y. nat_cmp k y ≡ Less) keys → slice_get keys i ≡ Some v → nat_cmp k v ≡ Less
  less_at k [] i h e = cc
  less_at k (j ∷ keys) zero h e = let same : j ≡ v = cc in subst (λ u. nat_cmp k u ≡ Less) same h.0
  less_at k (j ∷ keys) (suc i) h e = less_at k keys i h.1 e

  -- a list that was made of rising keys, with another item at one of them
  set_at : (keys : List ℕ) (i : ℕ) (w : B) → IsStrictlySortedBy nat_cmp keys → slice_get keys i ≡ Some v → w ≡ g v → slice_set (map f keys) i w ≡ map g keys
  set_at [] i w sorted e is = absurd cc
  set_at (k ∷ keys) zero w sorted e is =
      let same : k ≡ v = cc in
      let below : AllByRecursion (λ y. nat_cmp v y ≡ Less) keys = subst (λ u. AllByRecursion (λ y. nat_cmp u y ≡ Less) keys) same (sorted_head nat_cmp k keys sorted) in
      ap (λ l. w ∷ l) (later keys below) ∙ ap (λ x. x ∷ map g keys) (is ∙ ap g (sym same))
  set_at (k ∷ keys) (suc i) w sorted e is =
      let less = less_at k keys i (sorted_head nat_cmp k keys sorted) e in
      ap (λ l. f k ∷ l) (set_at keys i w (sorted_tail nat_cmp k keys sorted) e is) ∙ ap (λ x. x ∷ map g keys) (sym (apart k (before_apart v k less)))

-- ---- one more move
none_found : (moves : Shifts) (v : ℕ) → is_named moves v ≡ false → find (λ t. t.v == v) moves ≡ None
none_found [] v e = refl
none_found (t ∷ moves) v e = by_test (none_found moves v) (t.v == v) refl e
  where
    by_test : (is_named moves v ≡ false → find (λ u. u.v == v) moves ≡ None) → (b : Bool) → (t.v == v) ≡ b → (b || is_named moves v) ≡ false → cond b (Some t) (find (λ u. u.v == v) moves) ≡ None
    by_test others true h e = absurd (false≢true (sym e))
    by_test others false h e = others e

itself : (v : ℕ) → (v == v) ≡ true
itself v = eq-eqb v v refl

shift_of_new : (moves : Shifts) (s : ShiftOf) → is_named moves s.v ≡ false → s ≡ shift_for (moves ++ s ∷ []) s.v
shift_of_new moves s first =
    sym (ap (λ o. unwrap_or o (still_at s.v))
    (find-append (λ t. t.v == s.v) moves (s ∷ [])
    ∙ ap (λ o. option_or o (find (λ t. t.v == s.v) (s ∷ []))) (none_found moves s.v first)
    ∙ ap (λ b. cond b (Some s) None) (itself s.v)))

shift_of_other : (moves : Shifts) (s : ShiftOf) (u : ℕ) → (s.v == u) ≡ false → shift_for (moves ++ s ∷ []) u ≡ shift_for moves u
shift_of_other moves s u apart =
    ap (λ o. unwrap_or o (still_at u))
    (find-append (λ t. t.v == u) moves (s ∷ [])
    ∙ ap (λ b. option_or (find (λ t. t.v == u) moves) (cond b (Some s) None)) apart
    ∙ or_none (find (λ t. t.v == u) moves))
  where
    or_none : (o : Option ShiftOf) → option_or o None ≡ o
    or_none (Some t) = refl
    or_none None = refl

or_true : (b : Bool) → (b || true) ≡ true
or_true true = refl
or_true false = refl

or_false : (b : Bool) → (b || false) ≡ b
or_false true = refl
or_false false = refl

name_of_new : (moves : Shifts) (s : ShiftOf) → true ≡ is_named (moves ++ s ∷ []) s.v
name_of_new moves s =
    sym (list_any-append (λ t. t.v == s.v) moves (s ∷ []) ∙ ap (λ b. is_named moves s.v || (b || false)) (itself s.v) ∙ or_true (is_named moves s.v))

name_of_other : (moves : Shifts) (s : ShiftOf) (u : ℕ) → (s.v == u) ≡ false → is_named (moves ++ s ∷ []) u ≡ is_named moves u
name_of_other moves s u apart =
    list_any-append (λ t. t.v == u) moves (s ∷ []) ∙ ap (λ b. is_named moves u || (b || false)) apart ∙ or_false (is_named moves u)

any_named : (moves : Shifts) (v : ℕ) → list_any (eqb v) (map (λ s. s.v) moves) ≡ is_named moves v
any_named [] v = refl
any_named (t ∷ moves) v = ap (λ b. b || list_any (eqb v) (map (λ s. s.v) moves)) (turned v t.v) ∙ ap (λ b. (t.v == v) || b) (any_named moves v)
  where
    turned : (a b : ℕ) → (a == b) ≡ (b == a)
    turned a b = grind (arith, nat_tests)

pub more_moves : (m : Mesh) (moves : Shifts) (s : ShiftOf) → AreMoves m moves → MayMove m moves s → AreMoves m (moves ++ s ∷ [])
more_moves m moves s are may = record {
  once = record {
    live = All-append (λ t. IsLiveVertex m t.v) moves (s ∷ []) are.once.live (All-cons (λ t. IsLiveVertex m t.v) s [] may.live (All-nil (λ t. IsLiveVertex m t.v)));
    once = subst (IsDistinct eqb) (sym (mapped moves)) (IsDistinct-push nat_eq_equiv (map (λ t. t.v) moves) s.v are.once.once (any_named moves s.v ∙ may.first));
  };
  inside =
      list_all-append (λ t. is_within BOX (end_of m t)) moves (s ∷ [])
      ∙ ap (λ b. b && list_all (λ t. is_within BOX (end_of m t)) (s ∷ [])) are.inside
      ∙ ap (λ b. b && true) may.inside;
}
  where
    mapped : (l : Shifts) → map (λ (t : ShiftOf). t.v) (l ++ s ∷ []) ≡ map (λ t. t.v) l ++ s.v ∷ []
    mapped [] = refl
    mapped (t ∷ l) = ap (λ r. t.v ∷ r) (mapped l)

pub holds_more : (m : Mesh) (step next : StepSoFar) (i : ℕ) (s : ShiftOf) → StepHolds m step → MayMove m step.moves s → slice_get (finite.keys m.points) i ≡ Some s.v
    → next.moves ≡ step.moves ++ s ∷ [] → next.shifts ≡ slice_set step.shifts i s → next.named ≡ slice_set step.named i true → StepHolds m next
holds_more m step next i s holds may at moves shifts named =
    let more : Shifts = step.moves ++ s ∷ [] in
    record {
      moves = subst (AreMoves m) (sym moves) (more_moves m step.moves s holds.moves may);
      shifts =
          shifts
          ∙ ap (λ (l : Shifts). slice_set l i s) holds.shifts
          ∙ set_at (shift_for step.moves) (shift_for more) s.v (shift_of_other step.moves s) (finite.keys m.points) i s (keys_rise m) at (shift_of_new step.moves s may.first)
          ∙ sym (ap (shifts_of m) moves);
      named =
          named
          ∙ ap (λ (l : List Bool). slice_set l i true) holds.named
          ∙ set_at (is_named step.moves) (is_named more) s.v (name_of_other step.moves s) (finite.keys m.points) i true (keys_rise m) at (name_of_new step.moves s)
          ∙ sym (ap (names_of m) moves);
    }

-- ---- moves can be made one after another
pub can_move_all : (m : Mesh) (moves : Shifts) → AreMoves m moves → CanMoveAll m moves
can_move_all m [] are = tt
can_move_all m (s ∷ moves) are =
    let parts = both_true (is_within BOX (end_of m s)) (end_in_box m moves) are.inside in
    let live = All-head (λ x. IsLiveVertex m x.v) s moves are.once.live in
    let apart = IsDistinct-head eqb s.v (map (λ x. x.v) moves) are.once.once in (
      record { live = live; inside = parts.0 },
      can_move_all (with_move m s) moves (record {
        once = record {
          live = still_live m s moves live (All-tail (λ x. IsLiveVertex m x.v) s moves are.once.live);
          once = IsDistinct-tail eqb s.v (map (λ x. x.v) moves) are.once.once;
        };
        inside = same_ends m s moves apart ∙ parts.1;
      }),
    )
