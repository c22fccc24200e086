-- The shifts of all live vertices tell the motion of the moves.
use Rattle.std.proofs.Common.{◌≡◌, ℕ, zero, suc, ◌==◌, ◌||◌, ◌&&◌, Bool, true, false, cond, List, [], ◌∷◌, map, Option, Some, None, is_some, refl, sym, ap, subst, ◌∙◌, arith}
use Rattle.std.specs.Prelude.{slice_get}
use Rattle.std.specs.Option.{option_map, unwrap_or}
use Rattle.std.specs.List.{find, list_any, list_all, All}
use Rattle.std.specs.Ordering.{nat_cmp, eq_by_cmp}
use Rattle.std.specs.Cmp.{unsigned_tied}
use Rattle.std.specs.FinMap as finite
use Rattle.std.specs.FinMap.{FinMap, contains_key-keys}
use Rattle.std.proofs.lemmas.Bool.{false≢true, eqb-true, eq-eqb}
use Rattle.std.proofs.lemmas.Bool.Decides.{nat_tests}
use Rattle.std.proofs.lemmas.List.Elements.{All-head, All-tail}
use Rattle.grid_base.specs.declared.TheConstants.{BOX}
use Rattle.grid_base.specs.Triples.{Triple, plus}
use Rattle.grid_base.specs.Points.{displacement_of, is_within, no_shift}
use Rattle.grid_base.proofs.PointLaws.{of_within}
use Rattle.mesh_base.specs.declared.ShiftOf.{ShiftOf}
use Rattle.mesh_base.specs.Mesh.{Mesh, IsLiveVertex}
use Rattle.mesh_base.specs.Placements.{origin, rest_positions, Motion}
use Rattle.mesh_base.specs.Shifts.{Shifts, shift_at, moved_by, end_in_box}
use Rattle.mesh_base.proofs.Moves.{plus-origin, own_within, both_true}
use Rattle.log_replay.specs.Moves.{end_of, AreMoves}
use Rattle.log_run.specs.Steps.{still_at, shift_for, shifts_of}
use Rattle.log_run.specs.Laws.{AllShiftsTell}
use Rattle.log_run.proofs.StepMoves.{shift_names, shifts_name}

-- whether the number is in the list
abbrev has : List ℕ → ℕ → Bool
has ids q = list_any (λ k. q == k) ids

has_key : {X : Type 0} (m : FinMap nat_cmp X) (q : ℕ) → has (finite.keys m) q ≡ is_some (finite.get m q)
has_key m q = sym (contains_key-keys m q ∙ alike (finite.keys m))
  where
    alike : (ks : List ℕ) → list_any (eq_by_cmp nat_cmp q) ks ≡ list_any (λ k. q == k) ks
    alike [] = refl
    alike (k ∷ ks) = ap (λ b. b || list_any (eq_by_cmp nat_cmp q) ks) (unsigned_tied q k) ∙ ap (λ b. (q == k) || b) (alike ks)

turned : (a b : ℕ) → (a == b) ≡ (b == a)
turned a b = grind (arith, nat_tests)

-- what is found among the shifts of these vertices
found_among : (moves : Shifts) (keys : List ℕ) (v : ℕ) → find (λ s. s.v == v) (map (shift_for moves) keys) ≡ cond (has keys v) (Some (shift_for moves v)) None
found_among moves [] v = refl
found_among moves (k ∷ keys) v =
    ap (λ b. cond b (Some (shift_for moves k)) (find (λ s. s.v == v) (map (shift_for moves) keys))) (ap (λ u. u == v) (shift_names moves k) ∙ turned k v)
    ∙ ap (cond (v == k) (Some (shift_for moves k))) (found_among moves keys v)
    ∙ by_test (v == k) refl
  where
    by_test : (b : Bool) → (v == k) ≡ b → cond b (Some (shift_for moves k)) (cond (has keys v) (Some (shift_for moves v)) None) ≡ cond (b || has keys v) (Some (shift_for moves v)) None
    by_test true e = ap (λ u. Some (shift_for moves u)) (sym (eqb-true v k e))
    by_test false e = refl

-- a live vertex has its place among the shifts
pub not_missing : (m : Mesh) (shifts moves : Shifts) (v : ℕ) → shifts ≡ shifts_of m moves → find (λ s. s.v == v) shifts ≡ None → IsLiveVertex m v → ⊥
not_missing m shifts moves v e none live =
    let found : find (λ s. s.v == v) (shifts_of m moves) ≡ Some (shift_for moves v) =
    found_among moves (finite.keys m.points) v ∙ ap (λ b. cond b (Some (shift_for moves v)) None) (has_key m.points v ∙ live) in
    let both : None ≡ Some (shift_for moves v) = sym none ∙ ap (find (λ s. s.v == v)) e ∙ found in
    cc

has_at : (keys : List ℕ) (i v : ℕ) → slice_get keys i ≡ Some v → has keys v ≡ true
has_at [] i v e = absurd cc
has_at (k ∷ keys) zero v e = let same : k ≡ v = cc in ap (λ b. b || has keys v) (eq-eqb v k (sym same))
has_at (k ∷ keys) (suc i) v e = ap (λ b. (v == k) || b) (has_at keys i v e) ∙ or_true (v == k)
  where
    or_true : (b : Bool) → (b || true) ≡ true
    or_true true = refl
    or_true false = refl

-- a vertex that has a place is live
pub live_at : (m : Mesh) (i v : ℕ) → slice_get (finite.keys m.points) i ≡ Some v → IsLiveVertex m v
live_at m i v e = sym (has_key m.points v) ∙ has_at (finite.keys m.points) i v e

read_for : (moves : Shifts) (v : ℕ) → displacement_of (shift_for moves v).by ≡ shift_at moves v
read_for moves v = by_answer (find (λ s. s.v == v) moves)
  where
    by_answer : (o : Option ShiftOf) → displacement_of (unwrap_or o (still_at v)).by ≡ unwrap_or (option_map (λ s. displacement_of s.by) o) origin
    by_answer (Some s) = refl
    by_answer None = refl

-- no move names a vertex that is not live
not_moved : (m : Mesh) (moves : Shifts) (v : ℕ) → All (λ s. IsLiveVertex m s.v) moves → is_some (finite.get m.points v) ≡ false → find (λ s. s.v == v) moves ≡ None
not_moved m [] v live gone = refl
not_moved m (s ∷ moves) v live gone = by_test (not_moved m moves v (All-tail (λ t. IsLiveVertex m t.v) s moves live) gone) (s.v == v) refl
  where
    by_test : find (λ t. t.v == v) moves ≡ None → (b : Bool) → (s.v == v) ≡ b → cond b (Some s) (find (λ t. t.v == v) moves) ≡ None
    by_test others true e = absurd (false≢true (sym gone ∙ ap (λ u. is_some (finite.get m.points u)) (sym (eqb-true s.v v e)) ∙ All-head (λ t. IsLiveVertex m t.v) s moves live))
    by_test others false e = others

shift_alike : (m : Mesh) (moves : Shifts) → AreMoves m moves → (v : ℕ) → shift_at (shifts_of m moves) v ≡ shift_at moves v
shift_alike m moves are v =
    ap (λ o. unwrap_or (option_map (λ (s : ShiftOf). displacement_of s.by) o) origin) (found_among moves (finite.keys m.points) v ∙ ap (λ b. cond b (Some (shift_for moves v)) None) (has_key m.points v))
    ∙ by_test (is_some (finite.get m.points v)) refl
  where
    by_test : (b : Bool) → is_some (finite.get m.points v) ≡ b → unwrap_or (option_map (λ (s : ShiftOf). displacement_of s.by) (cond b (Some (shift_for moves v)) None)) origin ≡ shift_at moves v
    by_test true e = read_for moves v
    by_test false e = sym (ap (λ o. unwrap_or (option_map (λ (s : ShiftOf). displacement_of s.by) o) origin) (not_moved m moves v are.once.live e))

-- each ends in the box
ends_inside : (m : Mesh) (moves : Shifts) (v : ℕ) → end_in_box m moves ≡ true → is_within BOX (plus (rest_positions m v) (displacement_of (shift_for moves v).by)) ≡ true
ends_inside m [] v h = ap (is_within BOX) (plus-origin (rest_positions m v)) ∙ of_within BOX (rest_positions m v) (own_within m v)
ends_inside m (s ∷ rest) v h =
    let parts = both_true (is_within BOX (end_of m s)) (end_in_box m rest) h in
    by_test parts.0 (ends_inside m rest v parts.1) (s.v == v) refl
  where
    by_test : is_within BOX (end_of m s) ≡ true → is_within BOX (plus (rest_positions m v) (displacement_of (shift_for rest v).by)) ≡ true
        → (b : Bool) → (s.v == v) ≡ b → is_within BOX (plus (rest_positions m v) (displacement_of (unwrap_or (cond b (Some s) (find (λ t. t.v == v) rest)) (still_at v)).by)) ≡ true
    by_test here later true e = ap (λ u. is_within BOX (plus (rest_positions m u) (displacement_of s.by))) (sym (eqb-true s.v v e)) ∙ here
    by_test here later false e = later

all_inside : (m : Mesh) (moves : Shifts) (keys : List ℕ) → end_in_box m moves ≡ true → end_in_box m (map (shift_for moves) keys) ≡ true
all_inside m moves [] inside = refl
all_inside m moves (k ∷ keys) inside =
    ap (λ b. b && end_in_box m (map (shift_for moves) keys))
    (ap (λ u. is_within BOX (plus (rest_positions m u) (displacement_of (shift_for moves k).by))) (shift_names moves k) ∙ ends_inside m moves k inside)
    ∙ all_inside m moves keys inside

pub shifts_tell : AllShiftsTell
shifts_tell m moves are = record {
  names = shifts_name m moves;
  motion = λ i. record { start = rest_positions m; end = λ v. plus (rest_positions m v) (shift_alike m moves are v i) };
  inside = all_inside m moves (finite.keys m.points) are.inside;
}
