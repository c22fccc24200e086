-- Shifts that name each live vertex name each once; and of those that shift nothing some may be left out.
use Rattle.std.proofs.Common.{◌≡◌, ℕ, ◌==◌, ◌&&◌, Bool, true, false, cond, eqb, T, List, [], ◌∷◌, Option, Some, is_some, map, nat_lt, refl, sym, ap, subst, ◌∙◌, arith}
use Rattle.std.specs.Option.{option_map, unwrap_or}
use Rattle.std.specs.List.{find, filter, AllByRecursion, IsDistinct}
use Rattle.std.specs.Ordering.{nat_cmp, is_lt}
use Rattle.std.specs.FinMap as finite
use Rattle.std.specs.FinMap.{entries_sorted, get-entries}
use Rattle.std.specs.FinMap.Entries as entries
use Rattle.std.specs.FinMap.Entries.{is_sorted, below_all}
use Rattle.std.proofs.lemmas.List.Elements.{All-from_recursion, All-filter}
use Rattle.std.proofs.lemmas.Map.Keys.{IsDistinct-head, IsDistinct-tail, IsDistinct-cons}
use Rattle.std.proofs.lemmas.Bool.{eqb-true}
use Rattle.std.proofs.lemmas.Bool.Decides.{nat_tests}
use Rattle.grid_base.specs.declared.TheConstants.{BOX}
use Rattle.grid_base.specs.Triples.{Triple, plus}
use Rattle.grid_base.specs.Points.{displacement_of, is_within}
use Rattle.mesh_base.specs.declared.steps.ShiftOf.{ShiftOf}
use Rattle.mesh_base.specs.Mesh.{Mesh, IsLiveVertex}
use Rattle.mesh_base.specs.Placements.{origin, rest_positions}
use Rattle.mesh_base.specs.Shifts.{Shifts, NameLive, NameOnce, shift_at, end_in_box}
use Rattle.mesh_base.proofs.Listed.{each_found, all_map}
use Rattle.mesh_base.proofs.ListedPairs.{all_mapped, all_weaker}
use Rattle.mesh_base.proofs.WalkSteps.{both_of, less_true}
use Rattle.mesh_base.proofs.Moves.{both_true, unnamed}

-- ---- the ids of a map
apart_below : (a b : ℕ) → nat_lt a b ≡ true → eqb a b ≡ false
apart_below a b h = grind (arith, nat_tests)

below_apart : {X : Type 0} (k : ℕ) (es : List (ℕ × X)) → T (below_all nat_cmp k es) → AllByRecursion (λ j. eqb k j ≡ false) (map (λ e. e.0) es)
below_apart k [] h = tt
below_apart k (e ∷ es) h = let parts = both_of (is_lt (nat_cmp k e.0)) (below_all nat_cmp k es) h in (apart_below k e.0 (less_true k e.0 parts.0), below_apart k es parts.1)

distinct_sorted : {X : Type 0} (es : List (ℕ × X)) → T (is_sorted nat_cmp es) → IsDistinct eqb (map (λ e. e.0) es)
unfolding IsDistinct
distinct_sorted [] h = tt
distinct_sorted (e ∷ es) h = let parts = both_of (below_all nat_cmp e.0 es) (is_sorted nat_cmp es) h in (below_apart e.0 es parts.0, distinct_sorted es parts.1)

live_keys : (m : Mesh) → AllByRecursion (IsLiveVertex m) (finite.keys m.points)
live_keys m =
    let es = finite.entries m.points in
    all_mapped (IsLiveVertex m) (λ e. e.0) es (all_weaker (λ e. entries.find nat_cmp e.0 es ≡ Some e.1) (λ e. IsLiveVertex m e.0) es (λ e h. ap is_some (get-entries m.points e.0 ∙ h)) (each_found es (entries_sorted m.points)))

-- shifts of the live vertices name each once
pub name_once : (m : Mesh) (shifts : Shifts) → NameLive m shifts → NameOnce m shifts
name_once m shifts named = record {
  live = All-from_recursion (λ s. IsLiveVertex m s.v) shifts (all_map (IsLiveVertex m) (λ s. s.v) shifts (subst (AllByRecursion (IsLiveVertex m)) (sym named) (live_keys m)));
  once = subst (IsDistinct eqb) (sym named) (distinct_sorted (finite.entries m.points) (entries_sorted m.points));
}

-- ---- some left out
apart_filtered : (v : ℕ) (test : ShiftOf → Bool) (moves : Shifts) → AllByRecursion (λ u. eqb v u ≡ false) (map (λ s. s.v) moves) → AllByRecursion (λ u. eqb v u ≡ false) (map (λ s. s.v) (filter test moves))
apart_filtered v test [] h = tt
apart_filtered v test (s ∷ rest) h = by_test (apart_filtered v test rest h.1) (test s)
  where
    by_test : AllByRecursion (λ u. eqb v u ≡ false) (map (λ x. x.v) (filter test rest)) → (b : Bool) → AllByRecursion (λ u. eqb v u ≡ false) (map (λ x. x.v) (cond b (s ∷ filter test rest) (filter test rest)))
    by_test after true = (h.0, after)
    by_test after false = after

distinct_filtered : (test : ShiftOf → Bool) (moves : Shifts) → IsDistinct eqb (map (λ s. s.v) moves) → IsDistinct eqb (map (λ s. s.v) (filter test moves))
distinct_filtered test [] h = h
distinct_filtered test (s ∷ rest) h = by_test (apart_filtered s.v test rest (IsDistinct-head eqb s.v (map (λ x. x.v) rest) h)) (distinct_filtered test rest (IsDistinct-tail eqb s.v (map (λ x. x.v) rest) h)) (test s)
  where
    by_test : AllByRecursion (λ u. eqb s.v u ≡ false) (map (λ x. x.v) (filter test rest)) → IsDistinct eqb (map (λ x. x.v) (filter test rest)) → (b : Bool) → IsDistinct eqb (map (λ x. x.v) (cond b (s ∷ filter test rest) (filter test rest)))
    by_test apart after true = IsDistinct-cons eqb s.v (map (λ x. x.v) (filter test rest)) apart after
    by_test apart after false = after

pub name_once_filtered : (m : Mesh) (test : ShiftOf → Bool) (moves : Shifts) → NameOnce m moves → NameOnce m (filter test moves)
name_once_filtered m test moves names = record {
  live = All-filter test (λ s. IsLiveVertex m s.v) moves names.live;
  once = distinct_filtered test moves names.once;
}

-- where those left out shift nothing, each vertex has its shift
pub shift_filtered : (test : ShiftOf → Bool) (moves : Shifts) (v : ℕ) → ((s : ShiftOf) → test s ≡ false → displacement_of s.by ≡ origin) → IsDistinct eqb (map (λ s. s.v) moves) → shift_at (filter test moves) v ≡ shift_at moves v
shift_filtered test [] v zero once = refl
shift_filtered test (s ∷ rest) v zero once =
    let apart = IsDistinct-head eqb s.v (map (λ x. x.v) rest) once in
    let after = shift_filtered test rest v zero (IsDistinct-tail eqb s.v (map (λ x. x.v) rest) once) in
    by_tests apart after (test s) refl (s.v == v) refl
  where
    read : Option ShiftOf → Triple
    read o = unwrap_or (option_map (λ x. displacement_of x.by) o) origin

    by_tests : AllByRecursion (λ u. eqb s.v u ≡ false) (map (λ x. x.v) rest) → shift_at (filter test rest) v ≡ shift_at rest v
        → (b : Bool) → test s ≡ b → (c : Bool) → (s.v == v) ≡ c
        → read (find (λ x. x.v == v) (cond b (s ∷ filter test rest) (filter test rest))) ≡ read (cond c (Some s) (find (λ x. x.v == v) rest))
    by_tests apart after true e true e' = ap (λ c. read (cond c (Some s) (find (λ x. x.v == v) (filter test rest)))) e'
    by_tests apart after true e false e' = ap (λ c. read (cond c (Some s) (find (λ x. x.v == v) (filter test rest)))) e' ∙ after
    by_tests apart after false e true e' = after ∙ subst (λ u. shift_at rest u ≡ displacement_of s.by) (eqb-true s.v v e') (unnamed s.v rest apart ∙ sym (zero s e))
    by_tests apart after false e false e' = after

pub end_filtered : (m : Mesh) (test : ShiftOf → Bool) (moves : Shifts) → end_in_box m moves ≡ true → end_in_box m (filter test moves) ≡ true
end_filtered m test [] h = refl
end_filtered m test (s ∷ rest) h =
    let parts = both_true (is_within BOX (plus (rest_positions m s.v) (displacement_of s.by))) (end_in_box m rest) h in
    by_test parts.0 (end_filtered m test rest parts.1) (test s)
  where
    by_test : is_within BOX (plus (rest_positions m s.v) (displacement_of s.by)) ≡ true → end_in_box m (filter test rest) ≡ true → (b : Bool) → end_in_box m (cond b (s ∷ filter test rest) (filter test rest)) ≡ true
    by_test here after true = ap (λ b. b && end_in_box m (filter test rest)) here ∙ after
    by_test here after false = after
