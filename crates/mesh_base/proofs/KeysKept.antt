-- Moves keep the ids of the live vertices.
use Rattle.std.proofs.Common.{◌≡◌, ℕ, ◌==◌, true, false, cond, T, List, [], ◌∷◌, Some, is_some, nat_lt, refl, sym, ap, subst, ◌∙◌, arith}
use Rattle.std.specs.List.{All}
use Rattle.std.specs.Ordering.{nat_cmp, is_lt, is_eq, eq_by_cmp}
use Rattle.std.specs.declared.cmp.Ordering.{Ordering}
use Rattle.std.specs.declared.cmp.Ordering.TheVariants.{Less, Equal, Greater}
use Rattle.std.specs.Map.{keys_of}
use Rattle.std.specs.Cmp.{nat_cmp_total, unsigned_tied}
use Rattle.std.specs.FinMap as finite
use Rattle.std.specs.FinMap.{FinMap, entries-insert, entries_sorted, get-entries}
use Rattle.std.specs.FinMap.Entries.{put, find, is_sorted, below_all, by_order}
use Rattle.std.proofs.lemmas.Bool.{false≢true}
use Rattle.std.proofs.lemmas.Bool.Decides.{nat_tests}
use Rattle.std.proofs.lemmas.List.Elements.{All-head, All-tail}
use Rattle.grid_base.specs.Triples.{plus}
use Rattle.grid_base.specs.Points.{displacement_of, point_at}
use Rattle.mesh_base.specs.Mesh.{Mesh, IsLiveVertex}
use Rattle.mesh_base.specs.Placements.{rest_positions}
use Rattle.mesh_base.specs.Shifts.{Shifts, with_move, with_moves}
use Rattle.mesh_base.proofs.WalkSteps.{both_of, less_true}
use Rattle.mesh_base.proofs.Moves.{still_live}

apart_less : (k a x : ℕ) → nat_lt k a ≡ true → nat_lt a x ≡ true → (k == x) ≡ false
apart_less k a x h e = grind (arith, nat_tests)

-- a key below all keys of a list is not found in it
not_found : {X : Type 0} (k a : ℕ) (es : List (ℕ × X)) → nat_lt k a ≡ true → T (below_all nat_cmp a es) → is_some (find nat_cmp k es) ≡ false
not_found k a [] h below = refl
not_found k a (e ∷ es) h below =
    let parts = both_of (is_lt (nat_cmp a e.0)) (below_all nat_cmp a es) below in
    ap (λ b. is_some (cond b (Some e.1) (find nat_cmp k es))) (unsigned_tied k e.0 ∙ apart_less k a e.0 h (less_true a e.0 parts.0)) ∙ not_found k a es h parts.1

lower : (k a : ℕ) → nat_cmp k a ≡ Less → nat_lt k a ≡ true
lower k a h = less_true k a (subst (λ o. T (is_lt o)) (sym h) tt)

below_apart : (k a : ℕ) → nat_lt k a ≡ true → (k == a) ≡ false
below_apart k a h = grind (arith, nat_tests)

-- a new value at a key that is there leaves the keys
keys_put : {X : Type 0} (k : ℕ) (v : X) (es : List (ℕ × X)) → T (is_sorted nat_cmp es) → is_some (find nat_cmp k es) ≡ true → keys_of (put nat_cmp k v es) ≡ keys_of es
keys_put k v [] sorted there = absurd (false≢true there)
keys_put k v (e ∷ es) sorted there =
    let parts = both_of (below_all nat_cmp e.0 es) (is_sorted nat_cmp es) sorted in
    by_place parts.0 (keys_put k v es parts.1) (nat_cmp k e.0) refl there
  where
    by_place : T (below_all nat_cmp e.0 es) → (is_some (find nat_cmp k es) ≡ true → keys_of (put nat_cmp k v es) ≡ keys_of es) → (o : Ordering) → nat_cmp k e.0 ≡ o
        → is_some (cond (eq_by_cmp nat_cmp k e.0) (Some e.1) (find nat_cmp k es)) ≡ true
        → keys_of (by_order o ((k, v) ∷ e ∷ es) ((e.0, v) ∷ es) (e ∷ put nat_cmp k v es)) ≡ e.0 ∷ keys_of es
    by_place below rest Less h there =
        let low = lower k e.0 h in
        let none = ap (λ b. is_some (cond b (Some e.1) (find nat_cmp k es))) (unsigned_tied k e.0 ∙ below_apart k e.0 low) ∙ not_found k e.0 es low below in
        absurd (false≢true (sym none ∙ there))
    by_place below rest Equal h there = refl
    by_place below rest Greater h there = ap (λ ks. e.0 ∷ ks) (rest (ap (λ o. is_some (cond (is_eq o) (Some e.1) (find nat_cmp k es))) (sym h) ∙ there))

pub keys-insert_there : {X : Type 0} (m : FinMap nat_cmp X) (k : ℕ) (v : X) → is_some (finite.get m k) ≡ true → finite.keys (finite.insert m k v) ≡ finite.keys m
keys-insert_there m k v there = ap keys_of (entries-insert nat_cmp_total m k v) ∙ keys_put k v (finite.entries m) (entries_sorted m) (ap is_some (sym (get-entries m k)) ∙ there)

-- moves of live vertices
pub keys-with_moves : (m : Mesh) (moves : Shifts) → All (λ s. IsLiveVertex m s.v) moves → finite.keys (with_moves m moves).points ≡ finite.keys m.points
keys-with_moves m [] live = refl
keys-with_moves m (s ∷ rest) live =
    let here = All-head (λ x. IsLiveVertex m x.v) s rest live in
    keys-with_moves (with_move m s) rest (still_live m s rest here (All-tail (λ x. IsLiveVertex m x.v) s rest live))
    ∙ keys-insert_there m.points s.v (point_at (plus (rest_positions m s.v) (displacement_of s.by))) here
