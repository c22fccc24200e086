-- Where vertices end, and the shifts that say so.
use Rattle.std.proofs.Common.{◌≡◌, ℕ, ◌==◌, Bool, true, false, cond, [], ◌∷◌, map, Option, Some, None, refl, sym, ap, subst, ◌∙◌}
use Rattle.std.specs.Option.{option_map, unwrap_or}
use Rattle.std.specs.List.{find}
use Rattle.std.specs.List.Sorted.{IsStrictlySortedBy}
use Rattle.std.specs.Ordering.{nat_cmp}
use Rattle.std.specs.FinMap as finite
use Rattle.std.specs.FinMap.{entries_sorted}
use Rattle.std.proofs.lemmas.Bool.{eqb-true}
use Rattle.grid_base.specs.declared.TheConstants.{BOX}
use Rattle.grid_base.specs.Triples.{plus}
use Rattle.grid_base.specs.Points.{position_of, displacement_of, is_within, point_at}
use Rattle.grid_base.proofs.PointLaws.{position_of-point_at, within_of, of_within}
use Rattle.mesh_base.specs.declared.steps.ShiftOf.{ShiftOf}
use Rattle.mesh_base.specs.Mesh.{Mesh}
use Rattle.mesh_base.specs.Placements.{origin, rest_positions}
use Rattle.mesh_base.specs.Shifts.{Shifts, NameLive, shift_at, end_in_box}
use Rattle.mesh_base.proofs.Moves.{plus-origin, own_within, both_true}
use Rattle.mesh_base.proofs.InOrder.{keys_sorted}

-- ---- the ids of the shifts rise
pub ids_sorted : (m : Mesh) (by : Shifts) → NameLive m by → IsStrictlySortedBy nat_cmp (map (λ s. s.v) by)
ids_sorted m by named = subst (IsStrictlySortedBy nat_cmp) (sym named) (keys_sorted (finite.entries m.points) (entries_sorted m.points))

-- ---- the shift that is looked up
pub displaced : (by : Shifts) (v : ℕ) → unwrap_or (option_map displacement_of (option_map (λ s. s.by) (find (λ s. s.v == v) by))) origin ≡ shift_at by v
displaced by v = by_answer (find (λ s. s.v == v) by)
  where
    by_answer : (o : Option ShiftOf) → unwrap_or (option_map displacement_of (option_map (λ s. s.by) o)) origin ≡ unwrap_or (option_map (λ s. displacement_of s.by) o) origin
    by_answer None = refl
    by_answer (Some s) = refl

-- ---- the ends are in the box
shifted_within : (m : Mesh) (by : Shifts) (v : ℕ) → end_in_box m by ≡ true → is_within BOX (plus (rest_positions m v) (shift_at by v)) ≡ true
shifted_within m [] v h = ap (is_within BOX) (plus-origin (rest_positions m v)) ∙ of_within BOX (rest_positions m v) (own_within m v)
shifted_within m (s ∷ by) v h =
    let parts = both_true (is_within BOX (plus (rest_positions m s.v) (displacement_of s.by))) (end_in_box m by) h in
    by_test parts.0 (shifted_within m by v parts.1) (s.v == v) refl
  where
    by_test : is_within BOX (plus (rest_positions m s.v) (displacement_of s.by)) ≡ true → is_within BOX (plus (rest_positions m v) (shift_at by v)) ≡ true
        → (b : Bool) → (s.v == v) ≡ b → is_within BOX (plus (rest_positions m v) (unwrap_or (option_map (λ x. displacement_of x.by) (cond b (Some s) (find (λ x. x.v == v) by))) origin)) ≡ true
    by_test here rest true e = subst (λ u. is_within BOX (plus (rest_positions m u) (displacement_of s.by)) ≡ true) (eqb-true s.v v e) here
    by_test here rest false e = rest

-- a vertex ends where its motion does
pub end_position : (m : Mesh) (by : Shifts) (v : ℕ) → end_in_box m by ≡ true → position_of (point_at (plus (rest_positions m v) (shift_at by v))) ≡ plus (rest_positions m v) (shift_at by v)
end_position m by v h = position_of-point_at (plus (rest_positions m v) (shift_at by v)) (within_of BOX (plus (rest_positions m v) (shift_at by v)) (shifted_within m by v h))
