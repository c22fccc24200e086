-- The mean of shifts is within the limit of a shift.
use Rattle.std.proofs.Common.{◌≡◌, ℕ, zero, suc, ◌+◌, ◌*◌, ◌/◌, ◌≤◌, ◌==◌, true, false, cond, Option, Some, None, List, [], ◌∷◌, length, ℤ, pos, negsuc, ◌+ℤ◌, neg_ℤ, unsigned_abs, refl, sym, subst, arith, lit≤}
use Rattle.std.specs.Prelude.{int_div}
use Rattle.std.specs.Option.{option_map, unwrap_or}
use Rattle.std.specs.List.{find, fold, list_any}
use Rattle.std.proofs.Math.Nat.{div-le_of_le-mul}
use Rattle.std.proofs.lemmas.Int.{ints}
use Rattle.grid_base.specs.declared.TheConstants.{SHIFT_MAX}
use Rattle.grid_base.specs.Triples.{Triple, IsWithin, plus}
use Rattle.grid_base.specs.Points.{displacement_of, shift_by}
use Rattle.grid_base.proofs.PointLaws.{displacement_of-shift_by}
use Rattle.mesh_base.specs.declared.steps.ShiftOf.{ShiftOf}
use Rattle.mesh_base.specs.Mesh.{Mesh, is_solid}
use Rattle.mesh_base.specs.Placements.{origin}
use Rattle.mesh_base.specs.Shifts.{Shifts, shift_at}
use Rattle.step_zones.specs.Zones.{mean_shift, block_shift}

pub shift_within : (shifts : Shifts) (v : ℕ) → IsWithin SHIFT_MAX (shift_at shifts v)
shift_within shifts v = by_answer (find (λ s. s.v == v) shifts)
  where
    by_answer : (o : Option ShiftOf) → IsWithin SHIFT_MAX (unwrap_or (option_map (λ s. displacement_of s.by) o) origin)
    by_answer None = record { x_fits = lit≤ tt; y_fits = lit≤ tt; z_fits = lit≤ tt }
    by_answer (Some s) = record { x_fits = s.by.in_range.x_fits; y_fits = s.by.in_range.y_fits; z_fits = s.by.in_range.z_fits }

sum_size : (a b : ℤ) (j k : ℕ) → unsigned_abs a ≤ j → unsigned_abs b ≤ k → unsigned_abs (a +ℤ b) ≤ j + k
sum_size a b j k h l = omega (arith, ints)

plus_within : (a b : Triple) (j k : ℕ) → IsWithin j a → IsWithin k b → IsWithin (j + k) (plus a b)
plus_within a b j k h l = record { x_fits = sum_size a.x b.x j k h.x_fits l.x_fits; y_fits = sum_size a.y b.y j k h.y_fits l.y_fits; z_fits = sum_size a.z b.z j k h.z_fits l.z_fits }

sum_within : (shifts : Shifts) (block : List ℕ) (z : Triple) (k : ℕ) → IsWithin k z → IsWithin (k + length block * SHIFT_MAX) (fold (λ sum v. plus sum (shift_at shifts v)) z block)
sum_within shifts [] z k h = subst (λ n. IsWithin n z) (none k) h
  where
    none : (n : ℕ) → n ≡ n + 0 * SHIFT_MAX
    none n = omega arith
sum_within shifts (v ∷ block) z k h =
    subst (λ n. IsWithin n (fold (λ sum u. plus sum (shift_at shifts u)) (plus z (shift_at shifts v)) block)) (one_more k (length block))
    (sum_within shifts block (plus z (shift_at shifts v)) (k + SHIFT_MAX) (plus_within z (shift_at shifts v) k SHIFT_MAX h (shift_within shifts v)))
  where
    one_more : (n l : ℕ) → (n + SHIFT_MAX) + l * SHIFT_MAX ≡ n + suc l * SHIFT_MAX
    one_more n l = omega arith

negated : (n : ℕ) → unsigned_abs (neg_ℤ (pos n)) ≡ n
negated zero = refl
negated (suc n) = refl

pub quotient_size : (z : ℤ) (n k : ℕ) → unsigned_abs z ≤ n * k → unsigned_abs (int_div z (pos n)) ≤ k
quotient_size (pos a) n k h = div-le_of_le-mul n h
quotient_size (negsuc a) n k h = subst (λ q. q ≤ k) (sym (negated (suc a / n))) (div-le_of_le-mul n h)

pub mean_within : (asked : Shifts) (block : List ℕ) → IsWithin SHIFT_MAX (mean_shift asked block)
mean_within asked block =
    let zero_fits : IsWithin 0 origin = record { x_fits = lit≤ tt; y_fits = lit≤ tt; z_fits = lit≤ tt } in
    let sum = subst (λ n. IsWithin n (fold (λ sum v. plus sum (shift_at asked v)) origin block)) (from_nothing (length block)) (sum_within asked block origin 0 zero_fits) in
    record {
      x_fits = quotient_size _ (length block) SHIFT_MAX sum.x_fits;
      y_fits = quotient_size _ (length block) SHIFT_MAX sum.y_fits;
      z_fits = quotient_size _ (length block) SHIFT_MAX sum.z_fits;
    }
  where
    from_nothing : (l : ℕ) → 0 + l * SHIFT_MAX ≡ l * SHIFT_MAX
    from_nothing l = omega arith

block_within : (m : Mesh) (asked : Shifts) (block : List ℕ) → IsWithin SHIFT_MAX (block_shift m asked block)
block_within m asked block = elim (list_any (is_solid m) block) as (λ t. IsWithin SHIFT_MAX (cond t origin (mean_shift asked block))) [
  | true ↦ record { x_fits = lit≤ tt; y_fits = lit≤ tt; z_fits = lit≤ tt }
  | false ↦ mean_within asked block
]

pub block_moves : (m : Mesh) (asked : Shifts) (block : List ℕ) → displacement_of (shift_by (block_shift m asked block)) ≡ block_shift m asked block
block_moves m asked block = displacement_of-shift_by (block_shift m asked block) (block_within m asked block)
