-- Shifts that are halved, or taken back, name the same vertices and end in the box.
use Rattle.std.proofs.Common.{◌≡◌, ℕ, ◌==◌, ◌^◌, ◌/◌, ◌≤◌, Bool, true, false, cond, ◌&&◌, [], ◌∷◌, map, Some, ℤ, pos, negsuc, neg_ℤ, ◌+ℤ◌, unsigned_abs, suc, refl, ap, ◌∙◌, arith, div-le_self}
use Rattle.std.specs.Option.{option_map, unwrap_or}
use Rattle.std.specs.List.{find}
use Rattle.std.specs.FinMap as finite
use Rattle.std.proofs.lemmas.Int.{ints}
use Rattle.grid_base.specs.declared.TheConstants.{BOX, SHIFT_MAX}
use Rattle.grid_base.specs.Components.{toward_zero}
use Rattle.grid_base.specs.Triples.{plus, halved_of}
use Rattle.grid_base.specs.Points.{displacement_of, is_within}
use Rattle.grid_base.proofs.PointLaws.{displacement_of-shift_by, within_of, of_within}
use Rattle.mesh_base.specs.declared.ShiftOf.{ShiftOf}
use Rattle.mesh_base.specs.Mesh.{Mesh}
use Rattle.mesh_base.specs.Placements.{origin, rest_positions}
use Rattle.mesh_base.specs.Shifts.{Shifts, shift_at, end_in_box}
use Rattle.mesh_base.proofs.Moves.{both_true, plus-origin, own_within}
use Rattle.step_choose.specs.Choice.{halved_shift, halved_times, at_rest, all_at_rest}

-- ---- between a number and its sum with another
by_natural : (p : ℤ) (a q most : ℕ) → q ≤ a → unsigned_abs p ≤ most → unsigned_abs (p +ℤ pos a) ≤ most → unsigned_abs (p +ℤ pos q) ≤ most
by_natural p a q most h i j = omega (arith, ints)

by_negative : (p : ℤ) (a q most : ℕ) → q ≤ suc a → unsigned_abs p ≤ most → unsigned_abs (p +ℤ negsuc a) ≤ most → unsigned_abs (p +ℤ neg_ℤ (pos q)) ≤ most
by_negative p a q most h i j = omega (arith, ints)

-- going part of the way stays within what both ends are within
pub part_way : (p a : ℤ) (m most : ℕ) → unsigned_abs p ≤ most → unsigned_abs (p +ℤ a) ≤ most → unsigned_abs (p +ℤ toward_zero a m) ≤ most
part_way p (pos a) m most i j = by_natural p a (a / 2 ^ m) most (div-le_self a (2 ^ m)) i j
part_way p (negsuc a) m most i j = by_negative p a (suc a / 2 ^ m) most (div-le_self (suc a) (2 ^ m)) i j

abs_negative : (q most : ℕ) → q ≤ most → unsigned_abs (neg_ℤ (pos q)) ≤ most
abs_negative q most h = omega (arith, ints)

-- a quotient is no greater in size
smaller : (a : ℤ) (m most : ℕ) → unsigned_abs a ≤ most → unsigned_abs (toward_zero a m) ≤ most
smaller (pos a) m most h = let q : a / 2 ^ m ≤ a = div-le_self a (2 ^ m) in omega arith
smaller (negsuc a) m most h = abs_negative (suc a / 2 ^ m) most (let q : suc a / 2 ^ m ≤ suc a = div-le_self (suc a) (2 ^ m) in omega arith)

pub halved_displacement : (m : ℕ) (s : ShiftOf) → displacement_of (halved_shift m s).by ≡ halved_of m (displacement_of s.by)
halved_displacement m s = displacement_of-shift_by (halved_of m (displacement_of s.by)) (record {
  x_fits = smaller s.by.x m SHIFT_MAX s.by.in_range.x_fits;
  y_fits = smaller s.by.y m SHIFT_MAX s.by.in_range.y_fits;
  z_fits = smaller s.by.z m SHIFT_MAX s.by.in_range.z_fits;
})

-- ---- all of them
pub names_halved : (n : ℕ) (shifts : Shifts) → map (λ s. s.v) (halved_times n shifts) ≡ map (λ s. s.v) shifts
names_halved n [] = refl
names_halved n (s ∷ rest) = ap (λ ids. s.v ∷ ids) (names_halved n rest)

pub ends_halved : (m : Mesh) (n : ℕ) (shifts : Shifts) → end_in_box m shifts ≡ true → end_in_box m (halved_times n shifts) ≡ true
ends_halved m n [] e = refl
ends_halved m n (s ∷ rest) e =
    let parts = both_true (is_within BOX (plus (rest_positions m s.v) (displacement_of s.by))) (end_in_box m rest) e in
    let here = within_of BOX (plus (rest_positions m s.v) (displacement_of s.by)) parts.0 in
    let own = own_within m s.v in
    let inside : is_within BOX (plus (rest_positions m s.v) (halved_of n (displacement_of s.by))) ≡ true = of_within BOX (plus (rest_positions m s.v) (halved_of n (displacement_of s.by))) (record {
      x_fits = part_way (rest_positions m s.v).x s.by.x n BOX own.x_fits here.x_fits;
      y_fits = part_way (rest_positions m s.v).y s.by.y n BOX own.y_fits here.y_fits;
      z_fits = part_way (rest_positions m s.v).z s.by.z n BOX own.z_fits here.z_fits;
    }) in
    ap (λ b. b && end_in_box m (halved_times n rest)) (ap (λ d. is_within BOX (plus (rest_positions m s.v) d)) (halved_displacement n s) ∙ inside) ∙ ends_halved m n rest parts.1

pub names_at_rest : (shifts : Shifts) → map (λ s. s.v) (all_at_rest shifts) ≡ map (λ s. s.v) shifts
names_at_rest [] = refl
names_at_rest (s ∷ rest) = ap (λ ids. s.v ∷ ids) (names_at_rest rest)

pub ends_at_rest : (m : Mesh) (shifts : Shifts) → end_in_box m (all_at_rest shifts) ≡ true
ends_at_rest m [] = refl
ends_at_rest m (s ∷ rest) =
    ap (λ b. b && end_in_box m (all_at_rest rest)) (ap (is_within BOX) (plus-origin (rest_positions m s.v)) ∙ of_within BOX (rest_positions m s.v) (own_within m s.v)) ∙ ends_at_rest m rest

pub shift_at_rest : (shifts : Shifts) (v : ℕ) → shift_at (all_at_rest shifts) v ≡ origin
shift_at_rest [] v = refl
shift_at_rest (s ∷ rest) v = by_test (s.v == v) (shift_at_rest rest v)
  where
    by_test : (b : Bool) → shift_at (all_at_rest rest) v ≡ origin → unwrap_or (option_map (λ (x : ShiftOf). displacement_of x.by) (cond b (Some (at_rest s)) (find (λ x. x.v == v) (all_at_rest rest)))) origin ≡ origin
    by_test true h = refl
    by_test false h = h
