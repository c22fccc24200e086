-- Numbers that fit their type are read as they were written.
use Rattle.std.proofs.Common.{◌≡◌, ◌≤◌, ◌^◌, ◌+◌, ◌*◌, ◌+ℤ◌, ◌-ℤ◌, ◌∙◌, ap, sym, subst, ℕ, ℤ, pos, int_div, unsigned_abs, to_z, of_z, SFits, arith}
use Rattle.std.specs.Int.{w32, w128}
use Rattle.std.proofs.lemmas.Int.{ints, to_z-of_z, fits_signed_from_abs}
use Rattle.grid_base.specs.declared.TheConstants.{BOX}

pub wide_held : (z : ℤ) → unsigned_abs z ≤ 2 ^ 101 → to_z w128 (of_z w128 z) ≡ z
wide_held z h = to_z-of_z w128 z (fits_signed_from_abs w128 z (omega (arith, h)))

pub coordinate_held : (z : ℤ) → unsigned_abs z ≤ BOX → to_z w32 (of_z w32 z) ≡ z
coordinate_held z h = to_z-of_z w32 z (fits_signed_from_abs w32 z (omega (arith, h)))

-- a sum with a difference added, as it is read and written
pub added_held : (sum from to result : ℤ) → unsigned_abs sum ≤ 2 ^ 100 → unsigned_abs from ≤ BOX → unsigned_abs to ≤ BOX →
    result ≡ to_z w128 (of_z w128 sum) +ℤ (to_z w32 (of_z w32 to) -ℤ to_z w32 (of_z w32 from)) → unsigned_abs result ≤ unsigned_abs (to_z w128 (of_z w128 sum)) + 2 * BOX →
    to_z w128 (of_z w128 result) ≡ sum +ℤ (to -ℤ from)
added_held sum from to result few near there value within =
    let held : to_z w128 (of_z w128 sum) ≡ sum = wide_held sum (omega (arith, few)) in
    let size = ap unsigned_abs held in
    wide_held result (omega (arith, within, size, few))
    ∙ value
    ∙ (λ i. held i +ℤ (coordinate_held to there i -ℤ coordinate_held from near i))

-- a coordinate moved by a part of a sum, as it is read and written
module _ (here sum : ℤ) (n : ℕ) (near : unsigned_abs here ≤ BOX) (few : unsigned_abs sum ≤ 2 ^ 100) (stays : unsigned_abs (here +ℤ int_div sum (pos (8 * n))) ≤ BOX) where
  read : to_z w32 (of_z w32 here) +ℤ int_div (to_z w128 (of_z w128 sum)) (pos (8 * n)) ≡ here +ℤ int_div sum (pos (8 * n))
  read = λ i. coordinate_held here near i +ℤ int_div (wide_held sum (omega (arith, few)) i) (pos (8 * n))

  pub may_be_moved : unsigned_abs (to_z w32 (of_z w32 here) +ℤ int_div (to_z w128 (of_z w128 sum)) (pos (8 * n))) ≤ BOX
  may_be_moved = subst (λ z. unsigned_abs z ≤ BOX) (sym read) stays

  pub moved_held : (result : ℤ) → result ≡ to_z w32 (of_z w32 here) +ℤ int_div (to_z w128 (of_z w128 sum)) (pos (8 * n)) → to_z w32 (of_z w32 result) ≡ here +ℤ int_div sum (pos (8 * n))
  moved_held result e = coordinate_held result (subst (λ z. unsigned_abs z ≤ BOX) (sym (e ∙ read)) stays) ∙ e ∙ read

  pub moved_stays : (result : ℤ) → result ≡ to_z w32 (of_z w32 here) +ℤ int_div (to_z w128 (of_z w128 sum)) (pos (8 * n)) → unsigned_abs (to_z w32 (of_z w32 result)) ≤ BOX
  moved_stays result e = subst (λ z. unsigned_abs z ≤ BOX) (sym (moved_held result e)) stays

-- the sum of a coordinate and a part, as it is read and written
module _ (here part from eighth : ℤ) (fits : SFits w32 here) (from_is : from ≡ to_z w32 (of_z w32 here)) (eighth_is : eighth ≡ part) (stays : unsigned_abs (here +ℤ part) ≤ BOX) where
  -- the two as they are read
  abbrev two : ℤ
  two = to_z w128 (of_z w128 from) +ℤ to_z w128 (of_z w128 eighth)

  two_are : two ≡ here +ℤ part
  two_are =
      let small : unsigned_abs here ≤ 2 ^ 31 = omega (arith, ints, fits) in
      let few : unsigned_abs part ≤ 2 ^ 33 = omega (arith, ints, small, stays) in
      let first = ap (λ z. to_z w128 (of_z w128 z)) (from_is ∙ to_z-of_z w32 here fits) ∙ wide_held here (omega (arith, small)) in
      let second = ap (λ z. to_z w128 (of_z w128 z)) eighth_is ∙ wide_held part (omega (arith, few)) in
      λ i. first i +ℤ second i

  held : to_z w128 (of_z w128 two) ≡ here +ℤ part
  held = ap (λ z. to_z w128 (of_z w128 z)) two_are ∙ wide_held (here +ℤ part) (omega (arith, stays))

  pub sum_fits : SFits w128 two
  sum_fits = subst (SFits w128) (sym two_are) (fits_signed_from_abs w128 (here +ℤ part) (omega (arith, stays)))

  pub cast_fits : SFits w32 (to_z w128 (of_z w128 two))
  cast_fits = subst (SFits w32) (sym held) (fits_signed_from_abs w32 (here +ℤ part) (omega (arith, stays)))

  pub sum_held : to_z w32 (of_z w32 (to_z w128 (of_z w128 two))) ≡ here +ℤ part
  sum_held = ap (λ z. to_z w32 (of_z w32 z)) held ∙ coordinate_held (here +ℤ part) stays
