-- Positions along an axis, and along its opposite.
use Rattle.std.proofs.Common.{◌≡◌, ℤ, pos, ◌+ℤ◌, ◌*ℤ◌, ◌<ℤ◌, neg_ℤ, arith}
use Rattle.std.proofs.lemmas.Int.{ints}

pub neg_less : (a b : ℤ) → b <ℤ a → neg_ℤ a <ℤ neg_ℤ b
neg_less a b h = omega (arith, ints)

pub read_x : (x y z : ℤ) → pos 1 *ℤ x +ℤ pos 0 *ℤ y +ℤ pos 0 *ℤ z ≡ x
read_x x y z = omega (arith, ints)

pub read_y : (x y z : ℤ) → pos 0 *ℤ x +ℤ pos 1 *ℤ y +ℤ pos 0 *ℤ z ≡ y
read_y x y z = omega (arith, ints)

pub read_z : (x y z : ℤ) → pos 0 *ℤ x +ℤ pos 0 *ℤ y +ℤ pos 1 *ℤ z ≡ z
read_z x y z = omega (arith, ints)

pub minus_x : (x y z : ℤ) → neg_ℤ (pos 1) *ℤ x +ℤ neg_ℤ (pos 0) *ℤ y +ℤ neg_ℤ (pos 0) *ℤ z ≡ neg_ℤ x
minus_x x y z = omega (arith, ints)

pub minus_y : (x y z : ℤ) → neg_ℤ (pos 0) *ℤ x +ℤ neg_ℤ (pos 1) *ℤ y +ℤ neg_ℤ (pos 0) *ℤ z ≡ neg_ℤ y
minus_y x y z = omega (arith, ints)

pub minus_z : (x y z : ℤ) → neg_ℤ (pos 0) *ℤ x +ℤ neg_ℤ (pos 0) *ℤ y +ℤ neg_ℤ (pos 1) *ℤ z ≡ neg_ℤ z
minus_z x y z = omega (arith, ints)
