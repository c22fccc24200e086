-- Boxes from the least and the greatest components.
use Rattle.std.proofs.Common.{◌≡◌, ℤ, ◌≤◌, ◌≤ℤ◌, subst, sym, to_z, of_z, SFits, unsigned_abs, arith}
use Rattle.std.specs.Int.{w128}
use Rattle.std.proofs.lemmas.Int.{ints, to_z-of_z}
use Rattle.grid_base.specs.Triples.{Triple, IsWithin}
use Rattle.grid_base.specs.declared.extent.Extent.{Extent}
use Rattle.grid_base.specs.declared.TheConstants.{HALF_MAX, EXTENT_MAX}
use Rattle.grid_base.specs.Ordered.{AreOrdered, IsUnder}
use Rattle.grid_base.specs.Extents.{IsIn}

pub weaker : (a : Triple) → IsWithin HALF_MAX a → IsWithin EXTENT_MAX a
weaker a h = record { x_fits = omega (arith, h.x_fits); y_fits = omega (arith, h.y_fits); z_fits = omega (arith, h.z_fits) }

trans_z : (a b c : ℤ) → a ≤ℤ b → b ≤ℤ c → a ≤ℤ c
trans_z a b c h i = omega (arith, ints)

refl_z : (a : ℤ) → a ≤ℤ a
refl_z a = omega (arith, ints)

IsUnder-refl : (a : Triple) → IsUnder a a
IsUnder-refl a = record { x = refl_z a.x; y = refl_z a.y; z = refl_z a.z }

pub IsUnder-trans : (a b c : Triple) → IsUnder a b → IsUnder b c → IsUnder a c
IsUnder-trans a b c h i = record { x = trans_z a.x b.x c.x h.x i.x; y = trans_z a.y b.y c.y h.y i.y; z = trans_z a.z b.z c.z h.z i.z }

pub ordered_from : (low high : Triple) → IsUnder low high → IsWithin EXTENT_MAX low → IsWithin EXTENT_MAX high → AreOrdered low high
ordered_from low high h i j = record { x_order = h.x; y_order = h.y; z_order = h.z; low_fits = i; high_fits = j }

pub IsIn-from : (e : Extent) (p : Triple) → IsUnder e.low p → IsUnder p e.high → IsIn e p
IsIn-from e p h i = record { x_low = h.x; x_high = i.x; y_low = h.y; y_high = i.y; z_low = h.z; z_high = i.z }

pub under_low : (e : Extent) (p : Triple) → IsIn e p → IsUnder e.low p
under_low e p h = record { x = h.x_low; y = h.y_low; z = h.z_low }

pub under_high : (e : Extent) (p : Triple) → IsIn e p → IsUnder p e.high
under_high e p h = record { x = h.x_high; y = h.y_high; z = h.z_high }

pub corners_under : (e : Extent) → IsUnder e.low e.high
corners_under e = let o = e.ordered in record { x = o.x_order; y = o.y_order; z = o.z_order }

pub low_is_in : (e : Extent) → IsIn e e.low
low_is_in e = IsIn-from e e.low (IsUnder-refl e.low) (corners_under e)

pub high_is_in : (e : Extent) → IsIn e e.high
high_is_in e = IsIn-from e e.high (corners_under e) (IsUnder-refl e.high)

-- in the words of a machine
fits_128 : (z : ℤ) → unsigned_abs z ≤ EXTENT_MAX → SFits w128 z
fits_128 z h = omega (arith, ints)

word : (z : ℤ) → unsigned_abs z ≤ EXTENT_MAX → to_z w128 (of_z w128 z) ≡ z
word z h = to_z-of_z w128 z (fits_128 z h)

pub above_word : (n z : ℤ) → unsigned_abs z ≤ EXTENT_MAX → n ≤ℤ z → n ≤ℤ to_z w128 (of_z w128 z)
above_word n z f h = subst (λ y. n ≤ℤ y) (sym (word z f)) h

pub below_word : (n z : ℤ) → unsigned_abs z ≤ EXTENT_MAX → z ≤ℤ n → to_z w128 (of_z w128 z) ≤ℤ n
below_word n z f h = subst (λ y. y ≤ℤ n) (sym (word z f)) h
