-- Numbers in the words of a machine.
use Rattle.std.proofs.Common.{◌≡◌, ℤ, ◌≤◌, ◌≤ℤ◌, ◌∙◌, ap, to_z, of_z, SFits, unsigned_abs, arith}
use Rattle.std.specs.Int.{w128}
use Rattle.std.proofs.lemmas.Int.{ints, to_z-of_z}
use Rattle.grid_base.specs.declared.TheConstants.{HALF_MAX, EXTENT_MAX}
use Rattle.grid_base.specs.declared.narrow.TheConstants.{TOTAL_MAX}
use Rattle.grid_base.specs.Ordered.{AreOrdered}
use Rattle.grid_base.specs.Triples.{Triple, IsWithin}

fits_128 : (z : ℤ) → unsigned_abs z ≤ EXTENT_MAX → SFits w128 z
fits_128 z h = omega (arith, ints)

pub word : (z : ℤ) → unsigned_abs z ≤ EXTENT_MAX → to_z w128 (of_z w128 z) ≡ z
word z h = to_z-of_z w128 z (fits_128 z h)

-- a position that is read component by component is the position
pub record IsRead (t p : Triple) : Type 0 where
  pub x : to_z w128 (of_z w128 t.x) ≡ p.x
  pub y : to_z w128 (of_z w128 t.y) ≡ p.y
  pub z : to_z w128 (of_z w128 t.z) ≡ p.z

pub is_read : (t p : Triple) → t ≡ p → IsWithin HALF_MAX t → IsRead t p
is_read t p is h = record {
  x = word t.x (omega (arith, h.x_fits)) ∙ ap (λ (s : Triple). s.x) is;
  y = word t.y (omega (arith, h.y_fits)) ∙ ap (λ (s : Triple). s.y) is;
  z = word t.z (omega (arith, h.z_fits)) ∙ ap (λ (s : Triple). s.z) is;
}

order : (a b : ℤ) → unsigned_abs a ≤ EXTENT_MAX → unsigned_abs b ≤ EXTENT_MAX → a ≤ℤ b → to_z w128 (of_z w128 a) ≤ℤ to_z w128 (of_z w128 b)
order a b h i le = rw (word a h, word b i) le

within : (a : ℤ) → unsigned_abs a ≤ EXTENT_MAX → unsigned_abs (to_z w128 (of_z w128 a)) ≤ EXTENT_MAX
within a h = rw (word a h) h

trans_z : (a b c : ℤ) → a ≤ℤ b → b ≤ℤ c → a ≤ℤ c
trans_z a b c h i = omega (arith, ints)

-- a low corner and a high one, with a position between them
pub ordered_about : (p low high : Triple) → IsWithin EXTENT_MAX low → IsWithin EXTENT_MAX high → low.x ≤ℤ p.x → low.y ≤ℤ p.y → low.z ≤ℤ p.z → p.x ≤ℤ high.x → p.y ≤ℤ high.y → p.z ≤ℤ high.z
    → AreOrdered (record { x = to_z w128 (of_z w128 low.x); y = to_z w128 (of_z w128 low.y); z = to_z w128 (of_z w128 low.z) }) (record { x = to_z w128 (of_z w128 high.x); y = to_z w128 (of_z w128 high.y); z = to_z w128 (of_z w128 high.z) })
ordered_about p low high h i lx ly lz hx hy hz = record {
  x_order = order low.x high.x h.x_fits i.x_fits (trans_z low.x p.x high.x lx hx);
  y_order = order low.y high.y h.y_fits i.y_fits (trans_z low.y p.y high.y ly hy);
  z_order = order low.z high.z h.z_fits i.z_fits (trans_z low.z p.z high.z lz hz);
  low_fits = record { x_fits = within low.x h.x_fits; y_fits = within low.y h.y_fits; z_fits = within low.z h.z_fits };
  high_fits = record { x_fits = within high.x i.x_fits; y_fits = within high.y i.y_fits; z_fits = within high.z i.z_fits };
}

-- a number of half the size
pub half_word : (z : ℤ) → unsigned_abs z ≤ HALF_MAX → to_z w128 (of_z w128 z) ≡ z
half_word z h = word z (omega (arith, h))

pub half_within : (z : ℤ) → unsigned_abs z ≤ HALF_MAX → unsigned_abs (to_z w128 (of_z w128 z)) ≤ HALF_MAX
half_within z h = rw (half_word z h) h

-- a dot product of a direction and a position
fits_total : (z : ℤ) → unsigned_abs z ≤ TOTAL_MAX → SFits w128 z
fits_total z h = omega (arith, ints)

pub total_word : (z : ℤ) → unsigned_abs z ≤ TOTAL_MAX → to_z w128 (of_z w128 z) ≡ z
total_word z h = to_z-of_z w128 z (fits_total z h)

pub total_within : (z : ℤ) → unsigned_abs z ≤ TOTAL_MAX → unsigned_abs (to_z w128 (of_z w128 z)) ≤ TOTAL_MAX
total_within z h = rw (total_word z h) h
