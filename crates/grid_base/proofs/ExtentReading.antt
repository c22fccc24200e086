-- The coordinates of an extent as the code reads them.
use Rattle.std.proofs.Common.{◌≡◌, ◌≤◌, ◌∙◌, refl, Bool, true, false, ◌&&◌, ℤ, to_z, of_z, SFits, arith, unsigned_abs}
use Rattle.std.specs.Int.{w128}
use Rattle.std.proofs.lemmas.Int.{ints, to_z-of_z}
use Rattle.grid_base.specs.declared.TheConstants.{EXTENT_MAX}
use Rattle.grid_base.specs.Extents.{meet_along, overlaps}
use Rattle.grid_base.specs.declared.extent.Extent.{Extent}

pub fits : (z : ℤ) → unsigned_abs z ≤ EXTENT_MAX → SFits w128 z
fits z h = omega (arith, ints)

pub exact : (z : ℤ) → unsigned_abs z ≤ EXTENT_MAX → to_z w128 (of_z w128 z) ≡ z
exact z h = to_z-of_z w128 z (fits z h)

abbrev pub read : ℤ → ℤ
read z = to_z w128 (of_z w128 z)

pub meet_along-read : (a b c d : ℤ) → unsigned_abs a ≤ EXTENT_MAX → unsigned_abs b ≤ EXTENT_MAX → unsigned_abs c ≤ EXTENT_MAX → unsigned_abs d ≤ EXTENT_MAX
    → meet_along (read a) (read b) (read c) (read d) ≡ meet_along a b c d
meet_along-read a b c d h i j k = rw (exact a h, exact b i, exact c j, exact d k) refl

both_true : (x y z r : Bool) → true ≡ x → true ≡ y → r ≡ z → r ≡ (x && y && z)
both_true x y z r h i j = cc

one_false : (x y z : Bool) → true ≡ x → false ≡ y → false ≡ (x && y && z)
one_false x y z h i = cc

module _ (e f : Extent) where
  abbrev pub Along : ℤ → ℤ → ℤ → ℤ → Bool → Type 0
  Along a b c d r = r ≡ meet_along (read a) (read b) (read c) (read d)

  pub overlaps-read : (r : Bool) → Along e.low.x e.high.x f.low.x f.high.x true → Along e.low.y e.high.y f.low.y f.high.y true → Along e.low.z e.high.z f.low.z f.high.z r → r ≡ overlaps e f
  overlaps-read r x y z =
      let p = e.ordered in let q = f.ordered in
      both_true _ _ _ r
      (x ∙ meet_along-read e.low.x e.high.x f.low.x f.high.x p.low_fits.x_fits p.high_fits.x_fits q.low_fits.x_fits q.high_fits.x_fits)
      (y ∙ meet_along-read e.low.y e.high.y f.low.y f.high.y p.low_fits.y_fits p.high_fits.y_fits q.low_fits.y_fits q.high_fits.y_fits)
      (z ∙ meet_along-read e.low.z e.high.z f.low.z f.high.z p.low_fits.z_fits p.high_fits.z_fits q.low_fits.z_fits q.high_fits.z_fits)

  pub overlaps-not : Along e.low.x e.high.x f.low.x f.high.x true → Along e.low.y e.high.y f.low.y f.high.y false → false ≡ overlaps e f
  overlaps-not x y =
      let p = e.ordered in let q = f.ordered in
      one_false _ _ _
      (x ∙ meet_along-read e.low.x e.high.x f.low.x f.high.x p.low_fits.x_fits p.high_fits.x_fits q.low_fits.x_fits q.high_fits.x_fits)
      (y ∙ meet_along-read e.low.y e.high.y f.low.y f.high.y p.low_fits.y_fits p.high_fits.y_fits q.low_fits.y_fits q.high_fits.y_fits)
