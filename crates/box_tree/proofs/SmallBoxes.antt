-- Extents in 32 bits a coordinate.
use Rattle.std.proofs.Common.{◌≡◌, ◌∙◌, sym, refl, subst, Bool, true, false, ◌&&◌, ◌≤◌, ℤ, ◌≤ℤ◌, to_z, of_z, SFits, arith, unsigned_abs}
use Rattle.std.specs.Int.{w32, w128}
use Rattle.std.proofs.lemmas.Int.{ints, to_z-of_z}
use Rattle.std.proofs.Math.Bridge.{le_prop}
use Rattle.std.proofs.Math.Dec.{T_prop}
use Rattle.grid_base.specs.declared.TheConstants.{EXTENT_MAX}
use Rattle.grid_base.specs.Triples.{Triple}
use Rattle.grid_base.specs.Ordered.{AreOrdered}
use Rattle.grid_base.specs.Extents.{meet_along, overlaps}
use Rattle.grid_base.specs.declared.Extent.{Extent}

-- ---- an extent is its corners
one_order : (a b : ℤ) (p q : a ≤ℤ b) → p ≡ q
one_order a b p q = λ i. record { le = T_prop _ p.le q.le i }

one_proof : (low high : Triple) (p q : AreOrdered low high) → p ≡ q
one_proof low high p q = λ i. record {
  x_order = one_order _ _ p.x_order q.x_order i;
  y_order = one_order _ _ p.y_order q.y_order i;
  z_order = one_order _ _ p.z_order q.z_order i;
  low_fits = record { x_fits = le_prop p.low_fits.x_fits q.low_fits.x_fits i; y_fits = le_prop p.low_fits.y_fits q.low_fits.y_fits i; z_fits = le_prop p.low_fits.z_fits q.low_fits.z_fits i };
  high_fits = record { x_fits = le_prop p.high_fits.x_fits q.high_fits.x_fits i; y_fits = le_prop p.high_fits.y_fits q.high_fits.y_fits i; z_fits = le_prop p.high_fits.z_fits q.high_fits.z_fits i };
}

same_corners : (e : Extent) (low high : Triple) (o : AreOrdered low high) → low ≡ e.low → high ≡ e.high → ◌≡◌ {A = Extent} (record { low = low; high = high; ordered = o }) e
same_corners e low high o l h =
    subst (λ (a : Triple). (p : AreOrdered a high) → ◌≡◌ {A = Extent} (record { low = a; high = high; ordered = p }) e) (sym l)
    (subst (λ (b : Triple). (p : AreOrdered e.low b) → ◌≡◌ {A = Extent} (record { low = e.low; high = b; ordered = p }) e) (sym h)
    (λ p i. record { low = e.low; high = e.high; ordered = one_proof e.low e.high p e.ordered i })) o

-- six numbers are the coordinates of an extent's corners
pub record AreCorners (e : Extent) (a b c d g h : ℤ) : Type 0 where
  low_x : a ≡ e.low.x
  low_y : b ≡ e.low.y
  low_z : c ≡ e.low.z
  high_x : d ≡ e.high.x
  high_y : g ≡ e.high.y
  high_z : h ≡ e.high.z

module _ (e : Extent) (a b c d g h : ℤ) (are : AreCorners e a b c d g h) where
  is_low : ◌≡◌ {A = Triple} (record { x = a; y = b; z = c }) e.low
  is_low = λ i. record { x = are.low_x i; y = are.low_y i; z = are.low_z i }

  is_high : ◌≡◌ {A = Triple} (record { x = d; y = g; z = h }) e.high
  is_high = λ i. record { x = are.high_x i; y = are.high_y i; z = are.high_z i }

  pub ordered_as : AreOrdered (record { x = a; y = b; z = c }) (record { x = d; y = g; z = h })
  ordered_as = subst (λ (l : Triple). AreOrdered l (record { x = d; y = g; z = h })) (sym is_low) (subst (λ (u : Triple). AreOrdered e.low u) (sym is_high) e.ordered)

  pub extent_is : (o : AreOrdered (record { x = a; y = b; z = c }) (record { x = d; y = g; z = h })) → ◌≡◌ {A = Extent} (record { low = record { x = a; y = b; z = c }; high = record { x = d; y = g; z = h }; ordered = o }) e
  extent_is o = same_corners e (record { x = a; y = b; z = c }) (record { x = d; y = g; z = h }) o is_low is_high

-- ---- no coordinate is lost
fits_32 : (z : ℤ) → unsigned_abs z ≤ EXTENT_MAX → SFits w32 z
fits_32 z h = omega (arith, ints)

fits_128 : (z : ℤ) → unsigned_abs z ≤ EXTENT_MAX → SFits w128 z
fits_128 z h = omega (arith, ints)

abbrev pub read : ℤ → ℤ
read z = to_z w32 (of_z w32 z)

pub exact : (z : ℤ) → unsigned_abs z ≤ EXTENT_MAX → read z ≡ z
exact z h = to_z-of_z w32 z (fits_32 z h)

narrowed : (z : ℤ) → unsigned_abs z ≤ EXTENT_MAX → read (to_z w128 (of_z w128 z)) ≡ z
narrowed z h = rw (to_z-of_z w128 z (fits_128 z h)) (exact z h)

widened : (z w : ℤ) → unsigned_abs z ≤ EXTENT_MAX → w ≡ read z → to_z w128 (of_z w128 w) ≡ z
widened z w h is = rw (is, exact z h) (to_z-of_z w128 z (fits_128 z h))

pub narrowed_corners : (e : Extent) → let n : ℤ → ℤ = λ z. read (to_z w128 (of_z w128 z)) in AreCorners e (n e.low.x) (n e.low.y) (n e.low.z) (n e.high.x) (n e.high.y) (n e.high.z)
narrowed_corners e = let o = e.ordered in record {
  low_x = narrowed e.low.x o.low_fits.x_fits;
  low_y = narrowed e.low.y o.low_fits.y_fits;
  low_z = narrowed e.low.z o.low_fits.z_fits;
  high_x = narrowed e.high.x o.high_fits.x_fits;
  high_y = narrowed e.high.y o.high_fits.y_fits;
  high_z = narrowed e.high.z o.high_fits.z_fits;
}

pub widened_corners : (e : Extent) (a b c d g h : ℤ) → a ≡ read e.low.x → b ≡ read e.low.y → c ≡ read e.low.z → d ≡ read e.high.x → g ≡ read e.high.y → h ≡ read e.high.z
    → let n : ℤ → ℤ = λ z. to_z w128 (of_z w128 z) in AreCorners e (n a) (n b) (n c) (n d) (n g) (n h)
widened_corners e a b c d g h p q r s t u = let o = e.ordered in record {
  low_x = widened e.low.x a o.low_fits.x_fits p;
  low_y = widened e.low.y b o.low_fits.y_fits q;
  low_z = widened e.low.z c o.low_fits.z_fits r;
  high_x = widened e.high.x d o.high_fits.x_fits s;
  high_y = widened e.high.y g o.high_fits.y_fits t;
  high_z = widened e.high.z h o.high_fits.z_fits u;
}

-- ---- the test of a common point
meet_along-read : (a b c d : ℤ) → unsigned_abs a ≤ EXTENT_MAX → unsigned_abs b ≤ EXTENT_MAX → unsigned_abs c ≤ EXTENT_MAX → unsigned_abs d ≤ EXTENT_MAX
    → meet_along (read a) (read b) (read c) (read d) ≡ meet_along a b c d
meet_along-read a b c d h i j k = rw (exact a h, exact b i, exact c j, exact d k) refl

both_true : (x y z r : Bool) → true ≡ x → true ≡ y → r ≡ z → r ≡ (x && y && z)
both_true x y z r h i j = cc

one_false : (x y z : Bool) → true ≡ x → false ≡ y → false ≡ (x && y && z)
one_false x y z h i = cc

module _ (e f : Extent) where
  abbrev Along : ℤ → ℤ → ℤ → ℤ → Bool → Type 0
  Along a b c d r = r ≡ meet_along (read a) (read b) (read c) (read d)

  pub overlaps-read : (r : Bool) → Along e.low.x e.high.x f.low.x f.high.x true → Along e.low.y e.high.y f.low.y f.high.y true → Along e.low.z e.high.z f.low.z f.high.z r → r ≡ overlaps e f
  overlaps-read r x y z =
      let p = e.ordered in let q = f.ordered in
      both_true _ _ _ r
      (x ∙ meet_along-read e.low.x e.high.x f.low.x f.high.x p.low_fits.x_fits p.high_fits.x_fits q.low_fits.x_fits q.high_fits.x_fits)
      (y ∙ meet_along-read e.low.y e.high.y f.low.y f.high.y p.low_fits.y_fits p.high_fits.y_fits q.low_fits.y_fits q.high_fits.y_fits)
      (z ∙ meet_along-read e.low.z e.high.z f.low.z f.high.z p.low_fits.z_fits p.high_fits.z_fits q.low_fits.z_fits q.high_fits.z_fits)

  pub overlaps-not : Along e.low.x e.high.x f.low.x f.high.x true → Along e.low.y e.high.y f.low.y f.high.y false → false ≡ overlaps e f
  overlaps-not x y =
      let p = e.ordered in let q = f.ordered in
      one_false _ _ _
      (x ∙ meet_along-read e.low.x e.high.x f.low.x f.high.x p.low_fits.x_fits p.high_fits.x_fits q.low_fits.x_fits q.high_fits.x_fits)
      (y ∙ meet_along-read e.low.y e.high.y f.low.y f.high.y p.low_fits.y_fits p.high_fits.y_fits q.low_fits.y_fits q.high_fits.y_fits)
