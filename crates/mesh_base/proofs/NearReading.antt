-- The coordinates of a box and of positions as the code reads them.
use Rattle.std.proofs.Common.{◌≡◌, ◌≤◌, ◌∙◌, refl, Bool, true, false, ◌&&◌, ℤ, arith, unsigned_abs}
use Rattle.grid_base.specs.Triples.{Triple, IsWithin}
use Rattle.grid_base.specs.declared.TheConstants.{HALF_MAX, EXTENT_MAX}
use Rattle.grid_base.specs.declared.Extent.{Extent}
use Rattle.grid_base.proofs.ExtentReading.{read, exact}
use Rattle.mesh_base.specs.Near.{reach_along, box_meets}

wider : (z : ℤ) → unsigned_abs z ≤ HALF_MAX → unsigned_abs z ≤ EXTENT_MAX
wider z h = omega arith

abbrev pub Along : ℤ → ℤ → ℤ → ℤ → ℤ → Bool → Type 0
Along low high a b c r = r ≡ reach_along (read low) (read high) (read a) (read b) (read c)

reach-read : (low high a b c : ℤ) → unsigned_abs low ≤ EXTENT_MAX → unsigned_abs high ≤ EXTENT_MAX → unsigned_abs a ≤ HALF_MAX → unsigned_abs b ≤ HALF_MAX → unsigned_abs c ≤ HALF_MAX
    → reach_along (read low) (read high) (read a) (read b) (read c) ≡ reach_along low high a b c
reach-read low high a b c l h i j k = rw (exact low l, exact high h, exact a (wider a i), exact b (wider b j), exact c (wider c k)) refl

all_true : (x y z r : Bool) → true ≡ x → true ≡ y → r ≡ z → r ≡ (x && y && z)
all_true x y z r h i j = cc

first_false : (x y z : Bool) → false ≡ x → false ≡ (x && y && z)
first_false x y z h = cc

second_false : (x y z : Bool) → true ≡ x → false ≡ y → false ≡ (x && y && z)
second_false x y z h i = cc

module _ (at : Extent) (p q r : Triple) (pf : IsWithin HALF_MAX p) (qf : IsWithin HALF_MAX q) (rf : IsWithin HALF_MAX r) where
  along_x : (b : Bool) → Along at.low.x at.high.x p.x q.x r.x b → b ≡ reach_along at.low.x at.high.x p.x q.x r.x
  along_x b h = h ∙ reach-read at.low.x at.high.x p.x q.x r.x at.ordered.low_fits.x_fits at.ordered.high_fits.x_fits pf.x_fits qf.x_fits rf.x_fits

  along_y : (b : Bool) → Along at.low.y at.high.y p.y q.y r.y b → b ≡ reach_along at.low.y at.high.y p.y q.y r.y
  along_y b h = h ∙ reach-read at.low.y at.high.y p.y q.y r.y at.ordered.low_fits.y_fits at.ordered.high_fits.y_fits pf.y_fits qf.y_fits rf.y_fits

  along_z : (b : Bool) → Along at.low.z at.high.z p.z q.z r.z b → b ≡ reach_along at.low.z at.high.z p.z q.z r.z
  along_z b h = h ∙ reach-read at.low.z at.high.z p.z q.z r.z at.ordered.low_fits.z_fits at.ordered.high_fits.z_fits pf.z_fits qf.z_fits rf.z_fits

  pub meets-read : (b : Bool) → Along at.low.x at.high.x p.x q.x r.x true → Along at.low.y at.high.y p.y q.y r.y true → Along at.low.z at.high.z p.z q.z r.z b → b ≡ box_meets at p q r
  meets-read b x y z = all_true _ _ _ b (along_x true x) (along_y true y) (along_z b z)

  pub misses-x : Along at.low.x at.high.x p.x q.x r.x false → false ≡ box_meets at p q r
  misses-x x = first_false _ _ _ (along_x false x)

  pub misses-y : Along at.low.x at.high.x p.x q.x r.x true → Along at.low.y at.high.y p.y q.y r.y false → false ≡ box_meets at p q r
  misses-y x y = second_false _ _ _ (along_x true x) (along_y false y)
