-- The point that stands where a point stands is that point, and the shift of a shift's displacement is that shift.
use Rattle.std.proofs.Common.{◌≡◌, ℕ, Bool, true, false, ◌&&◌, nat_le, unsigned_abs, refl, sym, ◌∙◌}
use Rattle.std.proofs.lemmas.Bool.{false≢true, le-leb, leb-true}
use Rattle.std.proofs.Math.Bridge.{le_prop}
use Rattle.grid_base.specs.declared.TheConstants.{BOX, SHIFT_MAX}
use Rattle.grid_base.specs.declared.grid.Point.{Point}
use Rattle.grid_base.specs.declared.grid.Shift.{Shift}
use Rattle.grid_base.specs.Components.{FitWithin}
use Rattle.grid_base.specs.Triples.{Triple, IsWithin}
use Rattle.grid_base.specs.Points.{position_of, displacement_of, is_within, point_at, point_by_tests, shift_by, shift_by_tests}

pub same_point : (p : Point) (h : FitWithin BOX p.x p.y p.z) → ◌≡◌ {A = Point} (record { x = p.x; y = p.y; z = p.z; in_box = h }) p
same_point p h = λ i. record { x = p.x; y = p.y; z = p.z; in_box = one_proof h p.in_box i }
  where
    one_proof : (g h : FitWithin BOX p.x p.y p.z) → g ≡ h
    one_proof = hlevel le_prop

pub same_shift : (s : Shift) (h : FitWithin SHIFT_MAX s.x s.y s.z) → ◌≡◌ {A = Shift} (record { x = s.x; y = s.y; z = s.z; in_range = h }) s
same_shift s h = λ i. record { x = s.x; y = s.y; z = s.z; in_range = one_proof h s.in_range i }
  where
    one_proof : (g h : FitWithin SHIFT_MAX s.x s.y s.z) → g ≡ h
    one_proof = hlevel le_prop

point_by : (p : Point) (a b c : Bool) (x : nat_le (unsigned_abs p.x) BOX ≡ a) (y : nat_le (unsigned_abs p.y) BOX ≡ b) (z : nat_le (unsigned_abs p.z) BOX ≡ c) → point_by_tests (position_of p) a b c x y z ≡ p
point_by p true true true x y z = same_point p _
point_by p true true false x y z = absurd (false≢true (sym z ∙ le-leb _ _ p.in_box.z_fits))
point_by p true false c x y z = absurd (false≢true (sym y ∙ le-leb _ _ p.in_box.y_fits))
point_by p false b c x y z = absurd (false≢true (sym x ∙ le-leb _ _ p.in_box.x_fits))

pub point_at-position_of : (p : Point) → point_at (position_of p) ≡ p
point_at-position_of p = point_by p _ _ _ refl refl refl

shift_with : (s : Shift) (a b c : Bool) (x : nat_le (unsigned_abs s.x) SHIFT_MAX ≡ a) (y : nat_le (unsigned_abs s.y) SHIFT_MAX ≡ b) (z : nat_le (unsigned_abs s.z) SHIFT_MAX ≡ c) → shift_by_tests (displacement_of s) a b c x y z ≡ s
shift_with s true true true x y z = same_shift s _
shift_with s true true false x y z = absurd (false≢true (sym z ∙ le-leb _ _ s.in_range.z_fits))
shift_with s true false c x y z = absurd (false≢true (sym y ∙ le-leb _ _ s.in_range.y_fits))
shift_with s false b c x y z = absurd (false≢true (sym x ∙ le-leb _ _ s.in_range.x_fits))

pub shift_by-displacement_of : (s : Shift) → shift_by (displacement_of s) ≡ s
shift_by-displacement_of s = shift_with s _ _ _ refl refl refl

-- within the limits nothing is lost
position_by : (t : Triple) (w : IsWithin BOX t) (a b c : Bool) (x : nat_le (unsigned_abs t.x) BOX ≡ a) (y : nat_le (unsigned_abs t.y) BOX ≡ b) (z : nat_le (unsigned_abs t.z) BOX ≡ c) → position_of (point_by_tests t a b c x y z) ≡ t
position_by t w true true true x y z = refl
position_by t w true true false x y z = absurd (false≢true (sym z ∙ le-leb _ _ w.z_fits))
position_by t w true false c x y z = absurd (false≢true (sym y ∙ le-leb _ _ w.y_fits))
position_by t w false b c x y z = absurd (false≢true (sym x ∙ le-leb _ _ w.x_fits))

pub position_of-point_at : (t : Triple) → IsWithin BOX t → position_of (point_at t) ≡ t
position_of-point_at t w = position_by t w _ _ _ refl refl refl

displacement_by : (t : Triple) (w : IsWithin SHIFT_MAX t) (a b c : Bool) (x : nat_le (unsigned_abs t.x) SHIFT_MAX ≡ a) (y : nat_le (unsigned_abs t.y) SHIFT_MAX ≡ b) (z : nat_le (unsigned_abs t.z) SHIFT_MAX ≡ c) → displacement_of (shift_by_tests t a b c x y z) ≡ t
displacement_by t w true true true x y z = refl
displacement_by t w true true false x y z = absurd (false≢true (sym z ∙ le-leb _ _ w.z_fits))
displacement_by t w true false c x y z = absurd (false≢true (sym y ∙ le-leb _ _ w.y_fits))
displacement_by t w false b c x y z = absurd (false≢true (sym x ∙ le-leb _ _ w.x_fits))

pub displacement_of-shift_by : (t : Triple) → IsWithin SHIFT_MAX t → displacement_of (shift_by t) ≡ t
displacement_of-shift_by t w = displacement_by t w _ _ _ refl refl refl

-- the test of sizes says what the fact says
both : (a b c : Bool) → (a && b && c) ≡ true → (a ≡ true) × (b ≡ true) × (c ≡ true)
both true true true e = (refl, refl, refl)
both true true false e = absurd (false≢true e)
both true false c e = absurd (false≢true e)
both false b c e = absurd (false≢true e)

pub within_of : (most : ℕ) (t : Triple) → is_within most t ≡ true → IsWithin most t
within_of most t e =
    let each = both _ _ _ e in
    record { x_fits = leb-true _ _ each.0; y_fits = leb-true _ _ each.1; z_fits = leb-true _ _ each.2 }

all : (a b c : Bool) → a ≡ true → b ≡ true → c ≡ true → (a && b && c) ≡ true
all a b c x y z = cc

pub of_within : (most : ℕ) (t : Triple) → IsWithin most t → is_within most t ≡ true
of_within most t w = all _ _ _ (le-leb _ _ w.x_fits) (le-leb _ _ w.y_fits) (le-leb _ _ w.z_fits)
