-- Two extents with a common point touch a common cell, and a span has each cell that its extent touches.
use Rattle.std.proofs.Common.{◌≡◌, ⊎_elim, ℕ, ◌+◌, ◌-◌, ◌*◌, ◌/◌, ◌%◌, ◌<◌, ◌≤◌, sym, refl, ap, Bool, true, false, ℤ, pos, ◌≤ℤ◌, ◌<ℤ◌, ◌↔◌, ◌+ℤ◌, arith, unsigned_abs, int_le, T, subst}
use Rattle.std.proofs.lemmas.Int.{ints, by_lt_z}
use Rattle.std.proofs.lemmas.Nat.{le-div, div-mul-add, mod-mul-add, mul-add-lt}
use Rattle.std.proofs.lemmas.Bool.{and_parts, and_from, cases_lt}
use Rattle.std.proofs.Math.Nat.{div-mul-le_self}
use Rattle.grid_base.specs.declared.TheConstants.{EXTENT_MAX}
use Rattle.grid_base.specs.Extents.{meet_along, overlaps, HaveCommonPoint}
use Rattle.grid_base.specs.declared.Extent.{Extent}
use Rattle.cell_grid.specs.declared.cells.Cell.{Cell}
use Rattle.cell_grid.specs.declared.cells.Span.{Span}
use Rattle.cell_grid.specs.Cells.{place_along, Touches, Covers, nth_cell}

div_mono : (a b k : ℕ) → 0 < k → a ≤ b → a / k ≤ b / k
div_mono a b k some h = let e = div-mul-le_self a k in le-div (a / k) b k some (omega arith)

pub moved_mono : (a b : ℤ) → unsigned_abs a ≤ EXTENT_MAX → unsigned_abs b ≤ EXTENT_MAX → a ≤ℤ b → unsigned_abs (a +ℤ pos EXTENT_MAX) ≤ unsigned_abs (b +ℤ pos EXTENT_MAX)
moved_mono a b p q h = omega (arith, ints)

pub place_along-mono : (cell : ℕ) (a b : ℤ) → 0 < cell → unsigned_abs a ≤ EXTENT_MAX → unsigned_abs b ≤ EXTENT_MAX → a ≤ℤ b → place_along cell a ≤ place_along cell b
place_along-mono cell a b some p q h = div_mono _ _ cell some (moved_mono a b p q h)

-- ---- a common cell
-- the intervals begin and end in order, and each begins before the other ends
record Meet (a b c d : ℤ) : Type 0 where
  first : a ≤ℤ b
  second : c ≤ℤ d
  one : a ≤ℤ d
  other : c ≤ℤ b

pub true_test : (b : Bool) → b ≡ true → T b
true_test b e = subst T (sym e) tt

meet_from : (a b c d : ℤ) → a ≤ℤ b → c ≤ℤ d → meet_along a b c d ≡ true → Meet a b c d
meet_from a b c d h i m = let p = and_parts (int_le a d) (int_le c b) m in record { first = h; second = i; one = record { le = true_test _ p.0 }; other = record { le = true_test _ p.1 } }

-- a place between those of both intervals
record IsBetween (cell : ℕ) (a b c d : ℤ) (n : ℕ) : Type 0 where
  low : place_along cell a ≤ n
  high : n ≤ place_along cell b
  other_low : place_along cell c ≤ n
  other_high : n ≤ place_along cell d

between : (cell : ℕ) (a b c d : ℤ) → 0 < cell → unsigned_abs a ≤ EXTENT_MAX → unsigned_abs b ≤ EXTENT_MAX → unsigned_abs c ≤ EXTENT_MAX → unsigned_abs d ≤ EXTENT_MAX
    → Meet a b c d → (n : ℕ) × IsBetween cell a b c d n
between cell a b c d some p q r s m =
    let ab = place_along-mono cell a b some p q m.first in
    let cd = place_along-mono cell c d some r s m.second in
    let ad = place_along-mono cell a d some p s m.one in
    let cb = place_along-mono cell c b some r q m.other in
    let go : (x y z w : ℕ) → x ≤ y → z ≤ w → x ≤ w → z ≤ y → (n : ℕ) × ((x ≤ n) × (n ≤ y) × (z ≤ n) × (n ≤ w)) =
    λ x y z w f g h i. ⊎_elim (λ lt. (z, (omega arith, omega arith, omega arith, omega arith))) (λ le. (x, (omega arith, omega arith, omega arith, omega arith))) (cases_lt x z) in
    let found = go _ _ _ _ ab cd ad cb in
    (found.0, record { low = found.1.0; high = found.1.1; other_low = found.1.2; other_high = found.1.3 })

-- two extents with a common point touch a common cell
pub share_cell : (cell : ℕ) (e f : Extent) → 0 < cell → overlaps e f ≡ true → (c : Cell) × (Touches cell e c × Touches cell f c)
share_cell cell e f some h =
    let p = e.ordered in let q = f.ordered in
    let both = and_parts _ _ h in
    let two = and_parts _ _ both.0 in
    let x = between cell e.low.x e.high.x f.low.x f.high.x some p.low_fits.x_fits p.high_fits.x_fits q.low_fits.x_fits q.high_fits.x_fits (meet_from _ _ _ _ p.x_order q.x_order two.0) in
    let y = between cell e.low.y e.high.y f.low.y f.high.y some p.low_fits.y_fits p.high_fits.y_fits q.low_fits.y_fits q.high_fits.y_fits (meet_from _ _ _ _ p.y_order q.y_order two.1) in
    let z = between cell e.low.z e.high.z f.low.z f.high.z some p.low_fits.z_fits p.high_fits.z_fits q.low_fits.z_fits q.high_fits.z_fits (meet_from _ _ _ _ p.z_order q.z_order both.1) in (
      record { x = x.0; y = y.0; z = z.0 },
      (
        record { x_low = x.1.low; x_high = x.1.high; y_low = y.1.low; y_high = y.1.high; z_low = z.1.low; z_high = z.1.high },
        record { x_low = x.1.other_low; x_high = x.1.other_high; y_low = y.1.other_low; y_high = y.1.other_high; z_low = z.1.other_low; z_high = z.1.other_high },
      ),
    )

-- ---- each cell of a span has a number
record IsNumbered (w d t x y z n : ℕ) : Type 0 where
  below : n < w * (d * t)
  column : n % w ≡ x
  row : n / w % d ≡ y
  layer : n / w / d ≡ z

numbered : (w d t x y z : ℕ) → x < w → y < d → z < t → IsNumbered w d t x y z ((z * d + y) * w + x)
numbered w d t x y z h i j =
    let rows = mul-add-lt z d y t j i in
    let e = div-mul-add (z * d + y) w x h in
    record {
      below = mul-add-lt (z * d + y) w x (d * t) rows h;
      column = mod-mul-add (z * d + y) w x h;
      row = rw e (mod-mul-add z d y i);
      layer = rw e (div-mul-add z d y i);
    }

abbrev cell_at : ℕ → ℕ → ℕ → Cell
cell_at x y z = record { x = x; y = y; z = z }

same_cell_of : (a b c x y z : ℕ) → a ≡ x → b ≡ y → c ≡ z → cell_at a b c ≡ cell_at x y z
same_cell_of a b c x y z p q r = rw (p, q, r) refl

placed : (f h c m : ℕ) → f ≤ c → m ≡ c - f → f + m ≡ c
placed f h c m p q = omega arith

pub has_number : (cell : ℕ) (e : Extent) (s : Span) (c : Cell) → Covers cell e s → Touches cell e c → (n : ℕ) × ((n < s.count) × (nth_cell s n ≡ c))
has_number cell e s c covers t =
    let fx : s.first.x ≡ place_along cell e.low.x = ap (λ k. k.x) covers.first in
    let fy : s.first.y ≡ place_along cell e.low.y = ap (λ k. k.y) covers.first in
    let fz : s.first.z ≡ place_along cell e.low.z = ap (λ k. k.z) covers.first in
    let lx : s.first.x ≤ c.x = omega (arith, t.x_low) in
    let ly : s.first.y ≤ c.y = omega (arith, t.y_low) in
    let lz : s.first.z ≤ c.z = omega (arith, t.z_low) in
    let hx : c.x - s.first.x < s.nx = omega (arith, t.x_high, covers.x_end) in
    let hy : c.y - s.first.y < s.ny = omega (arith, t.y_high, covers.y_end) in
    let hz : c.z - s.first.z < s.nz = omega (arith, t.z_high, covers.z_end) in
    let num = numbered s.nx s.ny s.nz (c.x - s.first.x) (c.y - s.first.y) (c.z - s.first.z) hx hy hz in
    let n : ℕ = ((c.z - s.first.z) * s.ny + (c.y - s.first.y)) * s.nx + (c.x - s.first.x) in (
      n,
      (
        rw s.usable.counted num.below,
        same_cell_of (s.first.x + n % s.nx) (s.first.y + n / s.nx % s.ny) (s.first.z + n / s.nx / s.ny) c.x c.y c.z
            (placed s.first.x 0 c.x (n % s.nx) lx num.column) (placed s.first.y 0 c.y (n / s.nx % s.ny) ly num.row) (placed s.first.z 0 c.z (n / s.nx / s.ny) lz num.layer),
      ),
    )

-- ---- a common point
same : (a : ℤ) → a ≤ℤ a
same a = omega (arith, ints)

le_of_lt : (a c : ℤ) → a <ℤ c → a ≤ℤ c
le_of_lt a c h = omega (arith, ints)

in_both : (a b c d : ℤ) → Meet a b c d → (x : ℤ) × ((a ≤ℤ x) × (x ≤ℤ b) × (c ≤ℤ x) × (x ≤ℤ d))
in_both a b c d m = by_lt_z a c
    (λ lt. (c, (le_of_lt a c lt, m.other, same c, m.second)))
    (λ le. (a, (same a, m.first, le, m.one)))

true_from : (b : Bool) → T b → b ≡ true
true_from true t = refl
true_from false t = absurd t

trans_z : (a b c : ℤ) → a ≤ℤ b → b ≤ℤ c → int_le a c ≡ true
trans_z a b c h i = let r : a ≤ℤ c = omega (arith, ints) in true_from (int_le a c) r.le

point_between : (e f : Extent) → overlaps e f ≡ true → HaveCommonPoint e f
point_between e f h =
    let p = e.ordered in let q = f.ordered in
    let both = and_parts _ _ h in
    let two = and_parts _ _ both.0 in
    let x = in_both e.low.x e.high.x f.low.x f.high.x (meet_from _ _ _ _ p.x_order q.x_order two.0) in
    let y = in_both e.low.y e.high.y f.low.y f.high.y (meet_from _ _ _ _ p.y_order q.y_order two.1) in
    let z = in_both e.low.z e.high.z f.low.z f.high.z (meet_from _ _ _ _ p.z_order q.z_order both.1) in (
      record { x = x.0; y = y.0; z = z.0 },
      (
        record { x_low = x.1.0; x_high = x.1.1; y_low = y.1.0; y_high = y.1.1; z_low = z.1.0; z_high = z.1.1 },
        record { x_low = x.1.2; x_high = x.1.3; y_low = y.1.2; y_high = y.1.3; z_low = z.1.2; z_high = z.1.3 },
      ),
    )

meets_at : (e f : Extent) → HaveCommonPoint e f → overlaps e f ≡ true
meets_at e f (p, (i, j)) =
    and_from _ _ (and_from _ _
    (and_from _ _ (trans_z e.low.x p.x f.high.x i.x_low j.x_high) (trans_z f.low.x p.x e.high.x j.x_low i.x_high))
    (and_from _ _ (trans_z e.low.y p.y f.high.y i.y_low j.y_high) (trans_z f.low.y p.y e.high.y j.y_low i.y_high)))
    (and_from _ _ (trans_z e.low.z p.z f.high.z i.z_low j.z_high) (trans_z f.low.z p.z e.high.z j.z_low i.z_high))

-- two extents overlap exactly where they have a common point
pub overlap_common : (e f : Extent) → (overlaps e f ≡ true) ↔ HaveCommonPoint e f
overlap_common e f = (point_between e f, meets_at e f)
