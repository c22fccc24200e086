-- Where the vertices of the cubes stand after some of the steps: each in a box of its cube, and two boxes have no common point.
use Rattle.std.proofs.Common.{◌≡◌, ℕ, zero, suc, ◌+◌, ◌*◌, ◌/◌, ◌%◌, ◌<◌, ◌≤◌, Bool, true, false, ◌&&◌, ℤ, pos, ◌+ℤ◌, ◌≤ℤ◌, ◌<ℤ◌, int_le, unsigned_abs, refl, ap, sym, ⊎_elim, arith}
use Rattle.std.proofs.lemmas.Int.{ints}
use Rattle.std.proofs.lemmas.Bool.{cases_lt, cases_eq}
use Rattle.std.proofs.Math.Nat.{mod-le, div-le_self}
use Rattle.grid_base.specs.declared.TheConstants.{BOX, EXTENT_MAX}
use Rattle.grid_base.specs.declared.Extent.{Extent}
use Rattle.grid_base.specs.Extents.{IsIn, overlaps, meet_along}
use Rattle.grid_base.specs.Triples.{Triple, IsWithin, plus}
use Rattle.grid_base.proofs.MeetingLaws.{same_triple}
use Rattle.step_text.specs.Ranges.{IsFrom}
use Rattle.mesh_make.specs.Cubes.{at, least_corner}
use Rattle.mesh_make.specs.CubeSteps.{moved_along, moved_by}
use Rattle.mesh_make.proofs.Ranges.{moves_little}
use Rattle.mesh_make.proofs.Standing.{offset, place, IsInSide, offset_in_cube}
use Rattle.mesh_make.proofs.Clear.{same_places}

-- how far a cube has gone after so many steps
abbrev pub away : ℕ → ℕ → ℕ → Triple
away key zero cube = at 0 0 0
away key (suc steps) cube = plus (away key steps cube) (moved_by key (suc steps) (cube + 1))

-- where a vertex of a cube stands then
abbrev pub spot : ℕ → ℕ → ℕ → ℕ → ℕ → Triple
spot n key steps cube v = plus (plus (least_corner n cube) (away key steps cube)) (offset v)

-- ---- how far it is at most
pub record IsNear (most : ℕ) (a : ℤ) : Type 0 where
  pub low : pos 0 ≤ℤ a
  pub high : a ≤ℤ pos most

pub record AreNear (most : ℕ) (t : Triple) : Type 0 where
  pub x : IsNear most t.x
  pub y : IsNear most t.y
  pub z : IsNear most t.z

near_more : (steps m : ℕ) (a : ℤ) → IsNear (9 * steps) a → IsFrom 1 9 m → IsNear (9 * suc steps) (a +ℤ pos m)
near_more steps m a near from = numbers steps m a near.low near.high from.1
  where
    numbers : (steps m : ℕ) (a : ℤ) → pos 0 ≤ℤ a → a ≤ℤ pos (9 * steps) → m ≤ 9 → IsNear (9 * suc steps) (a +ℤ pos m)
    numbers steps m a h h' k = record { low = omega (arith, ints); high = omega (arith, ints) }

away_near : (key steps cube : ℕ) → AreNear (9 * steps) (away key steps cube)
away_near key zero cube = record {
  x = record { low = omega (arith, ints); high = omega (arith, ints) };
  y = record { low = omega (arith, ints); high = omega (arith, ints) };
  z = record { low = omega (arith, ints); high = omega (arith, ints) };
}
away_near key (suc steps) cube =
    let before = away_near key steps cube in
    let little = moves_little key (suc steps) (cube + 1) in
    record {
      x = near_more steps (moved_along key (suc steps) (cube + 1) 0) (away key steps cube).x before.x (little 0);
      y = near_more steps (moved_along key (suc steps) (cube + 1) 1) (away key steps cube).y before.y (little 1);
      z = near_more steps (moved_along key (suc steps) (cube + 1) 2) (away key steps cube).z before.z (little 2);
    }

near_three : (steps : ℕ) (a : ℤ) → steps ≤ 3 → IsNear (9 * steps) a → IsNear 27 a
near_three steps a few near = numbers steps a few near.low near.high
  where
    numbers : (steps : ℕ) (a : ℤ) → steps ≤ 3 → pos 0 ≤ℤ a → a ≤ℤ pos (9 * steps) → IsNear 27 a
    numbers steps a few h h' = record { low = h; high = omega (arith, ints) }

-- within three steps a cube has gone no further than 27
little_away : (key steps cube : ℕ) → steps ≤ 3 → AreNear 27 (away key steps cube)
little_away key steps cube few =
    let near = away_near key steps cube in
    record {
      x = near_three steps (away key steps cube).x few near.x;
      y = near_three steps (away key steps cube).y few near.y;
      z = near_three steps (away key steps cube).z few near.z;
    }

-- ---- one step more
pub spot-zero : (n key cube v : ℕ) → place n cube v ≡ spot n key 0 cube v
spot-zero n key cube v =
    let low = least_corner n cube in
    let o = offset v in
    same_triple (place n cube v) (spot n key 0 cube v) (part low.x o.x) (part low.y o.y) (part low.z o.z)
  where
    part : (l o : ℤ) → l +ℤ o ≡ (l +ℤ pos 0) +ℤ o
    part l o = omega (arith, ints)

pub spot-more : (n key steps cube v : ℕ) → plus (spot n key steps cube v) (moved_by key (suc steps) (cube + 1)) ≡ spot n key (suc steps) cube v
spot-more n key steps cube v =
    let low = least_corner n cube in
    let d = away key steps cube in
    let o = offset v in
    let m = moved_by key (suc steps) (cube + 1) in
    same_triple (plus (spot n key steps cube v) m) (spot n key (suc steps) cube v) (part low.x d.x o.x m.x) (part low.y d.y o.y m.y) (part low.z d.z o.z m.z)
  where
    part : (l d o m : ℤ) → ((l +ℤ d) +ℤ o) +ℤ m ≡ (l +ℤ (d +ℤ m)) +ℤ o
    part l d o m = omega (arith, ints)

-- ---- all stand in the grid's box
-- a cube stands at most 1728 cubes from the origin along each axis
pub record IsFew (n cube : ℕ) : Type 0 where
  pub x : cube % n ≤ 1728
  pub y : cube / n % n ≤ 1728
  pub z : cube / n / n ≤ 1728

pub few_of : (n cube : ℕ) → cube ≤ 1728 → IsFew n cube
few_of n cube h =
    let x = mod-le cube n in
    let y = mod-le (cube / n) n in
    let q = div-le_self cube n in
    let z = div-le_self (cube / n) n in
    record { x = omega arith; y = omega arith; z = omega arith }

in_box : (a : ℕ) (d o : ℤ) → a ≤ 1728 → IsNear 27 d → IsInSide o → unsigned_abs ((pos (100 * a) +ℤ d) +ℤ o) ≤ BOX
in_box a d o h near side = numbers a d o h near.low near.high side.low side.high
  where
    numbers : (a : ℕ) (d o : ℤ) → a ≤ 1728 → pos 0 ≤ℤ d → d ≤ℤ pos 27 → pos 0 ≤ℤ o → o ≤ℤ pos 40 → unsigned_abs ((pos (100 * a) +ℤ d) +ℤ o) ≤ BOX
    numbers a d o h p q r t = omega (arith, ints)

pub spot_within : (n key steps cube v : ℕ) → cube ≤ 1728 → steps ≤ 3 → IsWithin BOX (spot n key steps cube v)
spot_within n key steps cube v h few =
    let f = few_of n cube h in
    let d = little_away key steps cube few in
    let o = offset_in_cube v in
    record {
      x_fits = in_box (cube % n) (away key steps cube).x (offset v).x f.x d.x o.x;
      y_fits = in_box (cube / n % n) (away key steps cube).y (offset v).y f.y d.y o.y;
      z_fits = in_box (cube / n / n) (away key steps cube).z (offset v).z f.z d.z o.z;
    }

-- ---- the box that a cube does not leave
pub box_low : (a : ℕ) → a ≤ 1728 → unsigned_abs (pos (100 * a)) ≤ EXTENT_MAX
box_low a h = omega (arith, ints)

pub box_high : (a : ℕ) → a ≤ 1728 → unsigned_abs (pos (100 * a) +ℤ pos 67) ≤ EXTENT_MAX
box_high a h = omega (arith, ints)

pub box_order : (a : ℕ) → pos (100 * a) ≤ℤ (pos (100 * a) +ℤ pos 67)
box_order a = omega (arith, ints)

abbrev pub box : (n cube : ℕ) → cube ≤ 1728 → Extent
box n cube h = record {
  low = least_corner n cube;
  high = plus (least_corner n cube) (at 67 67 67);
  ordered = record {
    x_order = box_order (cube % n);
    y_order = box_order (cube / n % n);
    z_order = box_order (cube / n / n);
    low_fits = record { x_fits = box_low (cube % n) (few_of n cube h).x; y_fits = box_low (cube / n % n) (few_of n cube h).y; z_fits = box_low (cube / n / n) (few_of n cube h).z };
    high_fits = record { x_fits = box_high (cube % n) (few_of n cube h).x; y_fits = box_high (cube / n % n) (few_of n cube h).y; z_fits = box_high (cube / n / n) (few_of n cube h).z };
  };
}

-- along an axis
record IsBetween (l d o : ℤ) : Type 0 where
  low : l ≤ℤ ((l +ℤ d) +ℤ o)
  high : ((l +ℤ d) +ℤ o) ≤ℤ (l +ℤ pos 67)

between : (l d o : ℤ) → IsNear 27 d → IsInSide o → IsBetween l d o
between l d o near side = numbers l d o near.low near.high side.low side.high
  where
    numbers : (l d o : ℤ) → pos 0 ≤ℤ d → d ≤ℤ pos 27 → pos 0 ≤ℤ o → o ≤ℤ pos 40 → IsBetween l d o
    numbers l d o p q r t = record { low = omega (arith, ints); high = omega (arith, ints) }

pub spot_in : (n key steps cube v : ℕ) (h : cube ≤ 1728) → steps ≤ 3 → IsIn (box n cube h) (spot n key steps cube v)
spot_in n key steps cube v h few =
    let low = least_corner n cube in
    let d = little_away key steps cube few in
    let o = offset_in_cube v in
    let x = between low.x (away key steps cube).x (offset v).x d.x o.x in
    let y = between low.y (away key steps cube).y (offset v).y d.y o.y in
    let z = between low.z (away key steps cube).z (offset v).z d.z o.z in
    record { x_low = x.low; x_high = x.high; y_low = y.low; y_high = y.high; z_low = z.low; z_high = z.high }

-- ---- two boxes
not_le : (a b : ℤ) → b <ℤ a → int_le a b ≡ false
not_le a b h = by_test (int_le a b) refl
  where
    by_test : (t : Bool) → int_le a b ≡ t → t ≡ false
    by_test true e = absurd (omega (arith, ints))
    by_test false e = refl

off_first : (a b : Bool) → a ≡ false → (a && b) ≡ false
off_first a b e = ap (λ t. t && b) e

off_second : (a b : Bool) → b ≡ false → (a && b) ≡ false
off_second true b e = e
off_second false b e = refl

gap : (s t : ℕ) → s < t → (pos (100 * s) +ℤ pos 67) <ℤ pos (100 * t)
gap s t h = omega (arith, ints)

less_of : (s t : ℕ) → t ≤ s → (s ≡ t → ⊥) → t < s
less_of s t h differ = ⊎_elim (λ less. less) (λ most. absurd (differ (let same : s ≡ t = omega arith in same))) (cases_lt t s)

apart_along : (s t : ℕ) → (s ≡ t → ⊥) → meet_along (pos (100 * s)) (pos (100 * s) +ℤ pos 67) (pos (100 * t)) (pos (100 * t) +ℤ pos 67) ≡ false
apart_along s t differ =
    let first = int_le (pos (100 * s)) (pos (100 * t) +ℤ pos 67) in
    let second = int_le (pos (100 * t)) (pos (100 * s) +ℤ pos 67) in
    ⊎_elim
    (λ less. off_second first second (not_le (pos (100 * t)) (pos (100 * s) +ℤ pos 67) (gap s t less)))
    (λ most. off_first first second (not_le (pos (100 * s)) (pos (100 * t) +ℤ pos 67) (gap t s (less_of s t most differ))))
    (cases_lt s t)

-- the boxes of two cubes have no common point
pub boxes_apart : (n cube other : ℕ) (h : cube ≤ 1728) (h' : other ≤ 1728) → (cube ≡ other → ⊥) → overlaps (box n other h') (box n cube h) ≡ false
boxes_apart n cube other h h' differ =
    let x = meet_along (pos (100 * (other % n))) (pos (100 * (other % n)) +ℤ pos 67) (pos (100 * (cube % n))) (pos (100 * (cube % n)) +ℤ pos 67) in
    let y = meet_along (pos (100 * (other / n % n))) (pos (100 * (other / n % n)) +ℤ pos 67) (pos (100 * (cube / n % n))) (pos (100 * (cube / n % n)) +ℤ pos 67) in
    let z = meet_along (pos (100 * (other / n / n))) (pos (100 * (other / n / n)) +ℤ pos 67) (pos (100 * (cube / n / n))) (pos (100 * (cube / n / n)) +ℤ pos 67) in
    ⊎_elim (λ same_x.
    ⊎_elim (λ same_y.
    ⊎_elim (λ same_z. absurd (differ (same_places n cube other (sym same_x) (sym same_y) (sym same_z))))
    (λ apart. off_second (x && y) z (apart_along (other / n / n) (cube / n / n) apart))
    (cases_eq (other / n / n) (cube / n / n)))
    (λ apart. off_first (x && y) z (off_second x y (apart_along (other / n % n) (cube / n % n) apart)))
    (cases_eq (other / n % n) (cube / n % n)))
    (λ apart. off_first (x && y) z (off_first x y (apart_along (other % n) (cube % n) apart)))
    (cases_eq (other % n) (cube % n))
