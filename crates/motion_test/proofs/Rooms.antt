-- Room for halving: each halving doubles the sizes, and takes one from the depth.
use Rattle.std.proofs.Common.{◌≡◌, Bool, true, false, ℕ, zero, suc, ◌+◌, ◌-◌, ◌*◌, ◌^◌, ◌<◌, ◌≤◌, ℤ, pos, ◌+ℤ◌, ◌*ℤ◌, unsigned_abs, ◌⊎◌, inr, refl, arith}
use Rattle.std.proofs.lemmas.Int.{ints}
use Rattle.std.proofs.lemmas.Grind.{pow_more}
use Rattle.std.proofs.Math.Pow.{pow_mono}
use Rattle.std.proofs.Math.Nat.{mul-le-mul_left}
use Rattle.std.specs.List.{Any}
use Rattle.grid_base.specs.declared.TheConstants.{DEPTH_MAX, HALF_MAX, WIDE_MAX}
use Rattle.grid_base.specs.Triples.{Triple, IsWithin, plus, times}
use Rattle.grid_base.specs.declared.Positions.{Positions}
use Rattle.grid_base.specs.Meeting.{AreWithin}
use Rattle.grid_base.specs.Separation.{KeepsApart, TakesApart, AreSeparated, Opens, directions, double, middle}
use Rattle.motion_test.specs.Small.{position_max, position_max_at}

IsWithin-weaker : (m n : ℕ) (a : Triple) → m ≤ n → IsWithin m a → IsWithin n a
IsWithin-weaker m n a h w = record { x_fits = omega (arith, w.x_fits); y_fits = omega (arith, w.y_fits); z_fits = omega (arith, w.z_fits) }

pub AreWithin-weaker : (m n : ℕ) (f : Positions) → m ≤ n → AreWithin m f → AreWithin n f
AreWithin-weaker m n f h w = record { a = IsWithin-weaker m n f.a h w.a; b = IsWithin-weaker m n f.b h w.b; c = IsWithin-weaker m n f.c h w.c; d = IsWithin-weaker m n f.d h w.d; e = IsWithin-weaker m n f.e h w.e }

size-sum : (m n : ℕ) (x y : ℤ) → m + m ≤ n → unsigned_abs x ≤ m → unsigned_abs y ≤ m → unsigned_abs (x +ℤ y) ≤ n
size-sum m n x y h p q = omega (arith, ints)

size-double : (m n : ℕ) (x : ℤ) → m + m ≤ n → unsigned_abs x ≤ m → unsigned_abs (pos 2 *ℤ x) ≤ n
size-double m n x h p = omega (arith, ints)

plus_within : (m n : ℕ) (a b : Triple) → m + m ≤ n → IsWithin m a → IsWithin m b → IsWithin n (plus a b)
plus_within m n a b h p q = record { x_fits = size-sum m n a.x b.x h p.x_fits q.x_fits; y_fits = size-sum m n a.y b.y h p.y_fits q.y_fits; z_fits = size-sum m n a.z b.z h p.z_fits q.z_fits }

twice_within : (m n : ℕ) (a : Triple) → m + m ≤ n → IsWithin m a → IsWithin n (times 2 a)
twice_within m n a h p = record { x_fits = size-double m n a.x h p.x_fits; y_fits = size-double m n a.y h p.y_fits; z_fits = size-double m n a.z h p.z_fits }

pub middle_within : (m n : ℕ) (s t : Positions) → m + m ≤ n → AreWithin m s → AreWithin m t → AreWithin n (middle s t)
middle_within m n s t h p q = record { a = plus_within m n s.a t.a h p.a q.a; b = plus_within m n s.b t.b h p.b q.b; c = plus_within m n s.c t.c h p.c q.c; d = plus_within m n s.d t.d h p.d q.d; e = plus_within m n s.e t.e h p.e q.e }

pub doubled_within : (m n : ℕ) (s : Positions) → m + m ≤ n → AreWithin m s → AreWithin n (double s)
doubled_within m n s h p = record { a = twice_within m n s.a h p.a; b = twice_within m n s.b h p.b; c = twice_within m n s.c h p.c; d = twice_within m n s.d h p.d; e = twice_within m n s.e h p.e }

-- the greatest size with so much depth left
abbrev pub room : ℕ → ℕ
room depth = HALF_MAX * 2 ^ (DEPTH_MAX - depth)

-- there is room now, and there is room for the halves
pub room_now : (depth : ℕ) → room depth ≤ WIDE_MAX
room_now depth =
    let low : DEPTH_MAX - depth ≤ DEPTH_MAX = omega arith in
    let power : 2 ^ (DEPTH_MAX - depth) ≤ 2 ^ DEPTH_MAX = pow_mono low in
    mul-le-mul_left HALF_MAX power

pub room_for_halves : (depth : ℕ) → 0 < depth → depth ≤ DEPTH_MAX → room depth + room depth ≤ room (depth - 1)
room_for_halves depth some most =
    let next : DEPTH_MAX - (depth - 1) ≡ DEPTH_MAX - depth + 1 = omega arith in
    rw (next, pow_more 2 (DEPTH_MAX - depth)) (twice HALF_MAX (2 ^ (DEPTH_MAX - depth)))
  where
    twice : (h p : ℕ) → h * p + h * p ≤ h * (p * 2)
    twice h p = grind arith

pub room_at_start : (depth : ℕ) → depth ≤ DEPTH_MAX → HALF_MAX ≤ room depth
room_at_start depth most =
    let low : 0 ≤ DEPTH_MAX - depth = omega arith in
    let power : 2 ^ 0 ≤ 2 ^ (DEPTH_MAX - depth) = pow_mono low in
    mul-le-mul_left HALF_MAX power

-- what is small before the first halving has room at each depth
pub in_room : (small : Bool) (depth : ℕ) (f : Positions) → depth ≤ DEPTH_MAX → AreWithin (position_max_at depth small) f → AreWithin (room depth) f
in_room true depth f most w = AreWithin-weaker _ _ f (room_at_start depth most) w
in_room false depth f most w = w

pub in_wide : (small : Bool) (depth : ℕ) (f : Positions) → depth ≤ DEPTH_MAX → AreWithin (position_max_at depth small) f → AreWithin WIDE_MAX f
in_wide small depth f most w = AreWithin-weaker _ _ f (room_now depth) (in_room small depth f most w)

pub in_arithmetic : (small : Bool) (depth : ℕ) (f : Positions) → AreWithin (position_max_at depth small) f → AreWithin (position_max small) f
in_arithmetic true depth f w = w
in_arithmetic false depth f w = AreWithin-weaker _ _ f (room_now depth) w

-- where all is small it is so at each depth
pub small_at : (small : Bool) (depth : ℕ) (f : Positions) → (small ≡ true → AreWithin HALF_MAX f) → AreWithin (position_max_at depth false) f → AreWithin (position_max_at depth small) f
small_at true depth f w room = w refl
small_at false depth f w room = room

-- ---- the definition, one step opened
abbrev pub InHalves : ℕ → Positions → Positions → Type 0
InHalves depth s t = AreSeparated (depth - 1) (double s) (middle s t) × AreSeparated (depth - 1) (middle s t) (double t)

pub AreSeparated-open : (depth : ℕ) (s t : Positions) → 0 < depth → AreSeparated depth s t → Any (KeepsApart s t) (directions s t) ⊎ InHalves depth s t
AreSeparated-open zero s t p h = absurd (omega arith)
AreSeparated-open (suc depth) s t p h = let e : suc depth - 1 ≡ depth = omega arith in rw e h

pub AreSeparated-in_halves : (depth : ℕ) (s t : Positions) → 0 < depth → InHalves depth s t → AreSeparated depth s t
AreSeparated-in_halves zero s t p h = absurd (omega arith)
AreSeparated-in_halves (suc depth) s t p h = let e : suc depth - 1 ≡ depth = omega arith in inr (rw e at h)

-- ---- the same of opening
abbrev pub OpensInHalves : ℕ → Positions → Positions → Type 0
OpensInHalves depth s t = Opens (depth - 1) (double s) (middle s t) × AreSeparated (depth - 1) (middle s t) (double t)

pub Opens-open : (depth : ℕ) (s t : Positions) → 0 < depth → Opens depth s t → Any (TakesApart s t) (directions s t) ⊎ OpensInHalves depth s t
Opens-open zero s t p h = absurd (omega arith)
Opens-open (suc depth) s t p h = let e : suc depth - 1 ≡ depth = omega arith in rw e h

pub Opens-in_halves : (depth : ℕ) (s t : Positions) → 0 < depth → OpensInHalves depth s t → Opens depth s t
Opens-in_halves zero s t p h = absurd (omega arith)
Opens-in_halves (suc depth) s t p h = let e : suc depth - 1 ≡ depth = omega arith in inr (rw e at h)
