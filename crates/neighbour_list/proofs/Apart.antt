-- What is not near, and drifts alike, is kept apart by an axis: it passes.
use Rattle.std.proofs.Common.{◌≡◌, ⊎_elim, inl, inr, ℕ, ◌∙◌, sym, refl, Bool, true, false, ◌&&◌, ℤ, pos, ◌+ℤ◌, ◌-ℤ◌, ◌≤ℤ◌, ◌<ℤ◌, neg_ℤ, arith, int_le, T, lit<, ◌⊎◌, List, ◌++◌}
use Rattle.std.proofs.lemmas.Int.{ints, by_lt_z, int_max_is, int_min_is}
use Rattle.std.proofs.lemmas.Bool.{and_cases, false≢true}
use Rattle.std.proofs.lemmas.List.Elements.{Contains-append_left}
use Rattle.std.specs.Int.{int_min, int_max}
use Rattle.std.specs.List.{Any, All, Contains}
use Rattle.grid_base.specs.declared.Positions.{Positions}
use Rattle.grid_base.specs.Separation.{IsBelow, IsAbove, KeepsApart, Passes, axes, ten_directions}
use Rattle.grid_base.specs.Triples.{Triple, dot, opposite}
use Rattle.grid_base.proofs.SeparationLaws.{AreSeparated-at_once}
use Rattle.mesh_base.specs.Pairs.{Pair, five_ids}
use Rattle.mesh_base.specs.Placements.{Placement, Motion, positions}
use Rattle.motion_test.specs.Heights.{axis_x, axis_y, axis_z}
use Rattle.neighbour_list.specs.Near.{near_along, is_near}
use Rattle.neighbour_list.specs.Drift.{DriftAlike}
use Rattle.neighbour_list.proofs.Coordinates.{neg_less, read_x, read_y, read_z, minus_x, minus_y, minus_z}

true_of : (b : Bool) → T b → b ≡ true
true_of true t = refl
true_of false t = absurd t

-- the test failed
above_from : (a b : ℤ) → int_le a b ≡ false → b <ℤ a
above_from a b h = by_lt_z b a (λ lt. lt) (λ le. absurd (false≢true (sym h ∙ true_of (int_le a b) le.le)))

max_left : (a b : ℤ) → a ≤ℤ int_max a b
max_left a b = let e = int_max_is a b in omega (arith, ints)

max_right : (a b : ℤ) → b ≤ℤ int_max a b
max_right a b = let e = int_max_is a b in omega (arith, ints)

min_left : (a b : ℤ) → int_min a b ≤ℤ a
min_left a b = let e = int_min_is a b in omega (arith, ints)

min_right : (a b : ℤ) → int_min a b ≤ℤ b
min_right a b = let e = int_min_is a b in omega (arith, ints)

trans_z : (a b c : ℤ) → a ≤ℤ b → b ≤ℤ c → a ≤ℤ c
trans_z a b c h i = omega (arith, ints)

-- ---- numbers that are not near
-- p ≤ high, high and the skin below low ≤ q
between : (skin : ℕ) (p high low q : ℤ) → p ≤ℤ high → (high +ℤ pos skin) <ℤ low → low ≤ℤ q → (p +ℤ pos skin) <ℤ q
between skin p high low q h i j = omega (arith, ints)

-- the first two numbers are below the other three, by more than the skin
record IsBehind (skin : ℕ) (a b c d e : ℤ) : Type 0 where
  ac : (a +ℤ pos skin) <ℤ c
  ad : (a +ℤ pos skin) <ℤ d
  ae : (a +ℤ pos skin) <ℤ e
  bc : (b +ℤ pos skin) <ℤ c
  bd : (b +ℤ pos skin) <ℤ d
  be : (b +ℤ pos skin) <ℤ e

-- or above
record IsAhead (skin : ℕ) (a b c d e : ℤ) : Type 0 where
  ac : (c +ℤ pos skin) <ℤ a
  ad : (d +ℤ pos skin) <ℤ a
  ae : (e +ℤ pos skin) <ℤ a
  bc : (c +ℤ pos skin) <ℤ b
  bd : (d +ℤ pos skin) <ℤ b
  be : (e +ℤ pos skin) <ℤ b

module _ (c d e : ℤ) where
  least_second : int_min c (int_min d e) ≤ℤ d
  least_second = trans_z _ (int_min d e) d (min_right c (int_min d e)) (min_left d e)

  least_third : int_min c (int_min d e) ≤ℤ e
  least_third = trans_z _ (int_min d e) e (min_right c (int_min d e)) (min_right d e)

  most_second : d ≤ℤ int_max c (int_max d e)
  most_second = trans_z d (int_max d e) _ (max_left d e) (max_right c (int_max d e))

  most_third : e ≤ℤ int_max c (int_max d e)
  most_third = trans_z e (int_max d e) _ (max_right d e) (max_right c (int_max d e))

parted : (skin : ℕ) (a b c d e : ℤ) → near_along skin a b c d e ≡ false → IsBehind skin a b c d e ⊎ IsAhead skin a b c d e
parted skin a b c d e off =
    let least = int_min c (int_min d e) in
    let most = int_max c (int_max d e) in
    ⊎_elim
    (λ behind. let gap = above_from least (int_max a b +ℤ pos skin) behind in inl (record {
      ac = between skin a (int_max a b) least c (max_left a b) gap (min_left c (int_min d e));
      ad = between skin a (int_max a b) least d (max_left a b) gap (least_second c d e);
      ae = between skin a (int_max a b) least e (max_left a b) gap (least_third c d e);
      bc = between skin b (int_max a b) least c (max_right a b) gap (min_left c (int_min d e));
      bd = between skin b (int_max a b) least d (max_right a b) gap (least_second c d e);
      be = between skin b (int_max a b) least e (max_right a b) gap (least_third c d e);
    }))
    (λ ahead. let gap = above_from (int_min a b) (most +ℤ pos skin) ahead in inr (record {
      ac = between skin c most (int_min a b) a (max_left c (int_max d e)) gap (min_left a b);
      ad = between skin d most (int_min a b) a (most_second c d e) gap (min_left a b);
      ae = between skin e most (int_min a b) a (most_third c d e) gap (min_left a b);
      bc = between skin c most (int_min a b) b (max_left c (int_max d e)) gap (min_right a b);
      bd = between skin d most (int_min a b) b (most_second c d e) gap (min_right a b);
      be = between skin e most (int_min a b) b (most_third c d e) gap (min_right a b);
    }))
    (and_cases (int_le least (int_max a b +ℤ pos skin)) (int_le (int_min a b) (most +ℤ pos skin)) off)

-- ---- vertices that drift alike
-- what is behind by more than the skin stays behind, where its drift is at most the skin more
stays_behind : (skin : ℕ) (ra rc sa sc : ℤ) → (ra +ℤ pos skin) <ℤ rc → (sa -ℤ ra) ≤ℤ ((sc -ℤ rc) +ℤ pos skin) → sa <ℤ sc
stays_behind skin ra rc sa sc gap alike = omega (arith, ints)

-- the five vertices of a pair are among these
record AreAmong (vs : List ℕ) (p : Pair) : Type 0 where
  a : Contains vs p.name.a
  b : Contains vs p.name.b
  c : Contains vs p.corners.first
  d : Contains vs p.corners.second
  e : Contains vs p.corners.third

among : (vs : List ℕ) (p : Pair) → All (Contains vs) (five_ids p) → AreAmong vs p
among vs p h = record { a = h 0 0 (lit< tt); b = h 1 0 (lit< tt); c = h 2 0 (lit< tt); d = h 3 0 (lit< tt); e = h 4 0 (lit< tt) }

-- along a direction n that reads one coordinate
module _ (n : Triple) (read : Triple → ℤ) (along : (p : Triple) → dot n p ≡ read p) (against : (p : Triple) → dot (opposite n) p ≡ neg_ℤ (read p)) (skin : ℕ) (at : Placement) (vs : List ℕ) (p : Pair) (five : AreAmong vs p) where
  -- the vertices drift alike
  abbrev Alike : Placement → Type 0
  Alike now = (u v : ℕ) → Contains vs u → Contains vs v → (read (now u) -ℤ read (at u)) ≤ℤ ((read (now v) -ℤ read (at v)) +ℤ pos skin)

  module _ (now : Placement) (alike : Alike now) where
    stays : (u v : ℕ) → Contains vs u → Contains vs v → (read (at u) +ℤ pos skin) <ℤ read (at v) → read (now u) <ℤ read (now v)
    stays u v h i gap = stays_behind skin (read (at u)) (read (at v)) (read (now u)) (read (now v)) gap (alike u v h i)

    less : (u v : ℕ) → Contains vs u → Contains vs v → (read (at u) +ℤ pos skin) <ℤ read (at v) → dot n (now u) <ℤ dot n (now v)
    less u v h i gap = rw (along (now u), along (now v)) (stays u v h i gap)

    more : (u v : ℕ) → Contains vs u → Contains vs v → (read (at v) +ℤ pos skin) <ℤ read (at u) → dot (opposite n) (now u) <ℤ dot (opposite n) (now v)
    more u v h i gap = rw (against (now u), against (now v)) (neg_less (read (now u)) (read (now v)) (stays v u i h gap))

    below : IsBehind skin (read (at p.name.a)) (read (at p.name.b)) (read (at p.corners.first)) (read (at p.corners.second)) (read (at p.corners.third)) → IsBelow n (positions now p)
    below h = record {
      ac = less p.name.a p.corners.first five.a five.c h.ac;
      ad = less p.name.a p.corners.second five.a five.d h.ad;
      ae = less p.name.a p.corners.third five.a five.e h.ae;
      bc = less p.name.b p.corners.first five.b five.c h.bc;
      bd = less p.name.b p.corners.second five.b five.d h.bd;
      be = less p.name.b p.corners.third five.b five.e h.be;
    }

    above : IsAhead skin (read (at p.name.a)) (read (at p.name.b)) (read (at p.corners.first)) (read (at p.corners.second)) (read (at p.corners.third)) → IsAbove n (positions now p)
    above h = record {
      ac = more p.name.a p.corners.first five.a five.c h.ac;
      ad = more p.name.a p.corners.second five.a five.d h.ad;
      ae = more p.name.a p.corners.third five.a five.e h.ae;
      bc = more p.name.b p.corners.first five.b five.c h.bc;
      bd = more p.name.b p.corners.second five.b five.d h.bd;
      be = more p.name.b p.corners.third five.b five.e h.be;
    }

  keeps_apart : (start end : Placement) → near_along skin (read (at p.name.a)) (read (at p.name.b)) (read (at p.corners.first)) (read (at p.corners.second)) (read (at p.corners.third)) ≡ false → Alike start → Alike end
      → KeepsApart (positions start p) (positions end p) n
  keeps_apart start end off h i = ⊎_elim
      (λ behind. inl (below start h behind, below end i behind))
      (λ ahead. inr (above start h ahead, above end i ahead))
      (parted skin (read (at p.name.a)) (read (at p.name.b)) (read (at p.corners.first)) (read (at p.corners.second)) (read (at p.corners.third)) off)

-- ---- what an axis keeps apart passes
pub any_before : {X : Type 0} (P : X → Type 0) (xs ys : List X) → Any P xs → Any P (xs ++ ys)
any_before P xs ys h = let c = Contains-append_left xs ys h.1 (h.0, h.2, h.3) in (c.0, h.1, c.1, c.2, h.4)

-- the directions begin with the axes
pub axis_passes : (depth : ℕ) (s t : Positions) → Any (KeepsApart s t) axes → Passes depth s t
axis_passes depth s t h = inl (AreSeparated-at_once depth s t (any_before (KeepsApart s t) (axes ++ ten_directions s) (ten_directions t) (any_before (KeepsApart s t) axes (ten_directions s) h)))

-- One axis keeps apart, at the start and at the end on the same side, a pair that is not near at the reference points, where its vertices drift alike.
module _ (skin : ℕ) (at : Placement) (w : Motion) (vs : List ℕ) (p : Pair) (among_them : All (Contains vs) (five_ids p)) (off : is_near skin (positions at p) ≡ false) (start : DriftAlike skin at w.start vs) (end : DriftAlike skin at w.end vs) where
  five : AreAmong vs p
  five = among vs p among_them

  -- one axis
  pub some_axis : Any (KeepsApart (positions w.start p) (positions w.end p)) axes
  some_axis =
      let x = near_along skin (at p.name.a).x (at p.name.b).x (at p.corners.first).x (at p.corners.second).x (at p.corners.third).x in
      let y = near_along skin (at p.name.a).y (at p.name.b).y (at p.corners.first).y (at p.corners.second).y (at p.corners.third).y in
      let z = near_along skin (at p.name.a).z (at p.name.b).z (at p.corners.first).z (at p.corners.second).z (at p.corners.third).z in
      ⊎_elim
      (λ xy. ⊎_elim
      (λ off_x. (0, axis_x, lit< tt, refl, keeps_apart axis_x (λ t. t.x) (λ t. read_x t.x t.y t.z) (λ t. minus_x t.x t.y t.z) skin at vs p five w.start w.end off_x (λ u v h i. (start u v h i).x) (λ u v h i. (end u v h i).x)))
      (λ off_y. (1, axis_y, lit< tt, refl, keeps_apart axis_y (λ t. t.y) (λ t. read_y t.x t.y t.z) (λ t. minus_y t.x t.y t.z) skin at vs p five w.start w.end off_y (λ u v h i. (start u v h i).y) (λ u v h i. (end u v h i).y)))
      (and_cases x y xy))
      (λ off_z. (2, axis_z, lit< tt, refl, keeps_apart axis_z (λ t. t.z) (λ t. read_z t.x t.y t.z) (λ t. minus_z t.x t.y t.z) skin at vs p five w.start w.end off_z (λ u v h i. (start u v h i).z) (λ u v h i. (end u v h i).z)))
      (and_cases (x && y) z off)

  -- so it passes, to any depth
  pub passes_unlisted : (depth : ℕ) → Passes depth (positions w.start p) (positions w.end p)
  passes_unlisted depth = axis_passes depth (positions w.start p) (positions w.end p) some_axis
