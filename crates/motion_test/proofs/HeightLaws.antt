-- Heights along an axis are coordinates, and heights tell what directions do.
use Rattle.std.proofs.Common.{◌≡◌, ℤ, pos, ◌+ℤ◌, ◌*ℤ◌, inl, inr, SFits, to_z, of_z, ◌∙◌, arith}
use Rattle.std.specs.Int.{w128}
use Rattle.std.proofs.lemmas.Int.{ints, to_z-of_z}
use Rattle.grid_base.specs.Triples.{Triple, dot}
use Rattle.grid_base.specs.declared.Positions.{Positions}
use Rattle.grid_base.specs.Separation.{IsBelow, IsAbove, IsWeaklyBelow, IsWeaklyAbove, KeepsApart, TakesApart}
use Rattle.motion_test.specs.declared.heights.Heights.{Heights}
use Rattle.motion_test.specs.declared.side.Side.TheVariants.{Below, Above}
use Rattle.motion_test.specs.Heights.{axis_x, axis_y, axis_z, heights_along, LieOn, LieWeaklyOn, KeepApart, TakeApart}
use Rattle.motion_test.proofs.OtherWay.{above_of, of_above, weakly_above_of, of_weakly_above}

-- ---- coordinates
first : (x y z : ℤ) → x ≡ pos 1 *ℤ x +ℤ pos 0 *ℤ y +ℤ pos 0 *ℤ z
first x y z = omega (arith, ints)

second : (x y z : ℤ) → y ≡ pos 0 *ℤ x +ℤ pos 1 *ℤ y +ℤ pos 0 *ℤ z
second x y z = omega (arith, ints)

third : (x y z : ℤ) → z ≡ pos 0 *ℤ x +ℤ pos 0 *ℤ y +ℤ pos 1 *ℤ z
third x y z = omega (arith, ints)

pub along_x : (t : Triple) → SFits w128 t.x → to_z w128 (of_z w128 t.x) ≡ dot axis_x t
along_x t fits = to_z-of_z w128 t.x fits ∙ first t.x t.y t.z

pub along_y : (t : Triple) → SFits w128 t.y → to_z w128 (of_z w128 t.y) ≡ dot axis_y t
along_y t fits = to_z-of_z w128 t.y fits ∙ second t.x t.y t.z

pub along_z : (t : Triple) → SFits w128 t.z → to_z w128 (of_z w128 t.z) ≡ dot axis_z t
along_z t fits = to_z-of_z w128 t.z fits ∙ third t.x t.y t.z

pub same_heights : (a b c d e a' b' c' d' e' : ℤ) → a ≡ a' → b ≡ b' → c ≡ c' → d ≡ d' → e ≡ e' →
    ◌≡◌ {A = Heights} (record { a = a; b = b; c = c; d = d; e = e }) (record { a = a'; b = b'; c = c'; d = d'; e = e' })
same_heights a b c d e a' b' c' d' e' p q r s t = cc

-- ---- sides
below_of : (n : Triple) (f : Positions) → LieOn Below (heights_along n f) → IsBelow n f
below_of n f h = record { ac = h.of_c.0; ad = h.of_d.0; ae = h.of_e.0; bc = h.of_c.1; bd = h.of_d.1; be = h.of_e.1 }

of_below : (n : Triple) (f : Positions) → IsBelow n f → LieOn Below (heights_along n f)
of_below n f h = record { of_c = (h.ac, h.bc); of_d = (h.ad, h.bd); of_e = (h.ae, h.be) }

weakly_below_of : (n : Triple) (f : Positions) → LieWeaklyOn Below (heights_along n f) → IsWeaklyBelow n f
weakly_below_of n f h = record { ac = h.of_c.0; ad = h.of_d.0; ae = h.of_e.0; bc = h.of_c.1; bd = h.of_d.1; be = h.of_e.1 }

of_weakly_below : (n : Triple) (f : Positions) → IsWeaklyBelow n f → LieWeaklyOn Below (heights_along n f)
of_weakly_below n f h = record { of_c = (h.ac, h.bc); of_d = (h.ad, h.bd); of_e = (h.ae, h.be) }

above_by : (n : Triple) (f : Positions) → LieOn Above (heights_along n f) → IsAbove n f
above_by n f h = record {
  ac = above_of n f.a f.c h.of_c.0;
  ad = above_of n f.a f.d h.of_d.0;
  ae = above_of n f.a f.e h.of_e.0;
  bc = above_of n f.b f.c h.of_c.1;
  bd = above_of n f.b f.d h.of_d.1;
  be = above_of n f.b f.e h.of_e.1;
}

by_above : (n : Triple) (f : Positions) → IsAbove n f → LieOn Above (heights_along n f)
by_above n f h = record {
  of_c = (of_above n f.a f.c h.ac, of_above n f.b f.c h.bc);
  of_d = (of_above n f.a f.d h.ad, of_above n f.b f.d h.bd);
  of_e = (of_above n f.a f.e h.ae, of_above n f.b f.e h.be);
}

weakly_above_by : (n : Triple) (f : Positions) → LieWeaklyOn Above (heights_along n f) → IsWeaklyAbove n f
weakly_above_by n f h = record {
  ac = weakly_above_of n f.a f.c h.of_c.0;
  ad = weakly_above_of n f.a f.d h.of_d.0;
  ae = weakly_above_of n f.a f.e h.of_e.0;
  bc = weakly_above_of n f.b f.c h.of_c.1;
  bd = weakly_above_of n f.b f.d h.of_d.1;
  be = weakly_above_of n f.b f.e h.of_e.1;
}

by_weakly_above : (n : Triple) (f : Positions) → IsWeaklyAbove n f → LieWeaklyOn Above (heights_along n f)
by_weakly_above n f h = record {
  of_c = (of_weakly_above n f.a f.c h.ac, of_weakly_above n f.b f.c h.bc);
  of_d = (of_weakly_above n f.a f.d h.ad, of_weakly_above n f.b f.d h.bd);
  of_e = (of_weakly_above n f.a f.e h.ae, of_weakly_above n f.b f.e h.be);
}

-- ---- what a direction does
pub keeps_of : (n : Triple) (s t : Positions) → KeepApart (heights_along n s) (heights_along n t) → KeepsApart s t n
keeps_of n s t (inl h) = inl (below_of n s h.0, below_of n t h.1)
keeps_of n s t (inr h) = inr (above_by n s h.0, above_by n t h.1)

pub of_keeps : (n : Triple) (s t : Positions) → KeepsApart s t n → KeepApart (heights_along n s) (heights_along n t)
of_keeps n s t (inl h) = inl (of_below n s h.0, of_below n t h.1)
of_keeps n s t (inr h) = inr (by_above n s h.0, by_above n t h.1)

pub takes_of : (n : Triple) (s t : Positions) → TakeApart (heights_along n s) (heights_along n t) → TakesApart s t n
takes_of n s t (inl h) = inl (weakly_below_of n s h.0, below_of n t h.1)
takes_of n s t (inr h) = inr (weakly_above_by n s h.0, above_by n t h.1)

pub of_takes : (n : Triple) (s t : Positions) → TakesApart s t n → TakeApart (heights_along n s) (heights_along n t)
of_takes n s t (inl h) = inl (of_weakly_below n s h.0, of_below n t h.1)
of_takes n s t (inr h) = inr (by_weakly_above n s h.0, by_above n t h.1)
