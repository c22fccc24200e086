-- A direction keeps apart what heights along it do.
use Rattle.std.proofs.Common.{◌≡◌, ℤ, ◌<ℤ◌, neg_ℤ, refl, sym}
use Rattle.grid_base.specs.declared.Positions.{Positions}
use Rattle.grid_base.specs.Separation.{IsBelow, IsAbove}
use Rattle.grid_base.specs.Triples.{Triple, dot, opposite}
use Rattle.motion_test.specs.Heights.{axis_x, axis_y, axis_z}
use Rattle.motion_test.proofs.OtherWay.{above_of}
use Rattle.neighbour_list.specs.Heights.{AreBelow, AreAbove}
use Rattle.neighbour_list.proofs.Coordinates.{neg_less, read_x, read_y, read_z, minus_x, minus_y, minus_z}

-- along a direction n that reads a number of a position
module _ (n : Triple) (read : Triple → ℤ) (lower : (p q : Triple) → read p <ℤ read q → dot n p <ℤ dot n q) (higher : (p q : Triple) → read q <ℤ read p → dot (opposite n) p <ℤ dot (opposite n) q) (f : Positions) (a b c d e : ℤ)
    (at_a : a ≡ read f.a) (at_b : b ≡ read f.b) (at_c : c ≡ read f.c) (at_d : d ≡ read f.d) (at_e : e ≡ read f.e) where
  less : (p q : Triple) (u v : ℤ) → u ≡ read p → v ≡ read q → u <ℤ v → dot n p <ℤ dot n q
  less p q u v h i lt = lower p q (rw (sym h, sym i) lt)

  more : (p q : Triple) (u v : ℤ) → u ≡ read p → v ≡ read q → v <ℤ u → dot (opposite n) p <ℤ dot (opposite n) q
  more p q u v h i lt = higher p q (rw (sym h, sym i) lt)

  pub below : AreBelow a b c d e → IsBelow n f
  below h = record {
    ac = less f.a f.c a c at_a at_c h.0;
    bc = less f.b f.c b c at_b at_c h.1;
    ad = less f.a f.d a d at_a at_d h.2;
    bd = less f.b f.d b d at_b at_d h.3;
    ae = less f.a f.e a e at_a at_e h.4;
    be = less f.b f.e b e at_b at_e h.5;
  }

  pub above : AreAbove a b c d e → IsAbove n f
  above h = record {
    ac = more f.a f.c a c at_a at_c h.0;
    bc = more f.b f.c b c at_b at_c h.1;
    ad = more f.a f.d a d at_a at_d h.2;
    bd = more f.b f.d b d at_b at_d h.3;
    ae = more f.a f.e a e at_a at_e h.4;
    be = more f.b f.e b e at_b at_e h.5;
  }

-- ---- any direction
module _ (n : Triple) (f : Positions) (a b c d e : ℤ) where
  pub below_along : a ≡ dot n f.a → b ≡ dot n f.b → c ≡ dot n f.c → d ≡ dot n f.d → e ≡ dot n f.e → AreBelow a b c d e → IsBelow n f
  below_along = below n (dot n) (λ p q h. h) (above_of n) f a b c d e

  pub above_along : a ≡ dot n f.a → b ≡ dot n f.b → c ≡ dot n f.c → d ≡ dot n f.d → e ≡ dot n f.e → AreAbove a b c d e → IsAbove n f
  above_along = above n (dot n) (λ p q h. h) (above_of n) f a b c d e

-- ---- the axes
module _ (n : Triple) (read : Triple → ℤ) (along : (p : Triple) → dot n p ≡ read p) (against : (p : Triple) → dot (opposite n) p ≡ neg_ℤ (read p)) where
  lower_on : (p q : Triple) → read p <ℤ read q → dot n p <ℤ dot n q
  lower_on p q h = rw (along p, along q) h

  higher_on : (p q : Triple) → read q <ℤ read p → dot (opposite n) p <ℤ dot (opposite n) q
  higher_on p q h = rw (against p, against q) (neg_less (read p) (read q) h)

lower_x : (p q : Triple) → p.x <ℤ q.x → dot axis_x p <ℤ dot axis_x q
lower_x = lower_on axis_x (λ t. t.x) (λ t. read_x t.x t.y t.z) (λ t. minus_x t.x t.y t.z)

higher_x : (p q : Triple) → q.x <ℤ p.x → dot (opposite axis_x) p <ℤ dot (opposite axis_x) q
higher_x = higher_on axis_x (λ t. t.x) (λ t. read_x t.x t.y t.z) (λ t. minus_x t.x t.y t.z)

lower_y : (p q : Triple) → p.y <ℤ q.y → dot axis_y p <ℤ dot axis_y q
lower_y = lower_on axis_y (λ t. t.y) (λ t. read_y t.x t.y t.z) (λ t. minus_y t.x t.y t.z)

higher_y : (p q : Triple) → q.y <ℤ p.y → dot (opposite axis_y) p <ℤ dot (opposite axis_y) q
higher_y = higher_on axis_y (λ t. t.y) (λ t. read_y t.x t.y t.z) (λ t. minus_y t.x t.y t.z)

lower_z : (p q : Triple) → p.z <ℤ q.z → dot axis_z p <ℤ dot axis_z q
lower_z = lower_on axis_z (λ t. t.z) (λ t. read_z t.x t.y t.z) (λ t. minus_z t.x t.y t.z)

higher_z : (p q : Triple) → q.z <ℤ p.z → dot (opposite axis_z) p <ℤ dot (opposite axis_z) q
higher_z = higher_on axis_z (λ t. t.z) (λ t. read_z t.x t.y t.z) (λ t. minus_z t.x t.y t.z)

module _ (f : Positions) (a b c d e : ℤ) where
  pub below_x : a ≡ f.a.x → b ≡ f.b.x → c ≡ f.c.x → d ≡ f.d.x → e ≡ f.e.x → AreBelow a b c d e → IsBelow axis_x f
  below_x = below axis_x (λ t. t.x) lower_x higher_x f a b c d e

  pub above_x : a ≡ f.a.x → b ≡ f.b.x → c ≡ f.c.x → d ≡ f.d.x → e ≡ f.e.x → AreAbove a b c d e → IsAbove axis_x f
  above_x = above axis_x (λ t. t.x) lower_x higher_x f a b c d e

  pub below_y : a ≡ f.a.y → b ≡ f.b.y → c ≡ f.c.y → d ≡ f.d.y → e ≡ f.e.y → AreBelow a b c d e → IsBelow axis_y f
  below_y = below axis_y (λ t. t.y) lower_y higher_y f a b c d e

  pub above_y : a ≡ f.a.y → b ≡ f.b.y → c ≡ f.c.y → d ≡ f.d.y → e ≡ f.e.y → AreAbove a b c d e → IsAbove axis_y f
  above_y = above axis_y (λ t. t.y) lower_y higher_y f a b c d e

  pub below_z : a ≡ f.a.z → b ≡ f.b.z → c ≡ f.c.z → d ≡ f.d.z → e ≡ f.e.z → AreBelow a b c d e → IsBelow axis_z f
  below_z = below axis_z (λ t. t.z) lower_z higher_z f a b c d e

  pub above_z : a ≡ f.a.z → b ≡ f.b.z → c ≡ f.c.z → d ≡ f.d.z → e ≡ f.e.z → AreAbove a b c d e → IsAbove axis_z f
  above_z = above axis_z (λ t. t.z) lower_z higher_z f a b c d e
