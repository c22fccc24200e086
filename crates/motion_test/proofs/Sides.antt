-- The side that an edge is on: there is one at most, and it tells what keeps or takes the edge apart.
use Rattle.std.proofs.Common.{◌≡◌, inl, inr, refl, Some, None, ℤ, ◌<ℤ◌, arith}
use Rattle.std.specs.Prelude.{Option}
use Rattle.std.proofs.lemmas.Int.{ints}
use Rattle.motion_test.specs.declared.heights.Heights.{Heights}
use Rattle.motion_test.specs.declared.side.Side.{Side}
use Rattle.motion_test.specs.declared.side.Side.TheVariants.{Below, Above}
use Rattle.motion_test.specs.Heights.{AreOn, LieOn, LieWeaklyOn, KeepApart, TakeApart}

clash : (a c : ℤ) → a <ℤ c → c <ℤ a → ⊥
clash a c h k = omega (arith, ints)

-- two heights are on one side of a third at most
pub one_side : (side other : Side) (a b c : ℤ) → AreOn side a b c → AreOn other a b c → side ≡ other
one_side Below Below a b c p q = refl
one_side Below Above a b c p q = absurd (clash a c p.0 q.0)
one_side Above Below a b c p q = absurd (clash a c q.0 p.0)
one_side Above Above a b c p q = refl

pub none≢some : (side : Side) → ◌≡◌ {A = Option Side} None (Some side) → ⊥
none≢some side e = cc

pub some_same : (side other : Side) → Some side ≡ Some other → side ≡ other
some_same side other e = cc

pub some_of : (side other : Side) → side ≡ other → Some side ≡ Some other
some_of side other e = cc

-- ---- kept apart
pub keep_by : (side : Side) (s t : Heights) → LieOn side s → LieOn side t → KeepApart s t
keep_by Below s t p q = inl (p, q)
keep_by Above s t p q = inr (p, q)

pub by_keep : (side : Side) (s t : Heights) → LieOn side s → KeepApart s t → LieOn side t
by_keep Below s t p (inl h) = h.1
by_keep Below s t p (inr h) = absurd (clash s.a s.c p.of_c.0 h.0.of_c.0)
by_keep Above s t p (inl h) = absurd (clash s.a s.c h.0.of_c.0 p.of_c.0)
by_keep Above s t p (inr h) = h.1

pub keep_side : (s t : Heights) → ((side : Side) → LieOn side s → ⊥) → KeepApart s t → ⊥
keep_side s t none (inl h) = none Below h.0
keep_side s t none (inr h) = none Above h.0

-- ---- taken apart
pub take_by : (side : Side) (s t : Heights) → LieOn side t → LieWeaklyOn side s → TakeApart s t
take_by Below s t p q = inl (q, p)
take_by Above s t p q = inr (q, p)

pub by_take : (side : Side) (s t : Heights) → LieOn side t → TakeApart s t → LieWeaklyOn side s
by_take Below s t p (inl h) = h.0
by_take Below s t p (inr h) = absurd (clash t.a t.c p.of_c.0 h.1.of_c.0)
by_take Above s t p (inl h) = absurd (clash t.a t.c h.1.of_c.0 p.of_c.0)
by_take Above s t p (inr h) = h.0

pub take_side : (s t : Heights) → ((side : Side) → LieOn side t → ⊥) → TakeApart s t → ⊥
take_side s t none (inl h) = none Below h.1
take_side s t none (inr h) = none Above h.1
