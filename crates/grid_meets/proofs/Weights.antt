-- Weights that are given as whole numbers, none negative.
use Rattle.std.proofs.Common.{◌≡◌, ℕ, ◌+◌, ◌*◌, ◌<◌, ℤ, pos, negsuc, ◌+ℤ◌, ◌*ℤ◌, ◌<ℤ◌, ◌≤ℤ◌, [], ◌∷◌, unsigned_abs, refl, arith}
use Rattle.std.proofs.lemmas.Int.{ints}
use Rattle.grid_base.specs.Triples.{Triple}
use Rattle.grid_base.specs.Meeting.{Meets}
use Rattle.grid_base.proofs.MeetingLaws.{same_triple}
use Rattle.grid_base.proofs.Polynomials.{var, add, mul, same_polynomial}

-- ---- signs
pub weak : (x : ℤ) → pos 0 <ℤ x → pos 0 ≤ℤ x
weak x h = omega (arith, ints)

pub natural : (n : ℕ) → pos 0 ≤ℤ pos n
natural n = omega (arith, ints)

pub natural_some : (n : ℕ) → 0 < n → pos 0 <ℤ pos n
natural_some n h = omega (arith, ints)

pub add_up : (x y : ℤ) → pos 0 ≤ℤ x → pos 0 ≤ℤ y → pos 0 ≤ℤ (x +ℤ y)
add_up x y h k = omega (arith, ints)

pub product-not_negative : (x y : ℤ) → pos 0 ≤ℤ x → pos 0 ≤ℤ y → pos 0 ≤ℤ (x *ℤ y)
product-not_negative (pos m) (pos n) p q = omega (arith, ints)
product-not_negative (negsuc m) y p q = absurd (omega (arith, ints))
product-not_negative (pos m) (negsuc n) p q = absurd (omega (arith, ints))

some_product : (m n : ℕ) → 0 < m → 0 < n → 0 < m * n
some_product m n p q = grind arith

pub product-positive : (x y : ℤ) → pos 0 <ℤ x → pos 0 <ℤ y → pos 0 <ℤ (x *ℤ y)
product-positive (pos m) (pos n) p q =
    let m_some : 0 < m = omega (arith, ints) in
    let n_some : 0 < n = omega (arith, ints) in
    let some = some_product m n m_some n_some in
    omega (arith, ints)
product-positive (negsuc m) y p q = absurd (omega (arith, ints))
product-positive (pos m) (negsuc n) p q = absurd (omega (arith, ints))

-- ---- weights
pub split : (s : ℤ) (i j : ℕ) → s *ℤ pos (i + j) ≡ s *ℤ pos i +ℤ s *ℤ pos j
split s i j = same_polynomial (s ∷ pos i ∷ pos j ∷ []) (mul (var 0) (add (var 1) (var 2))) (add (mul (var 0) (var 1)) (mul (var 0) (var 2))) refl

pub abs_up : (z : ℤ) → pos 0 ≤ℤ z → pos (unsigned_abs z) ≡ z
abs_up z h = omega (arith, ints)

some_abs : (x y : ℤ) → pos 0 <ℤ (x +ℤ y) → 0 < unsigned_abs x + unsigned_abs y
some_abs x y h = omega (arith, ints)

same_abs : (i j k l m : ℕ) (x y z u v : ℤ) → pos i ≡ x → pos j ≡ y → pos k ≡ z → pos l ≡ u → pos m ≡ v → x +ℤ y ≡ z +ℤ u +ℤ v → i + j ≡ k + l + m
same_abs i j k l m x y z u v hx hy hz hu hv h = omega (arith, ints)

-- five whole numbers that are weights
pub record AreWeights (i j k l m : ℤ) : Type 0 where
  pub i_fits : pos 0 ≤ℤ i
  pub j_fits : pos 0 ≤ℤ j
  pub k_fits : pos 0 ≤ℤ k
  pub l_fits : pos 0 ≤ℤ l
  pub m_fits : pos 0 ≤ℤ m
  pub some : pos 0 <ℤ (i +ℤ j)
  pub same : i +ℤ j ≡ k +ℤ l +ℤ m

one_position : (i j k l m : ℤ) → AreWeights i j k l m → (a b c d e : ℤ) → i *ℤ a +ℤ j *ℤ b ≡ k *ℤ c +ℤ l *ℤ d +ℤ m *ℤ e →
    pos (unsigned_abs i) *ℤ a +ℤ pos (unsigned_abs j) *ℤ b ≡ pos (unsigned_abs k) *ℤ c +ℤ pos (unsigned_abs l) *ℤ d +ℤ pos (unsigned_abs m) *ℤ e
one_position i j k l m w a b c d e h = rw (abs_up i w.i_fits, abs_up j w.j_fits, abs_up k w.k_fits, abs_up l w.l_fits, abs_up m w.m_fits) h

pub Meets-by_weights : (i j k l m : ℤ) (a b c d e : Triple) → AreWeights i j k l m →
    i *ℤ a.x +ℤ j *ℤ b.x ≡ k *ℤ c.x +ℤ l *ℤ d.x +ℤ m *ℤ e.x →
    i *ℤ a.y +ℤ j *ℤ b.y ≡ k *ℤ c.y +ℤ l *ℤ d.y +ℤ m *ℤ e.y →
    i *ℤ a.z +ℤ j *ℤ b.z ≡ k *ℤ c.z +ℤ l *ℤ d.z +ℤ m *ℤ e.z → Meets a b c d e
Meets-by_weights i j k l m a b c d e w hx hy hz = record {
  i = unsigned_abs i;
  j = unsigned_abs j;
  k = unsigned_abs k;
  l = unsigned_abs l;
  m = unsigned_abs m;
  some_weight = some_abs i j w.some;
  same_weight = same_abs (unsigned_abs i) (unsigned_abs j) (unsigned_abs k) (unsigned_abs l) (unsigned_abs m) i j k l m (abs_up i w.i_fits) (abs_up j w.j_fits) (abs_up k w.k_fits) (abs_up l w.l_fits) (abs_up m w.m_fits) w.same;
  same_position = same_triple _ _ (one_position i j k l m w a.x b.x c.x d.x e.x hx) (one_position i j k l m w a.y b.y c.y d.y e.y hy) (one_position i j k l m w a.z b.z c.z d.z e.z hz);
}
