-- The two segments exchanged, and segments of no length.
use Rattle.std.proofs.Common.{◌≡◌, ℕ, ◌+◌, ◌<◌, ℤ, pos, ◌+ℤ◌, ◌-ℤ◌, ◌*ℤ◌, [], ◌∷◌, ap, refl, arith}
use Rattle.std.proofs.lemmas.Int.{ints}
use Rattle.grid_base.specs.Triples.{Triple, minus, cross}
use Rattle.grid_base.specs.Meeting.{Meets}
use Rattle.grid_meets.specs.Segments.{HasNoLength}
use Rattle.grid_base.proofs.Polynomials.{var, num, add, sub, mul, same_polynomial, same_by_known}
use Rattle.grid_base.proofs.TermTriples.{var3, cross_t, components}
use Rattle.grid_base.proofs.Order.{times-cancel}
use Rattle.grid_base.proofs.MeetingLaws.{same_triple}
use Rattle.grid_meets.proofs.Weights.{AreWeights, Meets-by_weights}

swapped : (i j k l m : ℕ) (a b c d : ℤ) → pos i *ℤ a +ℤ pos j *ℤ b ≡ pos k *ℤ c +ℤ pos l *ℤ d +ℤ pos m *ℤ d →
    pos k *ℤ c +ℤ pos (l + m) *ℤ d ≡ pos i *ℤ a +ℤ pos j *ℤ b +ℤ pos 0 *ℤ b
swapped i j k l m a b c d h =
    same_by_known (pos i ∷ pos j ∷ pos k ∷ pos l ∷ pos m ∷ a ∷ b ∷ c ∷ d ∷ [])
    (record { factor = sub (num (pos 0)) (num (pos 1)); left = add (mul (var 0) (var 5)) (mul (var 1) (var 6)); right = add (add (mul (var 2) (var 7)) (mul (var 3) (var 8))) (mul (var 4) (var 8)) } ∷ [])
    (add (mul (var 2) (var 7)) (mul (add (var 3) (var 4)) (var 8))) (add (add (mul (var 0) (var 5)) (mul (var 1) (var 6))) (mul (num (pos 0)) (var 6)))
    (h, tt) refl

pub Meets-swapped : (a b c d : Triple) → Meets a b c d d → Meets c d a b b
Meets-swapped a b c d w = record {
  i = w.k;
  j = w.l + w.m;
  k = w.i;
  l = w.j;
  m = 0;
  some_weight = some w.i w.j w.k w.l w.m w.some_weight w.same_weight;
  same_weight = total w.i w.j w.k w.l w.m w.same_weight;
  same_position = same_triple _ _
      (swapped w.i w.j w.k w.l w.m a.x b.x c.x d.x (ap (λ (t : Triple). t.x) w.same_position))
      (swapped w.i w.j w.k w.l w.m a.y b.y c.y d.y (ap (λ (t : Triple). t.y) w.same_position))
      (swapped w.i w.j w.k w.l w.m a.z b.z c.z d.z (ap (λ (t : Triple). t.z) w.same_position));
}
  where
    some : (i j k l m : ℕ) → 0 < i + j → i + j ≡ k + l + m → 0 < k + (l + m)
    some i j k l m h e = omega arith

    total : (i j k l m : ℕ) → i + j ≡ k + l + m → k + (l + m) ≡ i + j + 0
    total i j k l m e = omega arith

pub HasNoLength-swapped : (u v : Triple) → HasNoLength (cross u v) → HasNoLength (cross v u)
HasNoLength-swapped u v h =
    let u' = var3 0 in let v' = var3 3 in let n' = cross_t u' v' in let m' = cross_t v' u' in
    let xs = components (u ∷ v ∷ []) in
    record {
      x = turned _ _ (same_polynomial xs m'.x (sub (num (pos 0)) n'.x) refl) h.x;
      y = turned _ _ (same_polynomial xs m'.y (sub (num (pos 0)) n'.y) refl) h.y;
      z = turned _ _ (same_polynomial xs m'.z (sub (num (pos 0)) n'.z) refl) h.z;
    }
  where
    turned : (m n : ℤ) → m ≡ pos 0 -ℤ n → n ≡ pos 0 → m ≡ pos 0
    turned m n e h = omega (arith, ints)

-- ---- two points
pub points_meet : (a b c d : Triple) → a ≡ c → Meets a b c d d
points_meet a b c d e = Meets-by_weights (pos 1) (pos 0) (pos 1) (pos 0) (pos 0) a b c d d weights
    (one a.x b.x c.x d.x (ap (λ (t : Triple). t.x) e)) (one a.y b.y c.y d.y (ap (λ (t : Triple). t.y) e)) (one a.z b.z c.z d.z (ap (λ (t : Triple). t.z) e))
  where
    weights : AreWeights (pos 1) (pos 0) (pos 1) (pos 0) (pos 0)
    weights = record { i_fits = omega (arith, ints); j_fits = omega (arith, ints); k_fits = omega (arith, ints); l_fits = omega (arith, ints); m_fits = omega (arith, ints); some = omega (arith, ints); same = refl }

    one : (a b c d : ℤ) → a ≡ c → pos 1 *ℤ a +ℤ pos 0 *ℤ b ≡ pos 1 *ℤ c +ℤ pos 0 *ℤ d +ℤ pos 0 *ℤ d
    one a b c d e = same_by_known (a ∷ b ∷ c ∷ d ∷ []) (record { factor = num (pos 1); left = var 0; right = var 2 } ∷ [])
        (add (mul (num (pos 1)) (var 0)) (mul (num (pos 0)) (var 1))) (add (add (mul (num (pos 1)) (var 2)) (mul (num (pos 0)) (var 3))) (mul (num (pos 0)) (var 3))) (e, tt) refl

one_point : (i j k l m : ℕ) (a b c d : ℤ) → 0 < i + j → i + j ≡ k + l + m → b -ℤ a ≡ pos 0 → d -ℤ c ≡ pos 0 →
    pos i *ℤ a +ℤ pos j *ℤ b ≡ pos k *ℤ c +ℤ pos l *ℤ d +ℤ pos m *ℤ d → a ≡ c
one_point i j k l m a b c d some same hb hd h = times-cancel (i + j) a c some
    (same_by_known (pos i ∷ pos j ∷ pos k ∷ pos l ∷ pos m ∷ a ∷ b ∷ c ∷ d ∷ [])
    (record { factor = num (pos 1); left = add (mul (var 0) (var 5)) (mul (var 1) (var 6)); right = add (add (mul (var 2) (var 7)) (mul (var 3) (var 8))) (mul (var 4) (var 8)) }
    ∷ record { factor = sub (num (pos 0)) (var 1); left = sub (var 6) (var 5); right = num (pos 0) }
    ∷ record { factor = add (var 3) (var 4); left = sub (var 8) (var 7); right = num (pos 0) }
    ∷ record { factor = sub (num (pos 0)) (var 7); left = add (var 0) (var 1); right = add (add (var 2) (var 3)) (var 4) } ∷ [])
    (mul (add (var 0) (var 1)) (var 5)) (mul (add (var 0) (var 1)) (var 7)) (h, (hb, (hd, (ap pos same, tt)))) refl)

pub points_same : (a b c d : Triple) → HasNoLength (minus b a) → HasNoLength (minus d c) → Meets a b c d d → a ≡ c
points_same a b c d u v w = same_triple a c
    (one_point w.i w.j w.k w.l w.m a.x b.x c.x d.x w.some_weight w.same_weight u.x v.x (ap (λ (t : Triple). t.x) w.same_position))
    (one_point w.i w.j w.k w.l w.m a.y b.y c.y d.y w.some_weight w.same_weight u.y v.y (ap (λ (t : Triple). t.y) w.same_position))
    (one_point w.i w.j w.k w.l w.m a.z b.z c.z d.z w.some_weight w.same_weight u.z v.z (ap (λ (t : Triple). t.z) w.same_position))
