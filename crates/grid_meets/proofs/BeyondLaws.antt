-- An edge and a triangle do not meet where the numbers of one are beyond those of the other along an axis.
use Rattle.std.proofs.Common.{◌≡◌, ℕ, ◌+◌, ◌<◌, ℤ, pos, ◌+ℤ◌, ◌-ℤ◌, ◌*ℤ◌, ◌<ℤ◌, ◌≤ℤ◌, inl, inr, [], ◌∷◌, ap, refl, arith}
use Rattle.std.proofs.lemmas.Int.{ints, by_lt_z}
use Rattle.grid_base.specs.Triples.{Triple}
use Rattle.grid_base.specs.Meeting.{Meets}
use Rattle.grid_base.proofs.Polynomials.{var, num, add, sub, mul, same_by_known}
use Rattle.grid_base.proofs.MeetingLaws.{no_mean_below}
use Rattle.grid_meets.specs.Beyond.{LieBeyond}

-- no mean of two lower numbers is one of three higher numbers
no_mean : (i j k l m : ℕ) (a b c d e : ℤ) → 0 < i + j → i + j ≡ k + l + m → (a <ℤ c) × (a <ℤ d) × (a <ℤ e) → (b <ℤ c) × (b <ℤ d) × (b <ℤ e) →
    pos i *ℤ a +ℤ pos j *ℤ b ≡ pos k *ℤ c +ℤ pos l *ℤ d +ℤ pos m *ℤ e → ⊥
no_mean i j k l m a b c d e some same a_least b_least mean = by_lt_z a b
    (λ ab. no_mean_below i j k l m a b c d e some same b (weaken a b ab) (itself b) b_least.0 b_least.1 b_least.2 mean)
    (λ ba. no_mean_below i j k l m a b c d e some same a (itself a) ba a_least.0 a_least.1 a_least.2 mean)
  where
    weaken : (a b : ℤ) → a <ℤ b → a ≤ℤ b
    weaken a b h = omega (arith, ints)

    itself : (a : ℤ) → a ≤ℤ a
    itself a = omega (arith, ints)

less_turned : (a c : ℤ) → c <ℤ a → (pos 0 -ℤ a) <ℤ (pos 0 -ℤ c)
less_turned a c h = omega (arith, ints)

mean_turned : (i j k l m : ℕ) (a b c d e : ℤ) → pos i *ℤ a +ℤ pos j *ℤ b ≡ pos k *ℤ c +ℤ pos l *ℤ d +ℤ pos m *ℤ e →
    pos i *ℤ (pos 0 -ℤ a) +ℤ pos j *ℤ (pos 0 -ℤ b) ≡ pos k *ℤ (pos 0 -ℤ c) +ℤ pos l *ℤ (pos 0 -ℤ d) +ℤ pos m *ℤ (pos 0 -ℤ e)
mean_turned i j k l m a b c d e h =
    let none = num (pos 0) in
    same_by_known (pos i ∷ pos j ∷ pos k ∷ pos l ∷ pos m ∷ a ∷ b ∷ c ∷ d ∷ e ∷ [])
    (record { factor = sub none (num (pos 1)); left = add (mul (var 0) (var 5)) (mul (var 1) (var 6)); right = add (add (mul (var 2) (var 7)) (mul (var 3) (var 8))) (mul (var 4) (var 9)) } ∷ [])
    (add (mul (var 0) (sub none (var 5))) (mul (var 1) (sub none (var 6))))
    (add (add (mul (var 2) (sub none (var 7))) (mul (var 3) (sub none (var 8)))) (mul (var 4) (sub none (var 9))))
    (h, tt) refl

beyond_no_mean : (i j k l m : ℕ) (a b c d e : ℤ) → 0 < i + j → i + j ≡ k + l + m → LieBeyond a b c d e →
    pos i *ℤ a +ℤ pos j *ℤ b ≡ pos k *ℤ c +ℤ pos l *ℤ d +ℤ pos m *ℤ e → ⊥
beyond_no_mean i j k l m a b c d e some same (inl below) mean = no_mean i j k l m a b c d e some same below.0 below.1 mean
beyond_no_mean i j k l m a b c d e some same (inr above) mean =
    no_mean i j k l m (pos 0 -ℤ a) (pos 0 -ℤ b) (pos 0 -ℤ c) (pos 0 -ℤ d) (pos 0 -ℤ e) some same
    (less_turned a c above.0.0, less_turned a d above.0.1, less_turned a e above.0.2)
    (less_turned b c above.1.0, less_turned b d above.1.1, less_turned b e above.1.2)
    (mean_turned i j k l m a b c d e mean)

pub beyond_x : (a b c d e : Triple) → LieBeyond a.x b.x c.x d.x e.x → ¬ (Meets a b c d e)
beyond_x a b c d e beyond w = beyond_no_mean w.i w.j w.k w.l w.m a.x b.x c.x d.x e.x w.some_weight w.same_weight beyond (ap (λ (t : Triple). t.x) w.same_position)

pub beyond_y : (a b c d e : Triple) → LieBeyond a.y b.y c.y d.y e.y → ¬ (Meets a b c d e)
beyond_y a b c d e beyond w = beyond_no_mean w.i w.j w.k w.l w.m a.y b.y c.y d.y e.y w.some_weight w.same_weight beyond (ap (λ (t : Triple). t.y) w.same_position)

pub beyond_z : (a b c d e : Triple) → LieBeyond a.z b.z c.z d.z e.z → ¬ (Meets a b c d e)
beyond_z a b c d e beyond w = beyond_no_mean w.i w.j w.k w.l w.m a.z b.z c.z d.z e.z w.some_weight w.same_weight beyond (ap (λ (t : Triple). t.z) w.same_position)
