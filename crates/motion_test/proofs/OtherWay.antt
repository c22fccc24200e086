-- A direction and the direction the other way.
use Rattle.std.proofs.Common.{◌≡◌, ℤ, pos, ◌-ℤ◌, ◌<ℤ◌, ◌≤ℤ◌, neg_ℤ, [], ◌∷◌, refl, arith}
use Rattle.std.proofs.lemmas.Int.{ints}
use Rattle.grid_base.specs.Triples.{Triple, opposite, dot}
use Rattle.grid_base.proofs.Polynomials.{num, add, sub, mul, same_polynomial}
use Rattle.grid_base.proofs.TermTriples.{var3, dot_t, components}

negative : (z : ℤ) → neg_ℤ z ≡ pos 0 -ℤ z
negative z = omega (arith, ints)

dot-opposite : (n t : Triple) → dot (opposite n) t ≡ pos 0 -ℤ dot n t
dot-opposite n t =
    let n' = var3 0 in let t' = var3 3 in let none = num (pos 0) in
    rw (negative n.x, negative n.y, negative n.z)
    (same_polynomial (components (n ∷ t ∷ []))
    (add (add (mul (sub none n'.x) t'.x) (mul (sub none n'.y) t'.y)) (mul (sub none n'.z) t'.z))
    (sub none (dot_t n' t')) refl)

less_back : (a c a' c' : ℤ) → a' ≡ pos 0 -ℤ a → c' ≡ pos 0 -ℤ c → a' <ℤ c' → c <ℤ a
less_back a c a' c' p q h = omega (arith, ints)

less_over : (a c a' c' : ℤ) → a' ≡ pos 0 -ℤ a → c' ≡ pos 0 -ℤ c → c <ℤ a → a' <ℤ c'
less_over a c a' c' p q h = omega (arith, ints)

most_back : (a c a' c' : ℤ) → a' ≡ pos 0 -ℤ a → c' ≡ pos 0 -ℤ c → a' ≤ℤ c' → c ≤ℤ a
most_back a c a' c' p q h = omega (arith, ints)

most_over : (a c a' c' : ℤ) → a' ≡ pos 0 -ℤ a → c' ≡ pos 0 -ℤ c → c ≤ℤ a → a' ≤ℤ c'
most_over a c a' c' p q h = omega (arith, ints)

pub above_of : (n a c : Triple) → dot n c <ℤ dot n a → dot (opposite n) a <ℤ dot (opposite n) c
above_of n a c h = less_over _ _ _ _ (dot-opposite n a) (dot-opposite n c) h

pub of_above : (n a c : Triple) → dot (opposite n) a <ℤ dot (opposite n) c → dot n c <ℤ dot n a
of_above n a c h = less_back _ _ _ _ (dot-opposite n a) (dot-opposite n c) h

pub weakly_above_of : (n a c : Triple) → dot n c ≤ℤ dot n a → dot (opposite n) a ≤ℤ dot (opposite n) c
weakly_above_of n a c h = most_over _ _ _ _ (dot-opposite n a) (dot-opposite n c) h

pub of_weakly_above : (n a c : Triple) → dot (opposite n) a ≤ℤ dot (opposite n) c → dot n c ≤ℤ dot n a
of_weakly_above n a c h = most_back _ _ _ _ (dot-opposite n a) (dot-opposite n c) h
