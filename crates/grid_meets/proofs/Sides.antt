-- An edge that starts in the plane of a triangle meets the triangle exactly where it starts in it or meets a side.
use Rattle.std.proofs.Common.{◌≡◌, ℕ, ◌+◌, ℤ, pos, ◌+ℤ◌, ◌-ℤ◌, ◌*ℤ◌, ◌<ℤ◌, ◌≤ℤ◌, [], ◌∷◌, ◌⊎◌, ⊎_elim, inl, inr, ap, refl, ◌∙◌, arith}
use Rattle.std.proofs.lemmas.Int.{ints, by_lt_z}
use Rattle.grid_base.specs.Triples.{Triple, minus, dot, cross, orientation}
use Rattle.grid_base.specs.Meeting.{Meets}
use Rattle.grid_meets.specs.Segments.{MeetsSide}
use Rattle.grid_base.proofs.Polynomials.{var, num, add, sub, mul, same_polynomial}
use Rattle.grid_base.proofs.MeetingLaws.{same_triple}
use Rattle.grid_meets.proofs.Weights.{AreWeights, Meets-by_weights, natural, add_up, product-not_negative}
use Rattle.grid_meets.proofs.Crossing.{Meets-turned, Meets-turned-k, Meets-turned-m}
use Rattle.grid_meets.proofs.Plane.{LiesBy, LiesBy-turned, LiesBy-in_plane, exit_at}

other_way : (p : ℤ) → p <ℤ pos 0 → pos 0 ≤ℤ (pos 0 -ℤ p)
other_way p h = omega (arith, ints)

room : (p q : ℤ) (k l : ℕ) → p <ℤ pos 0 → pos 0 ≤ℤ q → pos 0 ≤ℤ ((pos 0 -ℤ p) *ℤ pos l +ℤ pos k *ℤ q)
room p q k l out inside = add_up ((pos 0 -ℤ p) *ℤ pos l) (pos k *ℤ q) (product-not_negative (pos 0 -ℤ p) (pos l) (other_way p out) (natural l)) (product-not_negative (pos k) q (natural k) inside)

-- out across one side
one_out : (a b c d e : Triple) (N p q r : ℤ) → Meets a b c d e → LiesBy a c d e N p q r → p <ℤ pos 0 → pos 0 ≤ℤ q → pos 0 ≤ℤ r → Meets a b d e e
one_out a b c d e N p q r w at hp hq hr = exit_at a b c d e N p q r w at hp (room p q w.k w.l hp hq) (room p r w.k w.m hp hr)

-- out across two sides: the one that is met first
two_out : (a b c d e : Triple) (N p q r : ℤ) → Meets a b c d e → LiesBy a c d e N p q r → p <ℤ pos 0 → q <ℤ pos 0 → pos 0 ≤ℤ r → Meets a b d e e ⊎ Meets a b e c c
two_out a b c d e N p q r w at hp hq hr =
    by_lt_z ((pos 0 -ℤ p) *ℤ pos w.l +ℤ pos w.k *ℤ q) (pos 0)
    (λ late. inr (exit_at a b d e c N q r p (Meets-turned a b c d e w) (LiesBy-turned a c d e N p q r at) hq (room q r (Meets-turned a b c d e w).k (Meets-turned a b c d e w).l hq hr) (rw (Meets-turned-m a b c d e w, Meets-turned-k a b c d e w) (turned_round p q w.k w.l late))))
    (λ soon. inl (exit_at a b c d e N p q r w at hp soon (room p r w.k w.m hp hr)))
  where
    opposite_sum : (p q k l : ℤ) → (pos 0 -ℤ q) *ℤ k +ℤ l *ℤ p ≡ pos 0 -ℤ ((pos 0 -ℤ p) *ℤ l +ℤ k *ℤ q)
    opposite_sum p q k l = same_polynomial (p ∷ q ∷ k ∷ l ∷ [])
        (add (mul (sub (num (pos 0)) (var 1)) (var 2)) (mul (var 3) (var 0))) (sub (num (pos 0)) (add (mul (sub (num (pos 0)) (var 0)) (var 3)) (mul (var 2) (var 1)))) refl

    turned_round : (p q : ℤ) (k l : ℕ) → ((pos 0 -ℤ p) *ℤ pos l +ℤ pos k *ℤ q) <ℤ pos 0 → pos 0 ≤ℤ ((pos 0 -ℤ q) *ℤ pos k +ℤ pos l *ℤ p)
    turned_round p q k l h = rw (opposite_sum p q (pos k) (pos l)) (other_way _ h)

abbrev pub NoneNegative : ℤ → ℤ → ℤ → Type 0
NoneNegative p q r = (pos 0 ≤ℤ p) × (pos 0 ≤ℤ q) × (pos 0 ≤ℤ r)

to_side_one : (a b c d e : Triple) → Meets a b d e e ⊎ Meets a b e c c → NoneNegative (pos 0) (pos 0) (pos 0) ⊎ MeetsSide a b c d e
to_side_one a b c d e (inl h) = inr (inr (inl h))
to_side_one a b c d e (inr h) = inr (inr (inr h))

pub inside_or_side : (a b c d e : Triple) (N p q r : ℤ) → LiesBy a c d e N p q r → Meets a b c d e → NoneNegative p q r ⊎ MeetsSide a b c d e
inside_or_side a b c d e N p q r at w =
    let at2 = LiesBy-turned a c d e N p q r at in
    let w2 = Meets-turned a b c d e w in
    let at3 = LiesBy-turned a d e c N q r p at2 in
    let w3 = Meets-turned a b d e c w2 in
    by_lt_z p (pos 0)
    (λ hp. by_lt_z q (pos 0)
    (λ hq. by_lt_z r (pos 0)
    (λ hr. absurd (not_all N p q r at.some at.sum hp hq hr))
    (λ hr. inr (from_two a b c d e (two_out a b c d e N p q r w at hp hq hr))))
    (λ hq. by_lt_z r (pos 0)
    (λ hr. inr (from_two_3 a b c d e (two_out a b e c d N r p q w3 at3 hr hp hq)))
    (λ hr. inr (inr (inl (one_out a b c d e N p q r w at hp hq hr))))))
    (λ hp. by_lt_z q (pos 0)
    (λ hq. by_lt_z r (pos 0)
    (λ hr. inr (from_two_2 a b c d e (two_out a b d e c N q r p w2 at2 hq hr hp)))
    (λ hr. inr (inr (inr (one_out a b d e c N q r p w2 at2 hq hr hp)))))
    (λ hq. by_lt_z r (pos 0)
    (λ hr. inr (inl (one_out a b e c d N r p q w3 at3 hr hp hq)))
    (λ hr. inl (hp, hq, hr))))
  where
    not_all : (N p q r : ℤ) → pos 0 <ℤ N → N ≡ p +ℤ q +ℤ r → p <ℤ pos 0 → q <ℤ pos 0 → r <ℤ pos 0 → ⊥
    not_all N p q r some sum hp hq hr = omega (arith, ints)

    from_two : (a b c d e : Triple) → Meets a b d e e ⊎ Meets a b e c c → MeetsSide a b c d e
    from_two a b c d e (inl h) = inr (inl h)
    from_two a b c d e (inr h) = inr (inr h)

    from_two_2 : (a b c d e : Triple) → Meets a b e c c ⊎ Meets a b c d d → MeetsSide a b c d e
    from_two_2 a b c d e (inl h) = inr (inr h)
    from_two_2 a b c d e (inr h) = inl h

    from_two_3 : (a b c d e : Triple) → Meets a b c d d ⊎ Meets a b d e e → MeetsSide a b c d e
    from_two_3 a b c d e (inl h) = inl h
    from_two_3 a b c d e (inr h) = inr (inl h)

-- ---- the other way
pub Meets-inside : (a b c d e : Triple) (N p q r : ℤ) → LiesBy a c d e N p q r → NoneNegative p q r → Meets a b c d e
Meets-inside a b c d e N p q r at h =
    Meets-by_weights N (pos 0) p q r a b c d e (weights N p q r at.some at.sum h.0 h.1 h.2)
    (alone N a.x b.x _ at.x) (alone N a.y b.y _ at.y) (alone N a.z b.z _ at.z)
  where
    alone : (N a b y : ℤ) → N *ℤ a ≡ y → N *ℤ a +ℤ pos 0 *ℤ b ≡ y
    alone N a b y h = same_polynomial (N ∷ a ∷ b ∷ []) (add (mul (var 0) (var 1)) (mul (num (pos 0)) (var 2))) (mul (var 0) (var 1)) refl ∙ h

    weights : (N p q r : ℤ) → pos 0 <ℤ N → N ≡ p +ℤ q +ℤ r → pos 0 ≤ℤ p → pos 0 ≤ℤ q → pos 0 ≤ℤ r → AreWeights N (pos 0) p q r
    weights N p q r some sum hp hq hr = record { i_fits = omega (arith, ints); j_fits = omega (arith, ints); k_fits = hp; l_fits = hq; m_fits = hr; some = omega (arith, ints); same = omega (arith, ints) }

-- what meets a side meets the triangle
side_position : (l m : ℕ) (y d e : ℤ) (k : ℕ) (c : ℤ) → y ≡ pos k *ℤ c +ℤ pos l *ℤ d +ℤ pos m *ℤ d → y ≡ pos k *ℤ c +ℤ pos (l + m) *ℤ d +ℤ pos 0 *ℤ e
side_position l m y d e k c h = h ∙ same_polynomial (pos k ∷ pos l ∷ pos m ∷ c ∷ d ∷ e ∷ [])
    (add (add (mul (var 0) (var 3)) (mul (var 1) (var 4))) (mul (var 2) (var 4))) (add (add (mul (var 0) (var 3)) (mul (add (var 1) (var 2)) (var 4))) (mul (num (pos 0)) (var 5))) refl

pub Meets-first_side : (a b c d e : Triple) → Meets a b c d d → Meets a b c d e
Meets-first_side a b c d e w = record {
  i = w.i;
  j = w.j;
  k = w.k;
  l = w.l + w.m;
  m = 0;
  some_weight = w.some_weight;
  same_weight = total w.i w.j w.k w.l w.m w.same_weight;
  same_position = same_triple _ _
      (side_position w.l w.m _ d.x e.x w.k c.x (ap (λ (t : Triple). t.x) w.same_position))
      (side_position w.l w.m _ d.y e.y w.k c.y (ap (λ (t : Triple). t.y) w.same_position))
      (side_position w.l w.m _ d.z e.z w.k c.z (ap (λ (t : Triple). t.z) w.same_position));
}
  where
    total : (i j k l m : ℕ) → i + j ≡ k + l + m → i + j ≡ k + (l + m) + 0
    total i j k l m h = omega arith

pub Meets-side : (a b c d e : Triple) → MeetsSide a b c d e → Meets a b c d e
Meets-side a b c d e (inl h) = Meets-first_side a b c d e h
Meets-side a b c d e (inr (inl h)) = Meets-turned a b e c d (Meets-turned a b d e c (Meets-first_side a b d e c h))
Meets-side a b c d e (inr (inr h)) = Meets-turned a b e c d (Meets-first_side a b e c d h)

-- ---- a position in the plane of a triangle that has an area
module _ (a c d e : Triple) (N u v : ℤ)
    (N_is : N ≡ dot (cross (minus d c) (minus e c)) (cross (minus d c) (minus e c)))
    (u_is : u ≡ dot (cross (minus d c) (minus e c)) (cross (minus a c) (minus e c)))
    (v_is : v ≡ dot (cross (minus d c) (minus e c)) (cross (minus d c) (minus a c)))
    (some : pos 0 <ℤ N) (flat : orientation c d e a ≡ pos 0) where
  pub must_start_inside : (b : Triple) → Meets a b c d e → (MeetsSide a b c d e → ⊥) → NoneNegative (N -ℤ u -ℤ v) u v
  must_start_inside b w none =
      ⊎_elim (λ inside. inside) (λ side. absurd (none side))
      (inside_or_side a b c d e N (N -ℤ u -ℤ v) u v (LiesBy-in_plane a c d e N u v N_is u_is v_is some flat) w)

  pub meets_from_inside : (b : Triple) → NoneNegative (N -ℤ u -ℤ v) u v → Meets a b c d e
  meets_from_inside b h = Meets-inside a b c d e N (N -ℤ u -ℤ v) u v (LiesBy-in_plane a c d e N u v N_is u_is v_is some flat) h
