-- An edge in the plane of a triangle: where its first end lies, and how it leaves the triangle.
use Rattle.std.proofs.Common.{◌≡◌, ℕ, ◌+◌, ◌<◌, ℤ, pos, ◌+ℤ◌, ◌-ℤ◌, ◌*ℤ◌, ◌<ℤ◌, ◌≤ℤ◌, [], ◌∷◌, ap, refl, ◌∙◌, arith}
use Rattle.std.proofs.lemmas.Int.{ints}
use Rattle.grid_base.specs.Triples.{Triple, minus, dot, cross, orientation}
use Rattle.grid_base.specs.Meeting.{Meets}
use Rattle.grid_base.proofs.Polynomials.{var, num, add, sub, mul, same_polynomial, same_by_known}
use Rattle.grid_base.proofs.TermTriples.{var3, dot_t, cross_t, components}
use Rattle.grid_meets.proofs.Weights.{AreWeights, Meets-by_weights, weak, natural, natural_some, add_up, split, product-not_negative, product-positive}

-- ---- the parts of a vector along two others and across them
module _ (f g q : Triple) where
  pub parts-x : dot (cross f g) (cross f g) *ℤ q.x ≡ dot (cross f g) (cross q g) *ℤ f.x +ℤ dot (cross f g) (cross f q) *ℤ g.x +ℤ dot (cross f g) q *ℤ (cross f g).x
  parts-x =
      let f' = var3 0 in let g' = var3 3 in let q' = var3 6 in let n' = cross_t f' g' in
      same_polynomial (components (f ∷ g ∷ q ∷ [])) (mul (dot_t n' n') q'.x) (add (add (mul (dot_t n' (cross_t q' g')) f'.x) (mul (dot_t n' (cross_t f' q')) g'.x)) (mul (dot_t n' q') n'.x)) refl

  pub parts-y : dot (cross f g) (cross f g) *ℤ q.y ≡ dot (cross f g) (cross q g) *ℤ f.y +ℤ dot (cross f g) (cross f q) *ℤ g.y +ℤ dot (cross f g) q *ℤ (cross f g).y
  parts-y =
      let f' = var3 0 in let g' = var3 3 in let q' = var3 6 in let n' = cross_t f' g' in
      same_polynomial (components (f ∷ g ∷ q ∷ [])) (mul (dot_t n' n') q'.y) (add (add (mul (dot_t n' (cross_t q' g')) f'.y) (mul (dot_t n' (cross_t f' q')) g'.y)) (mul (dot_t n' q') n'.y)) refl

  pub parts-z : dot (cross f g) (cross f g) *ℤ q.z ≡ dot (cross f g) (cross q g) *ℤ f.z +ℤ dot (cross f g) (cross f q) *ℤ g.z +ℤ dot (cross f g) q *ℤ (cross f g).z
  parts-z =
      let f' = var3 0 in let g' = var3 3 in let q' = var3 6 in let n' = cross_t f' g' in
      same_polynomial (components (f ∷ g ∷ q ∷ [])) (mul (dot_t n' n') q'.z) (add (add (mul (dot_t n' (cross_t q' g')) f'.z) (mul (dot_t n' (cross_t f' q')) g'.z)) (mul (dot_t n' q') n'.z)) refl

-- ---- leaving a triangle
-- One component. The edge has the weights i and j, and the same position has k, l and m at the corners. N times a is p, q and r at the corners, and p is below zero, as -s.
-- Where the position is moved towards a until the weight of c is gone, it has these weights at the edge's ends and at d and e.
exit_position : (i j k l m : ℕ) (N s q r a b c d e : ℤ) →
    pos i *ℤ a +ℤ pos j *ℤ b ≡ pos k *ℤ c +ℤ pos l *ℤ d +ℤ pos m *ℤ e →
    N *ℤ a ≡ (pos 0 -ℤ s) *ℤ c +ℤ q *ℤ d +ℤ r *ℤ e →
    (s *ℤ pos i +ℤ pos k *ℤ N) *ℤ a +ℤ (s *ℤ pos j) *ℤ b ≡ (s *ℤ pos l +ℤ pos k *ℤ q) *ℤ d +ℤ (s *ℤ pos m +ℤ pos k *ℤ r) *ℤ e
exit_position i j k l m N s q r a b c d e same out =
    let i' = var 0 in let j' = var 1 in let k' = var 2 in let l' = var 3 in let m' = var 4 in let n' = var 5 in let s' = var 6 in let q' = var 7 in let r' = var 8 in
    let a' = var 9 in let b' = var 10 in let c' = var 11 in let d' = var 12 in let e' = var 13 in
    same_by_known (pos i ∷ pos j ∷ pos k ∷ pos l ∷ pos m ∷ N ∷ s ∷ q ∷ r ∷ a ∷ b ∷ c ∷ d ∷ e ∷ [])
    (record { factor = s'; left = add (mul i' a') (mul j' b'); right = add (add (mul k' c') (mul l' d')) (mul m' e') }
    ∷ record { factor = k'; left = mul n' a'; right = add (add (mul (sub (num (pos 0)) s') c') (mul q' d')) (mul r' e') } ∷ [])
    (add (mul (add (mul s' i') (mul k' n')) a') (mul (mul s' j') b')) (add (mul (add (mul s' l') (mul k' q')) d') (mul (add (mul s' m') (mul k' r')) e'))
    (same, (out, tt)) refl

-- where a position lies among three corners: N times it is p, q and r at c, d and e
pub record LiesBy (a c d e : Triple) (N p q r : ℤ) : Type 0 where
  pub some : pos 0 <ℤ N
  pub sum : N ≡ p +ℤ q +ℤ r
  pub x : N *ℤ a.x ≡ p *ℤ c.x +ℤ q *ℤ d.x +ℤ r *ℤ e.x
  pub y : N *ℤ a.y ≡ p *ℤ c.y +ℤ q *ℤ d.y +ℤ r *ℤ e.y
  pub z : N *ℤ a.z ≡ p *ℤ c.z +ℤ q *ℤ d.z +ℤ r *ℤ e.z

turn : (y p q r c d e : ℤ) → y ≡ p *ℤ c +ℤ q *ℤ d +ℤ r *ℤ e → y ≡ q *ℤ d +ℤ r *ℤ e +ℤ p *ℤ c
turn y p q r c d e h = h ∙ same_polynomial (p ∷ q ∷ r ∷ c ∷ d ∷ e ∷ [])
    (add (add (mul (var 0) (var 3)) (mul (var 1) (var 4))) (mul (var 2) (var 5))) (add (add (mul (var 1) (var 4)) (mul (var 2) (var 5))) (mul (var 0) (var 3))) refl

pub LiesBy-turned : (a c d e : Triple) (N p q r : ℤ) → LiesBy a c d e N p q r → LiesBy a d e c N q r p
LiesBy-turned a c d e N p q r h = record {
  some = h.some;
  sum = total N p q r h.sum;
  x = turn _ p q r c.x d.x e.x h.x;
  y = turn _ p q r c.y d.y e.y h.y;
  z = turn _ p q r c.z d.z e.z h.z;
}
  where
    total : (N p q r : ℤ) → N ≡ p +ℤ q +ℤ r → N ≡ q +ℤ r +ℤ p
    total N p q r h = omega (arith, ints)

-- a is not across from c: the position moves to the side from d to e
minus_of : (p x : ℤ) → p *ℤ x ≡ (pos 0 -ℤ (pos 0 -ℤ p)) *ℤ x
minus_of p x = same_polynomial (p ∷ x ∷ []) (mul (var 0) (var 1)) (mul (sub (num (pos 0)) (sub (num (pos 0)) (var 0))) (var 1)) refl

side_position : (i j k l m : ℕ) (N s q r a b c d e : ℤ) →
    pos i *ℤ a +ℤ pos j *ℤ b ≡ pos k *ℤ c +ℤ pos l *ℤ d +ℤ pos m *ℤ e →
    N *ℤ a ≡ (pos 0 -ℤ s) *ℤ c +ℤ q *ℤ d +ℤ r *ℤ e →
    (s *ℤ pos i +ℤ pos k *ℤ N) *ℤ a +ℤ (s *ℤ pos j) *ℤ b ≡ (s *ℤ pos l +ℤ pos k *ℤ q) *ℤ d +ℤ (s *ℤ pos m +ℤ pos k *ℤ r) *ℤ e +ℤ pos 0 *ℤ e
side_position i j k l m N s q r a b c d e same out = exit_position i j k l m N s q r a b c d e same out ∙ none _ e
  where
    none : (y e : ℤ) → y ≡ y +ℤ pos 0 *ℤ e
    none y e = same_polynomial (y ∷ e ∷ []) (var 0) (add (var 0) (mul (num (pos 0)) (var 1))) refl

exit_weights : (i j k l m : ℕ) (N s q r : ℤ) → 0 < i + j → i + j ≡ k + l + m → pos 0 <ℤ N → pos 0 <ℤ s → N ≡ (pos 0 -ℤ s) +ℤ q +ℤ r →
    pos 0 ≤ℤ (s *ℤ pos l +ℤ pos k *ℤ q) → pos 0 ≤ℤ (s *ℤ pos m +ℤ pos k *ℤ r) →
    AreWeights (s *ℤ pos i +ℤ pos k *ℤ N) (s *ℤ pos j) (s *ℤ pos l +ℤ pos k *ℤ q) (s *ℤ pos m +ℤ pos k *ℤ r) (pos 0)
exit_weights i j k l m N s q r some same n_some s_some sum hl hm = record {
  i_fits = add_up (s *ℤ pos i) (pos k *ℤ N) (product-not_negative s (pos i) (weak s s_some) (natural i)) (product-not_negative (pos k) N (natural k) (weak N n_some));
  j_fits = product-not_negative s (pos j) (weak s s_some) (natural j);
  k_fits = hl;
  l_fits = hm;
  m_fits = natural 0;
  some = more (s *ℤ pos i) (pos k *ℤ N) (s *ℤ pos j) (s *ℤ pos (i + j)) (split s i j) (product-positive s (pos (i + j)) s_some (natural_some (i + j) some)) (product-not_negative (pos k) N (natural k) (weak N n_some));
  same = same_by_known (pos i ∷ pos j ∷ pos k ∷ pos l ∷ pos m ∷ N ∷ s ∷ q ∷ r ∷ [])
      (record { factor = var 6; left = add (var 0) (var 1); right = add (add (var 2) (var 3)) (var 4) }
      ∷ record { factor = var 2; left = var 5; right = add (add (sub (num (pos 0)) (var 6)) (var 7)) (var 8) } ∷ [])
      (add (add (mul (var 6) (var 0)) (mul (var 2) (var 5))) (mul (var 6) (var 1)))
      (add (add (add (mul (var 6) (var 3)) (mul (var 2) (var 7))) (add (mul (var 6) (var 4)) (mul (var 2) (var 8)))) (num (pos 0)))
      (ap pos same, (sum, tt)) refl;
}
  where
    more : (x y z t : ℤ) → t ≡ x +ℤ z → pos 0 <ℤ t → pos 0 ≤ℤ y → pos 0 <ℤ (x +ℤ y +ℤ z)
    more x y z t e h k = omega (arith, ints)

pub exit_at : (a b c d e : Triple) (N p q r : ℤ) (w : Meets a b c d e) → LiesBy a c d e N p q r → p <ℤ pos 0 →
    pos 0 ≤ℤ ((pos 0 -ℤ p) *ℤ pos w.l +ℤ pos w.k *ℤ q) → pos 0 ≤ℤ ((pos 0 -ℤ p) *ℤ pos w.m +ℤ pos w.k *ℤ r) → Meets a b d e e
exit_at a b c d e N p q r w at out hl hm =
    let s = pos 0 -ℤ p in
    Meets-by_weights _ _ _ _ _ a b d e e
    (exit_weights w.i w.j w.k w.l w.m N s q r w.some_weight w.same_weight at.some (away p out) (total N p q r at.sum) hl hm)
    (side_position w.i w.j w.k w.l w.m N s q r a.x b.x c.x d.x e.x (ap (λ (t : Triple). t.x) w.same_position) (flip _ p q r c.x d.x e.x at.x))
    (side_position w.i w.j w.k w.l w.m N s q r a.y b.y c.y d.y e.y (ap (λ (t : Triple). t.y) w.same_position) (flip _ p q r c.y d.y e.y at.y))
    (side_position w.i w.j w.k w.l w.m N s q r a.z b.z c.z d.z e.z (ap (λ (t : Triple). t.z) w.same_position) (flip _ p q r c.z d.z e.z at.z))
  where
    away : (p : ℤ) → p <ℤ pos 0 → pos 0 <ℤ (pos 0 -ℤ p)
    away p h = omega (arith, ints)

    total : (N p q r : ℤ) → N ≡ p +ℤ q +ℤ r → N ≡ (pos 0 -ℤ (pos 0 -ℤ p)) +ℤ q +ℤ r
    total N p q r h = omega (arith, ints)

    flip : (y p q r c d e : ℤ) → y ≡ p *ℤ c +ℤ q *ℤ d +ℤ r *ℤ e → y ≡ (pos 0 -ℤ (pos 0 -ℤ p)) *ℤ c +ℤ q *ℤ d +ℤ r *ℤ e
    flip y p q r c d e h = h ∙ ap (λ (t : ℤ). t +ℤ q *ℤ d +ℤ r *ℤ e) (minus_of p c)

lies_position : (N u v h n a c d e : ℤ) → N *ℤ (a -ℤ c) ≡ u *ℤ (d -ℤ c) +ℤ v *ℤ (e -ℤ c) +ℤ h *ℤ n → h ≡ pos 0 →
    N *ℤ a ≡ (N -ℤ u -ℤ v) *ℤ c +ℤ u *ℤ d +ℤ v *ℤ e
lies_position N u v h n a c d e parts flat =
    let n' = var 0 in let u' = var 1 in let v' = var 2 in let h' = var 3 in let x' = var 4 in let a' = var 5 in let c' = var 6 in let d' = var 7 in let e' = var 8 in
    same_by_known (N ∷ u ∷ v ∷ h ∷ n ∷ a ∷ c ∷ d ∷ e ∷ [])
    (record { factor = num (pos 1); left = mul n' (sub a' c'); right = add (add (mul u' (sub d' c')) (mul v' (sub e' c'))) (mul h' x') }
    ∷ record { factor = x'; left = h'; right = num (pos 0) } ∷ [])
    (mul n' a') (add (add (mul (sub (sub n' u') v') c') (mul u' d')) (mul v' e'))
    (parts, (flat, tt)) refl

-- a position in the plane of a triangle that is not flat
pub LiesBy-in_plane : (a c d e : Triple) → (N u v : ℤ) →
    N ≡ dot (cross (minus d c) (minus e c)) (cross (minus d c) (minus e c)) →
    u ≡ dot (cross (minus d c) (minus e c)) (cross (minus a c) (minus e c)) →
    v ≡ dot (cross (minus d c) (minus e c)) (cross (minus d c) (minus a c)) →
    pos 0 <ℤ N → orientation c d e a ≡ pos 0 → LiesBy a c d e N (N -ℤ u -ℤ v) u v
LiesBy-in_plane a c d e N u v N_is u_is v_is some flat =
    let f = minus d c in let g = minus e c in let q = minus a c in
    record {
      some = some;
      sum = total N u v;
      x = lies_position N u v (orientation c d e a) (cross f g).x a.x c.x d.x e.x (rw (N_is, u_is, v_is) (parts-x f g q)) flat;
      y = lies_position N u v (orientation c d e a) (cross f g).y a.y c.y d.y e.y (rw (N_is, u_is, v_is) (parts-y f g q)) flat;
      z = lies_position N u v (orientation c d e a) (cross f g).z a.z c.z d.z e.z (rw (N_is, u_is, v_is) (parts-z f g q)) flat;
    }
  where
    total : (N u v : ℤ) → N ≡ N -ℤ u -ℤ v +ℤ u +ℤ v
    total N u v = omega (arith, ints)
