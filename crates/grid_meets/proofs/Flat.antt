-- A triangle of no area: one corner lies between the others, and its weight goes to them.
use Rattle.std.proofs.Common.{◌≡◌, ℕ, ◌+◌, ◌<◌, ℤ, pos, negsuc, ◌+ℤ◌, ◌-ℤ◌, ◌*ℤ◌, ◌<ℤ◌, ◌≤ℤ◌, inl, inr, [], ◌∷◌, ap, refl, arith}
use Rattle.std.proofs.lemmas.Int.{ints, by_lt_z}
use Rattle.grid_base.specs.Triples.{Triple, minus, dot, cross}
use Rattle.grid_base.specs.Meeting.{Meets}
use Rattle.grid_meets.specs.Segments.{HasNoLength, MeetsSide}
use Rattle.grid_base.proofs.Polynomials.{var, num, add, sub, mul, same_by_known}
use Rattle.grid_meets.proofs.Crossing.{Meets-turned}
use Rattle.grid_meets.proofs.OnOneLine.{IsAlong, IsAlong-from_line, HasNoLength-from_square, square_of-not_negative}
use Rattle.grid_meets.proofs.Weights.{AreWeights, Meets-by_weights, weak, natural, natural_some, add_up, split, product-not_negative, product-positive}

-- e lies between c and d: S times it is P and Q at them
pub record LiesBetween (c d e : Triple) (S P Q : ℤ) : Type 0 where
  pub some : pos 0 <ℤ S
  pub sum : S ≡ P +ℤ Q
  pub first : pos 0 ≤ℤ P
  pub second : pos 0 ≤ℤ Q
  pub x : S *ℤ e.x ≡ P *ℤ c.x +ℤ Q *ℤ d.x
  pub y : S *ℤ e.y ≡ P *ℤ c.y +ℤ Q *ℤ d.y
  pub z : S *ℤ e.z ≡ P *ℤ c.z +ℤ Q *ℤ d.z

given_over : (i j k l m : ℕ) (S P Q a b c d e : ℤ) → pos i *ℤ a +ℤ pos j *ℤ b ≡ pos k *ℤ c +ℤ pos l *ℤ d +ℤ pos m *ℤ e → S *ℤ e ≡ P *ℤ c +ℤ Q *ℤ d →
    (S *ℤ pos i) *ℤ a +ℤ (S *ℤ pos j) *ℤ b ≡ (S *ℤ pos k +ℤ pos m *ℤ P) *ℤ c +ℤ (S *ℤ pos l +ℤ pos m *ℤ Q) *ℤ d +ℤ pos 0 *ℤ d
given_over i j k l m S P Q a b c d e h between =
    let i' = var 0 in let j' = var 1 in let k' = var 2 in let l' = var 3 in let m' = var 4 in let s' = var 5 in let p' = var 6 in let q' = var 7 in
    let a' = var 8 in let b' = var 9 in let c' = var 10 in let d' = var 11 in let e' = var 12 in
    same_by_known (pos i ∷ pos j ∷ pos k ∷ pos l ∷ pos m ∷ S ∷ P ∷ Q ∷ a ∷ b ∷ c ∷ d ∷ e ∷ [])
    (record { factor = s'; left = add (mul i' a') (mul j' b'); right = add (add (mul k' c') (mul l' d')) (mul m' e') }
    ∷ record { factor = m'; left = mul s' e'; right = add (mul p' c') (mul q' d') } ∷ [])
    (add (mul (mul s' i') a') (mul (mul s' j') b')) (add (add (mul (add (mul s' k') (mul m' p')) c') (mul (add (mul s' l') (mul m' q')) d')) (mul (num (pos 0)) d'))
    (h, (between, tt)) refl

weights_over : (i j k l m : ℕ) (S P Q : ℤ) → 0 < i + j → i + j ≡ k + l + m → pos 0 <ℤ S → S ≡ P +ℤ Q → pos 0 ≤ℤ P → pos 0 ≤ℤ Q →
    AreWeights (S *ℤ pos i) (S *ℤ pos j) (S *ℤ pos k +ℤ pos m *ℤ P) (S *ℤ pos l +ℤ pos m *ℤ Q) (pos 0)
weights_over i j k l m S P Q some same s_some sum hp hq = record {
  i_fits = product-not_negative S (pos i) (weak S s_some) (natural i);
  j_fits = product-not_negative S (pos j) (weak S s_some) (natural j);
  k_fits = add_up _ _ (product-not_negative S (pos k) (weak S s_some) (natural k)) (product-not_negative (pos m) P (natural m) hp);
  l_fits = add_up _ _ (product-not_negative S (pos l) (weak S s_some) (natural l)) (product-not_negative (pos m) Q (natural m) hq);
  m_fits = natural 0;
  some = along_sum _ _ (split S i j) (product-positive S (pos (i + j)) s_some (natural_some (i + j) some));
  same = same_by_known (pos i ∷ pos j ∷ pos k ∷ pos l ∷ pos m ∷ S ∷ P ∷ Q ∷ [])
      (record { factor = var 5; left = add (var 0) (var 1); right = add (add (var 2) (var 3)) (var 4) }
      ∷ record { factor = var 4; left = var 5; right = add (var 6) (var 7) } ∷ [])
      (add (mul (var 5) (var 0)) (mul (var 5) (var 1)))
      (add (add (add (mul (var 5) (var 2)) (mul (var 4) (var 6))) (add (mul (var 5) (var 3)) (mul (var 4) (var 7)))) (num (pos 0)))
      (ap pos same, (sum, tt)) refl;
}
  where
    along_sum : (x y : ℤ) → x ≡ y → pos 0 <ℤ x → pos 0 <ℤ y
    along_sum x y e h = omega (arith, ints)

-- the weight of a corner between two others goes to them
pub Meets-without : (a b c d e : Triple) (S P Q : ℤ) → LiesBetween c d e S P Q → Meets a b c d e → Meets a b c d d
Meets-without a b c d e S P Q h w =
    Meets-by_weights _ _ _ _ _ a b c d d (weights_over w.i w.j w.k w.l w.m S P Q w.some_weight w.same_weight h.some h.sum h.first h.second)
    (given_over w.i w.j w.k w.l w.m S P Q a.x b.x c.x d.x e.x (ap (λ (t : Triple). t.x) w.same_position) h.x)
    (given_over w.i w.j w.k w.l w.m S P Q a.y b.y c.y d.y e.y (ap (λ (t : Triple). t.y) w.same_position) h.y)
    (given_over w.i w.j w.k w.l w.m S P Q a.z b.z c.z d.z e.z (ap (λ (t : Triple). t.z) w.same_position) h.z)

-- ---- which corner lies between the others
between_cd : (F k c d e : ℤ) → F *ℤ (e -ℤ c) ≡ k *ℤ (d -ℤ c) → F *ℤ e ≡ (F -ℤ k) *ℤ c +ℤ k *ℤ d
between_cd F k c d e h = same_by_known (F ∷ k ∷ c ∷ d ∷ e ∷ []) (record { factor = num (pos 1); left = mul (var 0) (sub (var 4) (var 2)); right = mul (var 1) (sub (var 3) (var 2)) } ∷ [])
    (mul (var 0) (var 4)) (add (mul (sub (var 0) (var 1)) (var 2)) (mul (var 1) (var 3))) (h, tt) refl

between_de : (F k c d e : ℤ) → F *ℤ (e -ℤ c) ≡ k *ℤ (d -ℤ c) → (F -ℤ k) *ℤ c ≡ (pos 0 -ℤ k) *ℤ d +ℤ F *ℤ e
between_de F k c d e h = same_by_known (F ∷ k ∷ c ∷ d ∷ e ∷ []) (record { factor = num (negsuc 0); left = mul (var 0) (sub (var 4) (var 2)); right = mul (var 1) (sub (var 3) (var 2)) } ∷ [])
    (mul (sub (var 0) (var 1)) (var 2)) (add (mul (sub (num (pos 0)) (var 1)) (var 3)) (mul (var 0) (var 4))) (h, tt) refl

between_ec : (F k c d e : ℤ) → F *ℤ (e -ℤ c) ≡ k *ℤ (d -ℤ c) → k *ℤ d ≡ F *ℤ e +ℤ (k -ℤ F) *ℤ c
between_ec F k c d e h = same_by_known (F ∷ k ∷ c ∷ d ∷ e ∷ []) (record { factor = num (negsuc 0); left = mul (var 0) (sub (var 4) (var 2)); right = mul (var 1) (sub (var 3) (var 2)) } ∷ [])
    (mul (var 1) (var 3)) (add (mul (var 0) (var 4)) (mul (sub (var 1) (var 0)) (var 2))) (h, tt) refl

flat_along : (a b c d e : Triple) (F k : ℤ) → pos 0 <ℤ F → IsAlong F k c d e → Meets a b c d e → MeetsSide a b c d e
flat_along a b c d e F k some h w =
    by_lt_z k (pos 0)
    (λ before. inr (inl (Meets-without a b d e c (F -ℤ k) (pos 0 -ℤ k) F (record { some = wide F k some before; sum = sum_1 F k; first = away k before; second = weak F some; x = between_de F k c.x d.x e.x h.x; y = between_de F k c.y d.y e.y h.y; z = between_de F k c.z d.z e.z h.z }) (Meets-turned a b c d e w))))
    (λ from_c. by_lt_z F k
    (λ past. inr (inr (Meets-without a b e c d k F (k -ℤ F) (record { some = through F k some past; sum = sum_2 F k; first = weak F some; second = gap F k past; x = between_ec F k c.x d.x e.x h.x; y = between_ec F k c.y d.y e.y h.y; z = between_ec F k c.z d.z e.z h.z }) (Meets-turned a b d e c (Meets-turned a b c d e w)))))
    (λ to_d. inl (Meets-without a b c d e F (F -ℤ k) k (record { some = some; sum = sum_3 F k; first = rest F k to_d; second = from_c; x = between_cd F k c.x d.x e.x h.x; y = between_cd F k c.y d.y e.y h.y; z = between_cd F k c.z d.z e.z h.z }) w)))
  where
    wide : (F k : ℤ) → pos 0 <ℤ F → k <ℤ pos 0 → pos 0 <ℤ (F -ℤ k)
    wide F k p q = omega (arith, ints)

    away : (k : ℤ) → k <ℤ pos 0 → pos 0 ≤ℤ (pos 0 -ℤ k)
    away k h = omega (arith, ints)

    through : (F k : ℤ) → pos 0 <ℤ F → F <ℤ k → pos 0 <ℤ k
    through F k p q = omega (arith, ints)

    gap : (F k : ℤ) → F <ℤ k → pos 0 ≤ℤ (k -ℤ F)
    gap F k p = omega (arith, ints)

    rest : (F k : ℤ) → k ≤ℤ F → pos 0 ≤ℤ (F -ℤ k)
    rest F k p = omega (arith, ints)

    sum_1 : (F k : ℤ) → F -ℤ k ≡ pos 0 -ℤ k +ℤ F
    sum_1 F k = omega (arith, ints)

    sum_2 : (F k : ℤ) → k ≡ F +ℤ (k -ℤ F)
    sum_2 F k = omega (arith, ints)

    sum_3 : (F k : ℤ) → F ≡ F -ℤ k +ℤ k
    sum_3 F k = omega (arith, ints)

flat_point : (a b c d e : Triple) → HasNoLength (minus d c) → Meets a b c d e → MeetsSide a b c d e
flat_point a b c d e none w = inr (inr (Meets-without a b e c d (pos 1) (pos 0) (pos 1) (record { some = omega (arith, ints); sum = refl; first = omega (arith, ints); second = omega (arith, ints); x = one d.x c.x e.x none.x; y = one d.y c.y e.y none.y; z = one d.z c.z e.z none.z }) (Meets-turned a b d e c (Meets-turned a b c d e w))))
  where
    one : (d c e : ℤ) → d -ℤ c ≡ pos 0 → pos 1 *ℤ d ≡ pos 0 *ℤ e +ℤ pos 1 *ℤ c
    one d c e h = same_by_known (d ∷ c ∷ e ∷ []) (record { factor = num (pos 1); left = sub (var 0) (var 1); right = num (pos 0) } ∷ [])
        (mul (num (pos 1)) (var 0)) (add (mul (num (pos 0)) (var 2)) (mul (num (pos 1)) (var 1))) (h, tt) refl

-- what meets a triangle of no area meets one of its sides
pub flat_meets_side : (a b c d e : Triple) → dot (cross (minus d c) (minus e c)) (cross (minus d c) (minus e c)) ≤ℤ pos 0 → Meets a b c d e → MeetsSide a b c d e
flat_meets_side a b c d e flat w =
    let none = HasNoLength-from_square (cross (minus d c) (minus e c)) (exactly _ (square_of-not_negative _) flat) in
    by_lt_z (pos 0) (dot (minus d c) (minus d c))
    (λ long. flat_along a b c d e _ _ long (IsAlong-from_line c d e none) w)
    (λ short. flat_point a b c d e (HasNoLength-from_square (minus d c) (exactly _ (square_of-not_negative _) short)) w)
  where
    exactly : (v : ℤ) → pos 0 ≤ℤ v → v ≤ℤ pos 0 → v ≡ pos 0
    exactly v h k = omega (arith, ints)
