-- A triangle cut from a corner to the middle of the opposite side: what meets it meets one of its two parts. The same of an edge cut in its middle.
use Rattle.std.proofs.Common.{◌≡◌, ℕ, zero, suc, ◌+◌, ℤ, pos, ◌+ℤ◌, ◌*ℤ◌, ◌⊎◌, ⊎_elim, inl, inr, [], ◌∷◌, refl, ap, subst, arith}
use Rattle.std.proofs.Math.IntN.{+ℤ_comm}
use Rattle.grid_base.specs.Triples.{Triple, plus, times}
use Rattle.grid_base.specs.Meeting.{Meets}
use Rattle.grid_base.proofs.Polynomials.{var, num, add, sub, mul, same_by_known}
use Rattle.grid_base.proofs.MeetingLaws.{same_triple}
use Rattle.edit_flip.specs.Halves.{FaceIsTwoFaces, EdgeIsTwoEdges}
use Rattle.edit_acts.proofs.Exchanged.{Meets-exchanged}

-- one component: the weight of d is at most that of c
first_way : (i j k l n m : ℕ) (x y a c d : ℤ) → m ≡ l + n →
    pos i *ℤ x +ℤ pos j *ℤ y ≡ pos k *ℤ a +ℤ pos l *ℤ d +ℤ pos m *ℤ c →
    pos i *ℤ (pos 2 *ℤ x) +ℤ pos j *ℤ (pos 2 *ℤ y) ≡ pos k *ℤ (pos 2 *ℤ a) +ℤ pos (l + l) *ℤ (c +ℤ d) +ℤ pos n *ℤ (pos 2 *ℤ c)
first_way i j k l n m x y a c d same h =
    let i_ = var 0 in
    let j_ = var 1 in
    let k_ = var 2 in
    let l_ = var 3 in
    let n_ = var 4 in
    let m_ = var 5 in
    let x_ = var 6 in
    let y_ = var 7 in
    let a_ = var 8 in
    let c_ = var 9 in
    let d_ = var 10 in
    let two = num (pos 2) in
    same_by_known (pos i ∷ pos j ∷ pos k ∷ pos l ∷ pos n ∷ pos m ∷ x ∷ y ∷ a ∷ c ∷ d ∷ [])
    (record { factor = two; left = add (mul i_ x_) (mul j_ y_); right = add (add (mul k_ a_) (mul l_ d_)) (mul m_ c_) }
    ∷ record { factor = mul two c_; left = m_; right = add l_ n_ } ∷ [])
    (add (mul i_ (mul two x_)) (mul j_ (mul two y_))) (add (add (mul k_ (mul two a_)) (mul (add l_ l_) (add c_ d_))) (mul n_ (mul two c_)))
    (h, (ap pos same, tt)) refl

-- one component: the weight of c is at most that of d
second_way : (i j k l n m : ℕ) (x y a c d : ℤ) → l ≡ m + n →
    pos i *ℤ x +ℤ pos j *ℤ y ≡ pos k *ℤ a +ℤ pos l *ℤ d +ℤ pos m *ℤ c →
    pos i *ℤ (pos 2 *ℤ x) +ℤ pos j *ℤ (pos 2 *ℤ y) ≡ pos (m + m) *ℤ (c +ℤ d) +ℤ pos k *ℤ (pos 2 *ℤ a) +ℤ pos n *ℤ (pos 2 *ℤ d)
second_way i j k l n m x y a c d same h =
    let i_ = var 0 in
    let j_ = var 1 in
    let k_ = var 2 in
    let l_ = var 3 in
    let n_ = var 4 in
    let m_ = var 5 in
    let x_ = var 6 in
    let y_ = var 7 in
    let a_ = var 8 in
    let c_ = var 9 in
    let d_ = var 10 in
    let two = num (pos 2) in
    same_by_known (pos i ∷ pos j ∷ pos k ∷ pos l ∷ pos n ∷ pos m ∷ x ∷ y ∷ a ∷ c ∷ d ∷ [])
    (record { factor = two; left = add (mul i_ x_) (mul j_ y_); right = add (add (mul k_ a_) (mul l_ d_)) (mul m_ c_) }
    ∷ record { factor = mul two d_; left = l_; right = add m_ n_ } ∷ [])
    (add (mul i_ (mul two x_)) (mul j_ (mul two y_))) (add (add (mul (add m_ m_) (add c_ d_)) (mul k_ (mul two a_))) (mul n_ (mul two d_)))
    (h, (ap pos same, tt)) refl

at_x : {s t : Triple} → s ≡ t → s.x ≡ t.x
at_x e = ap (λ (t : Triple). t.x) e

at_y : {s t : Triple} → s ≡ t → s.y ≡ t.y
at_y e = ap (λ (t : Triple). t.y) e

at_z : {s t : Triple} → s ≡ t → s.z ≡ t.z
at_z e = ap (λ (t : Triple). t.z) e

face_first : (x y a c d : Triple) (w : Meets x y a d c) (n : ℕ) → w.m ≡ w.l + n → Meets (times 2 x) (times 2 y) (times 2 a) (plus c d) (times 2 c)
face_first x y a c d w n same = record {
  i = w.i;
  j = w.j;
  k = w.k;
  l = w.l + w.l;
  m = n;
  some_weight = w.some_weight;
  same_weight = let e = w.same_weight in omega (arith, e, same);
  same_position = same_triple _ _
      (first_way w.i w.j w.k w.l n w.m x.x y.x a.x c.x d.x same (at_x w.same_position))
      (first_way w.i w.j w.k w.l n w.m x.y y.y a.y c.y d.y same (at_y w.same_position))
      (first_way w.i w.j w.k w.l n w.m x.z y.z a.z c.z d.z same (at_z w.same_position));
}

face_second : (x y a c d : Triple) (w : Meets x y a d c) (n : ℕ) → w.l ≡ w.m + n → Meets (times 2 x) (times 2 y) (plus c d) (times 2 a) (times 2 d)
face_second x y a c d w n same = record {
  i = w.i;
  j = w.j;
  k = w.m + w.m;
  l = w.k;
  m = n;
  some_weight = w.some_weight;
  same_weight = let e = w.same_weight in omega (arith, e, same);
  same_position = same_triple _ _
      (second_way w.i w.j w.k w.l n w.m x.x y.x a.x c.x d.x same (at_x w.same_position))
      (second_way w.i w.j w.k w.l n w.m x.y y.y a.y c.y d.y same (at_y w.same_position))
      (second_way w.i w.j w.k w.l n w.m x.z y.z a.z c.z d.z same (at_z w.same_position));
}

-- one of two numbers is the other and some more
greater_by : (l m : ℕ) → ((n : ℕ) × (m ≡ l + n)) ⊎ ((n : ℕ) × (l ≡ m + n))
greater_by zero m = inl (m, omega arith)
greater_by (suc l) zero = inr (suc l, omega arith)
greater_by (suc l) (suc m) = ⊎_elim (λ p. let e = p.1 in inl (p.0, omega arith)) (λ p. let e = p.1 in inr (p.0, omega arith)) (greater_by l m)

pub face_is_two_faces : FaceIsTwoFaces
face_is_two_faces x y a c d w = ⊎_elim (λ p. inl (face_first x y a c d w p.0 p.1)) (λ p. inr (face_second x y a c d w p.0 p.1)) (greater_by w.l w.m)

-- one component of the edge: the weight of d is at most that of c
edge_way : (i j k l m n : ℕ) (c d x y z : ℤ) → i ≡ j + n →
    pos i *ℤ c +ℤ pos j *ℤ d ≡ pos k *ℤ x +ℤ pos l *ℤ y +ℤ pos m *ℤ z →
    pos n *ℤ (pos 2 *ℤ c) +ℤ pos (j + j) *ℤ (c +ℤ d) ≡ pos k *ℤ (pos 2 *ℤ x) +ℤ pos l *ℤ (pos 2 *ℤ y) +ℤ pos m *ℤ (pos 2 *ℤ z)
edge_way i j k l m n c d x y z same h =
    let i_ = var 0 in
    let j_ = var 1 in
    let k_ = var 2 in
    let l_ = var 3 in
    let m_ = var 4 in
    let n_ = var 5 in
    let c_ = var 6 in
    let d_ = var 7 in
    let x_ = var 8 in
    let y_ = var 9 in
    let z_ = var 10 in
    let two = num (pos 2) in
    same_by_known (pos i ∷ pos j ∷ pos k ∷ pos l ∷ pos m ∷ pos n ∷ c ∷ d ∷ x ∷ y ∷ z ∷ [])
    (record { factor = two; left = add (mul i_ c_) (mul j_ d_); right = add (add (mul k_ x_) (mul l_ y_)) (mul m_ z_) }
    ∷ record { factor = sub (num (pos 0)) (mul two c_); left = i_; right = add j_ n_ } ∷ [])
    (add (mul n_ (mul two c_)) (mul (add j_ j_) (add c_ d_))) (add (add (mul k_ (mul two x_)) (mul l_ (mul two y_))) (mul m_ (mul two z_)))
    (h, (ap pos same, tt)) refl

edge_first : (c d x y z : Triple) (w : Meets c d x y z) (n : ℕ) → w.i ≡ w.j + n → Meets (times 2 c) (plus c d) (times 2 x) (times 2 y) (times 2 z)
edge_first c d x y z w n same = record {
  i = n;
  j = w.j + w.j;
  k = w.k;
  l = w.l;
  m = w.m;
  some_weight = let e = w.some_weight in omega (arith, e, same);
  same_weight = let e = w.same_weight in omega (arith, e, same);
  same_position = same_triple _ _
      (edge_way w.i w.j w.k w.l w.m n c.x d.x x.x y.x z.x same (at_x w.same_position))
      (edge_way w.i w.j w.k w.l w.m n c.y d.y x.y y.y z.y same (at_y w.same_position))
      (edge_way w.i w.j w.k w.l w.m n c.z d.z x.z y.z z.z same (at_z w.same_position));
}

sums_alike : (c d x y z : Triple) → Meets (times 2 d) (plus d c) x y z → Meets (plus c d) (times 2 d) x y z
sums_alike c d x y z w =
    Meets-exchanged _ _ _ _ _ (subst (λ t. Meets (times 2 d) t x y z) (same_triple (plus d c) (plus c d) (+ℤ_comm d.x c.x) (+ℤ_comm d.y c.y) (+ℤ_comm d.z c.z)) w)

pub edge_is_two_edges : EdgeIsTwoEdges
edge_is_two_edges c d x y z w = ⊎_elim
    (λ p. inr (sums_alike c d (times 2 x) (times 2 y) (times 2 z) (edge_first d c x y z (Meets-exchanged c d x y z w) p.0 p.1)))
    (λ p. inl (edge_first c d x y z w p.0 p.1)) (greater_by w.i w.j)
