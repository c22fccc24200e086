-- An edge whose ends are at different signed distances from a triangle's plane: the weights, and the directions that exclude weights.
use Rattle.std.proofs.Common.{◌≡◌, ℕ, ◌+◌, ◌<◌, ℤ, pos, ◌+ℤ◌, ◌-ℤ◌, ◌*ℤ◌, ◌<ℤ◌, ◌≤ℤ◌, unsigned_abs, List, [], ◌∷◌, ap, refl, ◌∙◌, true, arith}
use Rattle.std.proofs.lemmas.Int.{ints}
use Rattle.std.proofs.Math.IntN.{+ℤ_comm}
use Rattle.grid_base.specs.Triples.{Triple, minus, cross, orientation}
use Rattle.grid_base.specs.declared.Positions.{Positions}
use Rattle.grid_base.specs.Meeting.{Meets}
use Rattle.grid_base.specs.Separation.{IsBelow}
use Rattle.grid_base.proofs.Polynomials.{Term, var, num, add, sub, mul, value, normal, all_zero, same_polynomial}
use Rattle.grid_base.proofs.TermTriples.{var3, minus_t, dot_t, cross_t, volume_t, components}
use Rattle.grid_base.proofs.MeetingLaws.{same_triple, Meets-not_below}

-- the size of a number, as a number: itself, or the other way
abs_up : (z : ℤ) → pos 0 ≤ℤ z → pos (unsigned_abs z) ≡ z
abs_up z h = omega (arith, ints)

abs_down : (z : ℤ) → z ≤ℤ pos 0 → pos (unsigned_abs z) ≡ pos 0 -ℤ z
abs_down z h = omega (arith, ints)

module _ (a b c d e : Triple) where
  -- the volumes over the sides add up to the difference of the distances
  orientation-sum : orientation c d e b -ℤ orientation c d e a ≡ orientation a b d e +ℤ orientation a b e c +ℤ orientation a b c d
  orientation-sum =
      let a' = var3 0 in let b' = var3 3 in let c' = var3 6 in let d' = var3 9 in let e' = var3 12 in
      same_polynomial (components (a ∷ b ∷ c ∷ d ∷ e ∷ [])) (sub (volume_t c' d' e' b') (volume_t c' d' e' a')) (add (add (volume_t a' b' d' e') (volume_t a' b' e' c')) (volume_t a' b' c' d')) refl

  -- the point where the edge goes through the plane, from the edge's ends and from the corners
  crossing-x : (pos 0 -ℤ orientation c d e b) *ℤ a.x +ℤ orientation c d e a *ℤ b.x ≡ (pos 0 -ℤ orientation a b d e) *ℤ c.x +ℤ (pos 0 -ℤ orientation a b e c) *ℤ d.x +ℤ (pos 0 -ℤ orientation a b c d) *ℤ e.x
  crossing-x =
      let a' = var3 0 in let b' = var3 3 in let c' = var3 6 in let d' = var3 9 in let e' = var3 12 in let none = num (pos 0) in
      same_polynomial (components (a ∷ b ∷ c ∷ d ∷ e ∷ []))
      (add (mul (sub none (volume_t c' d' e' b')) a'.x) (mul (volume_t c' d' e' a') b'.x))
      (add (add (mul (sub none (volume_t a' b' d' e')) c'.x) (mul (sub none (volume_t a' b' e' c')) d'.x)) (mul (sub none (volume_t a' b' c' d')) e'.x)) refl

  crossing-y : (pos 0 -ℤ orientation c d e b) *ℤ a.y +ℤ orientation c d e a *ℤ b.y ≡ (pos 0 -ℤ orientation a b d e) *ℤ c.y +ℤ (pos 0 -ℤ orientation a b e c) *ℤ d.y +ℤ (pos 0 -ℤ orientation a b c d) *ℤ e.y
  crossing-y =
      let a' = var3 0 in let b' = var3 3 in let c' = var3 6 in let d' = var3 9 in let e' = var3 12 in let none = num (pos 0) in
      same_polynomial (components (a ∷ b ∷ c ∷ d ∷ e ∷ []))
      (add (mul (sub none (volume_t c' d' e' b')) a'.y) (mul (volume_t c' d' e' a') b'.y))
      (add (add (mul (sub none (volume_t a' b' d' e')) c'.y) (mul (sub none (volume_t a' b' e' c')) d'.y)) (mul (sub none (volume_t a' b' c' d')) e'.y)) refl

  crossing-z : (pos 0 -ℤ orientation c d e b) *ℤ a.z +ℤ orientation c d e a *ℤ b.z ≡ (pos 0 -ℤ orientation a b d e) *ℤ c.z +ℤ (pos 0 -ℤ orientation a b e c) *ℤ d.z +ℤ (pos 0 -ℤ orientation a b c d) *ℤ e.z
  crossing-z =
      let a' = var3 0 in let b' = var3 3 in let c' = var3 6 in let d' = var3 9 in let e' = var3 12 in let none = num (pos 0) in
      same_polynomial (components (a ∷ b ∷ c ∷ d ∷ e ∷ []))
      (add (mul (sub none (volume_t c' d' e' b')) a'.z) (mul (volume_t c' d' e' a') b'.z))
      (add (add (mul (sub none (volume_t a' b' d' e')) c'.z) (mul (sub none (volume_t a' b' e' c')) d'.z)) (mul (sub none (volume_t a' b' c' d')) e'.z)) refl

-- one component: the weights are the sizes of the volumes
weighted : (sa sb vc vd ve a b c d e : ℤ) → pos 0 ≤ℤ sa → sb ≤ℤ pos 0 → vc ≤ℤ pos 0 → vd ≤ℤ pos 0 → ve ≤ℤ pos 0 →
    (pos 0 -ℤ sb) *ℤ a +ℤ sa *ℤ b ≡ (pos 0 -ℤ vc) *ℤ c +ℤ (pos 0 -ℤ vd) *ℤ d +ℤ (pos 0 -ℤ ve) *ℤ e →
    pos (unsigned_abs sb) *ℤ a +ℤ pos (unsigned_abs sa) *ℤ b ≡ pos (unsigned_abs vc) *ℤ c +ℤ pos (unsigned_abs vd) *ℤ d +ℤ pos (unsigned_abs ve) *ℤ e
weighted sa sb vc vd ve a b c d e ha hb hc hd he h = rw (abs_up sa ha, abs_down sb hb, abs_down vc hc, abs_down vd hd, abs_down ve he) h

some_size : (sa sb : ℤ) → sb <ℤ sa → 0 < unsigned_abs sb + unsigned_abs sa
some_size sa sb h = omega (arith, ints)

same_sum : (m n k l p : ℕ) (sa sb vc vd ve : ℤ) → pos m ≡ pos 0 -ℤ sb → pos n ≡ sa → pos k ≡ pos 0 -ℤ vc → pos l ≡ pos 0 -ℤ vd → pos p ≡ pos 0 -ℤ ve →
    sb -ℤ sa ≡ vc +ℤ vd +ℤ ve → m + n ≡ k + l + p
same_sum m n k l p sa sb vc vd ve hm hn hk hl hp h = omega (arith, ints)

same_size : (sa sb vc vd ve : ℤ) → pos 0 ≤ℤ sa → sb ≤ℤ pos 0 → vc ≤ℤ pos 0 → vd ≤ℤ pos 0 → ve ≤ℤ pos 0 → sb -ℤ sa ≡ vc +ℤ vd +ℤ ve →
    unsigned_abs sb + unsigned_abs sa ≡ unsigned_abs vc + unsigned_abs vd + unsigned_abs ve
same_size sa sb vc vd ve ha hb hc hd he h =
    same_sum (unsigned_abs sb) (unsigned_abs sa) (unsigned_abs vc) (unsigned_abs vd) (unsigned_abs ve) sa sb vc vd ve (abs_down sb hb) (abs_up sa ha) (abs_down vc hc) (abs_down vd hd) (abs_down ve he) h

pub crossing_meets : (a b c d e : Triple) → orientation c d e b <ℤ orientation c d e a → pos 0 ≤ℤ orientation c d e a → orientation c d e b ≤ℤ pos 0 →
    orientation a b d e ≤ℤ pos 0 → orientation a b e c ≤ℤ pos 0 → orientation a b c d ≤ℤ pos 0 → Meets a b c d e
crossing_meets a b c d e down ha hb hc hd he =
    let sa = orientation c d e a in let sb = orientation c d e b in let vc = orientation a b d e in let vd = orientation a b e c in let ve = orientation a b c d in
    record {
      i = unsigned_abs sb;
      j = unsigned_abs sa;
      k = unsigned_abs vc;
      l = unsigned_abs vd;
      m = unsigned_abs ve;
      some_weight = some_size sa sb down;
      same_weight = same_size sa sb vc vd ve ha hb hc hd he (orientation-sum a b c d e);
      same_position = same_triple _ _
          (weighted sa sb vc vd ve a.x b.x c.x d.x e.x ha hb hc hd he (crossing-x a b c d e))
          (weighted sa sb vc vd ve a.y b.y c.y d.y e.y ha hb hc hd he (crossing-y a b c d e))
          (weighted sa sb vc vd ve a.z b.z c.z d.z e.z ha hb hc hd he (crossing-z a b c d e));
    }

-- ---- directions that exclude weights
-- a term is less than another where their difference is a positive term
pub below_by : (xs : List ℤ) (x y gap : Term) → all_zero (normal (sub y (add x gap))) ≡ true → pos 0 <ℤ value xs gap → value xs x <ℤ value xs y
below_by xs x y gap e h = past (value xs x) (value xs y) (value xs gap) (same_polynomial xs y (add x gap) e) h
  where
    past : (x y gap : ℤ) → y ≡ x +ℤ gap → pos 0 <ℤ gap → x <ℤ y
    past x y gap e h = omega (arith, ints)

away : (s : ℤ) → s <ℤ pos 0 → pos 0 <ℤ (pos 0 -ℤ s)
away s h = omega (arith, ints)

gap_two : (v s t : ℤ) → pos 0 <ℤ v → s <ℤ t → pos 0 <ℤ (v +ℤ (t -ℤ s))
gap_two v s t h k = omega (arith, ints)

abbrev pub five : Triple → Triple → Triple → Triple → Triple → Positions
five a b c d e = record { a = a; b = b; c = c; d = d; e = e }

-- both ends are under the plane
pub under_plane : (a b c d e : Triple) → orientation c d e a <ℤ pos 0 → orientation c d e b <ℤ pos 0 → IsBelow (cross (minus d c) (minus e c)) (five a b c d e)
under_plane a b c d e ha hb =
    let a' = var3 0 in let b' = var3 3 in let c' = var3 6 in let d' = var3 9 in let e' = var3 12 in
    let xs = components (a ∷ b ∷ c ∷ d ∷ e ∷ []) in
    let n' = cross_t (minus_t d' c') (minus_t e' c') in
    let ga = sub (num (pos 0)) (volume_t c' d' e' a') in
    let gb = sub (num (pos 0)) (volume_t c' d' e' b') in
    let pa = away (orientation c d e a) ha in
    let pb = away (orientation c d e b) hb in
    record {
      ac = below_by xs (dot_t n' a') (dot_t n' c') ga refl pa;
      ad = below_by xs (dot_t n' a') (dot_t n' d') ga refl pa;
      ae = below_by xs (dot_t n' a') (dot_t n' e') ga refl pa;
      bc = below_by xs (dot_t n' b') (dot_t n' c') gb refl pb;
      bd = below_by xs (dot_t n' b') (dot_t n' d') gb refl pb;
      be = below_by xs (dot_t n' b') (dot_t n' e') gb refl pb;
    }

-- both ends are over the plane
pub over_plane : (a b c d e : Triple) → pos 0 <ℤ orientation c d e a → pos 0 <ℤ orientation c d e b → IsBelow (cross (minus e c) (minus d c)) (five a b c d e)
over_plane a b c d e ha hb =
    let a' = var3 0 in let b' = var3 3 in let c' = var3 6 in let d' = var3 9 in let e' = var3 12 in
    let xs = components (a ∷ b ∷ c ∷ d ∷ e ∷ []) in
    let n' = cross_t (minus_t e' c') (minus_t d' c') in
    let ga = volume_t c' d' e' a' in
    let gb = volume_t c' d' e' b' in
    record {
      ac = below_by xs (dot_t n' a') (dot_t n' c') ga refl ha;
      ad = below_by xs (dot_t n' a') (dot_t n' d') ga refl ha;
      ae = below_by xs (dot_t n' a') (dot_t n' e') ga refl ha;
      bc = below_by xs (dot_t n' b') (dot_t n' c') gb refl hb;
      bd = below_by xs (dot_t n' b') (dot_t n' d') gb refl hb;
      be = below_by xs (dot_t n' b') (dot_t n' e') gb refl hb;
    }

-- an edge that goes down passes outside of the side from d to e
outside_side : (a b c d e : Triple) → orientation c d e b <ℤ orientation c d e a → pos 0 <ℤ orientation a b d e → IsBelow (cross (minus e d) (minus b a)) (five a b c d e)
outside_side a b c d e down out =
    let a' = var3 0 in let b' = var3 3 in let c' = var3 6 in let d' = var3 9 in let e' = var3 12 in
    let xs = components (a ∷ b ∷ c ∷ d ∷ e ∷ []) in
    let n' = cross_t (minus_t e' d') (minus_t b' a') in
    let near = volume_t a' b' d' e' in
    let far = add near (sub (volume_t c' d' e' a') (volume_t c' d' e' b')) in
    let out_far = gap_two (orientation a b d e) (orientation c d e b) (orientation c d e a) out down in
    record {
      ac = below_by xs (dot_t n' a') (dot_t n' c') far refl out_far;
      ad = below_by xs (dot_t n' a') (dot_t n' d') near refl out;
      ae = below_by xs (dot_t n' a') (dot_t n' e') near refl out;
      bc = below_by xs (dot_t n' b') (dot_t n' c') far refl out_far;
      bd = below_by xs (dot_t n' b') (dot_t n' d') near refl out;
      be = below_by xs (dot_t n' b') (dot_t n' e') near refl out;
    }

-- ---- symmetries
-- the corners in a turned order
turned : (k l m : ℕ) (x c d e : ℤ) → x ≡ pos k *ℤ c +ℤ pos l *ℤ d +ℤ pos m *ℤ e → x ≡ pos l *ℤ d +ℤ pos m *ℤ e +ℤ pos k *ℤ c
turned k l m x c d e h = h ∙ same_polynomial (pos k ∷ pos l ∷ pos m ∷ c ∷ d ∷ e ∷ [])
    (add (add (mul (var 0) (var 3)) (mul (var 1) (var 4))) (mul (var 2) (var 5))) (add (add (mul (var 1) (var 4)) (mul (var 2) (var 5))) (mul (var 0) (var 3))) refl

pub Meets-turned : (a b c d e : Triple) → Meets a b c d e → Meets a b d e c
Meets-turned a b c d e w = record {
  i = w.i;
  j = w.j;
  k = w.l;
  l = w.m;
  m = w.k;
  some_weight = w.some_weight;
  same_weight = total w.i w.j w.k w.l w.m w.same_weight;
  same_position = same_triple _ _
      (turned w.k w.l w.m _ c.x d.x e.x (ap (λ (t : Triple). t.x) w.same_position))
      (turned w.k w.l w.m _ c.y d.y e.y (ap (λ (t : Triple). t.y) w.same_position))
      (turned w.k w.l w.m _ c.z d.z e.z (ap (λ (t : Triple). t.z) w.same_position));
}
  where
    total : (i j k l m : ℕ) → i + j ≡ k + l + m → i + j ≡ l + m + k
    total i j k l m h = omega arith

pub Meets-turned-k : (a b c d e : Triple) (w : Meets a b c d e) → (Meets-turned a b c d e w).k ≡ w.l
unfolding Meets-turned
Meets-turned-k a b c d e w = refl

pub Meets-turned-m : (a b c d e : Triple) (w : Meets a b c d e) → (Meets-turned a b c d e w).m ≡ w.k
unfolding Meets-turned
Meets-turned-m a b c d e w = refl

exchanged : (i j : ℕ) (a b y : ℤ) → pos i *ℤ a +ℤ pos j *ℤ b ≡ y → pos j *ℤ b +ℤ pos i *ℤ a ≡ y
exchanged i j a b y h = +ℤ_comm (pos j *ℤ b) (pos i *ℤ a) ∙ h

pub Meets-exchanged : (a b c d e : Triple) → Meets a b c d e → Meets b a c d e
Meets-exchanged a b c d e w = record {
  i = w.j;
  j = w.i;
  k = w.k;
  l = w.l;
  m = w.m;
  some_weight = some w.i w.j w.some_weight;
  same_weight = total w.i w.j _ w.same_weight;
  same_position = same_triple _ _
      (exchanged w.i w.j a.x b.x _ (ap (λ (t : Triple). t.x) w.same_position))
      (exchanged w.i w.j a.y b.y _ (ap (λ (t : Triple). t.y) w.same_position))
      (exchanged w.i w.j a.z b.z _ (ap (λ (t : Triple). t.z) w.same_position));
}
  where
    some : (i j : ℕ) → 0 < i + j → 0 < j + i
    some i j h = omega arith

    total : (i j s : ℕ) → i + j ≡ s → j + i ≡ s
    total i j s h = omega arith

orientation-turned : (c d e x : Triple) → orientation d e c x ≡ orientation c d e x
orientation-turned c d e x =
    let c' = var3 0 in let d' = var3 3 in let e' = var3 6 in let x' = var3 9 in
    same_polynomial (components (c ∷ d ∷ e ∷ x ∷ [])) (volume_t d' e' c' x') (volume_t c' d' e' x') refl

-- ---- what the tests say
pub not_under : (a b c d e : Triple) → orientation c d e b <ℤ orientation c d e a → orientation c d e a <ℤ pos 0 → Meets a b c d e → ⊥
not_under a b c d e down ha w = Meets-not_below _ (five a b c d e) (under_plane a b c d e ha (chain (orientation c d e b) (orientation c d e a) (pos 0) down ha)) w
  where
    chain : (x y z : ℤ) → x <ℤ y → y <ℤ z → x <ℤ z
    chain x y z h k = omega (arith, ints)

pub not_over : (a b c d e : Triple) → orientation c d e b <ℤ orientation c d e a → pos 0 <ℤ orientation c d e b → Meets a b c d e → ⊥
not_over a b c d e down hb w = Meets-not_below _ (five a b c d e) (over_plane a b c d e (chain (pos 0) (orientation c d e b) (orientation c d e a) hb down) hb) w
  where
    chain : (x y z : ℤ) → x <ℤ y → y <ℤ z → x <ℤ z
    chain x y z h k = omega (arith, ints)

pub not_outside_de : (a b c d e : Triple) → orientation c d e b <ℤ orientation c d e a → pos 0 <ℤ orientation a b d e → Meets a b c d e → ⊥
not_outside_de a b c d e down out w = Meets-not_below _ (five a b c d e) (outside_side a b c d e down out) w

pub not_outside_ec : (a b c d e : Triple) → orientation c d e b <ℤ orientation c d e a → pos 0 <ℤ orientation a b e c → Meets a b c d e → ⊥
not_outside_ec a b c d e down out w = not_outside_de a b d e c (rw (orientation-turned c d e b, orientation-turned c d e a) down) out (Meets-turned a b c d e w)

pub not_outside_cd : (a b c d e : Triple) → orientation c d e b <ℤ orientation c d e a → pos 0 <ℤ orientation a b c d → Meets a b c d e → ⊥
not_outside_cd a b c d e down out w = not_outside_ec a b d e c (rw (orientation-turned c d e b, orientation-turned c d e a) down) out (Meets-turned a b c d e w)

pub not_level_under : (a b c d e : Triple) → orientation c d e a <ℤ pos 0 → orientation c d e b <ℤ pos 0 → Meets a b c d e → ⊥
not_level_under a b c d e ha hb w = Meets-not_below _ (five a b c d e) (under_plane a b c d e ha hb) w

pub not_level_over : (a b c d e : Triple) → pos 0 <ℤ orientation c d e a → pos 0 <ℤ orientation c d e b → Meets a b c d e → ⊥
not_level_over a b c d e ha hb w = Meets-not_below _ (five a b c d e) (over_plane a b c d e ha hb) w
