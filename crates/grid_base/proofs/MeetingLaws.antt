-- Laws of meeting: a direction that keeps five positions apart, and positions that are multiplied or moved.
use Rattle.std.proofs.Common.{◌≡◌, ℕ, ◌+◌, ◌-◌, ◌<◌, ℤ, pos, ◌+ℤ◌, ◌-ℤ◌, ◌*ℤ◌, ◌<ℤ◌, ◌≤ℤ◌, [], ◌∷◌, ap, refl, sym, ◌∙◌, arith}
use Rattle.std.proofs.lemmas.Int.{ints, by_lt_z}
use Rattle.grid_base.specs.Triples.{Triple, plus, times, dot}
use Rattle.grid_base.specs.Meeting.{Positions, MeetAt}
use Rattle.grid_base.specs.Motion.{NeverMeet}
use Rattle.grid_base.specs.Separation.{IsBelow, MoveTogether, multiple}
use Rattle.grid_base.proofs.Polynomials.{Term, var, num, add, sub, mul, same_polynomial, same_by_known}
use Rattle.grid_base.proofs.TermTriples.{var3, plus_t, times_t, dot_t, components}
use Rattle.grid_base.proofs.Order.{times-mono, times-cancel}

same_parts : (x y z x' y' z' : ℤ) → x ≡ x' → y ≡ y' → z ≡ z' → ◌≡◌ {A = Triple} (record { x = x; y = y; z = z }) (record { x = x'; y = y'; z = z' })
same_parts x y z x' y' z' p q r = cc

pub same_triple : (a b : Triple) → a.x ≡ b.x → a.y ≡ b.y → a.z ≡ b.z → a ≡ b
same_triple a b p q r = same_parts a.x a.y a.z b.x b.y b.z p q r

-- ---- a direction is linear
pub dot-plus : (n a b : Triple) → dot n (plus a b) ≡ dot n a +ℤ dot n b
dot-plus n a b =
    let n' = var3 0 in let a' = var3 3 in let b' = var3 6 in
    same_polynomial (components (n ∷ a ∷ b ∷ [])) (dot_t n' (plus_t a' b')) (add (dot_t n' a') (dot_t n' b')) refl

pub dot-times : (n : Triple) (i : ℕ) (a : Triple) → dot n (times i a) ≡ pos i *ℤ dot n a
dot-times n i a =
    let i' = var 0 in let n' = var3 1 in let a' = var3 4 in
    same_polynomial (pos i ∷ components (n ∷ a ∷ [])) (dot_t n' (times_t i' a')) (mul i' (dot_t n' a')) refl

-- the weighted positions of an edge and of a triangle, along a direction
dot-edge : (n : Triple) (i j : ℕ) (a b : Triple) → dot n (plus (times i a) (times j b)) ≡ pos i *ℤ dot n a +ℤ pos j *ℤ dot n b
dot-edge n i j a b = rw (dot-plus n (times i a) (times j b), dot-times n i a, dot-times n j b) refl

dot-corners : (n : Triple) (k l m : ℕ) (c d e : Triple) → dot n (plus (plus (times k c) (times l d)) (times m e)) ≡ pos k *ℤ dot n c +ℤ pos l *ℤ dot n d +ℤ pos m *ℤ dot n e
dot-corners n k l m c d e = rw (dot-plus n (plus (times k c) (times l d)) (times m e), dot-edge n k l c d, dot-times n m e) refl

-- ---- a direction with the edge below excludes weights
-- the same of numbers: no mean of smaller numbers is a mean of greater ones
pub no_mean_below : (i j k l m : ℕ) (a b c d e : ℤ) → 0 < i + j → i + j ≡ k + l + m → (top : ℤ) → a ≤ℤ top → b ≤ℤ top → top <ℤ c → top <ℤ d → top <ℤ e →
    pos i *ℤ a +ℤ pos j *ℤ b ≡ pos k *ℤ c +ℤ pos l *ℤ d +ℤ pos m *ℤ e → ⊥
no_mean_below i j k l m a b c d e some same top at bt tc td te mean =
    let above : ℤ = top +ℤ pos 1 in
    let ic : above ≤ℤ c = omega (arith, ints) in
    let id : above ≤ℤ d = omega (arith, ints) in
    let ie : above ≤ℤ e = omega (arith, ints) in
    let left = total_two i j top in
    let right = total_three k l m above in
    far (i + j) (k + l + m) top (pos i *ℤ a) (pos j *ℤ b) (pos k *ℤ c) (pos l *ℤ d) (pos m *ℤ e) (pos i *ℤ top) (pos j *ℤ top) (pos k *ℤ above) (pos l *ℤ above) (pos m *ℤ above) (pos (i + j) *ℤ top)
    some same (times-mono i a top at) (times-mono j b top bt) (times-mono k above c ic) (times-mono l above d id) (times-mono m above e ie) mean left (right ∙ step k l m top ∙ ap (λ (n : ℕ). pos n *ℤ top +ℤ pos n) (sym same))
  where
    total_two : (i j : ℕ) (t : ℤ) → pos i *ℤ t +ℤ pos j *ℤ t ≡ pos (i + j) *ℤ t
    total_two i j t = same_polynomial (pos i ∷ pos j ∷ t ∷ []) (add (mul (var 0) (var 2)) (mul (var 1) (var 2))) (mul (add (var 0) (var 1)) (var 2)) refl

    total_three : (k l m : ℕ) (t : ℤ) → pos k *ℤ t +ℤ pos l *ℤ t +ℤ pos m *ℤ t ≡ pos (k + l + m) *ℤ t
    total_three k l m t = same_polynomial (pos k ∷ pos l ∷ pos m ∷ t ∷ []) (add (add (mul (var 0) (var 3)) (mul (var 1) (var 3))) (mul (var 2) (var 3))) (mul (add (add (var 0) (var 1)) (var 2)) (var 3)) refl

    step : (k l m : ℕ) (t : ℤ) → pos (k + l + m) *ℤ (t +ℤ pos 1) ≡ pos (k + l + m) *ℤ t +ℤ pos (k + l + m)
    step k l m t = same_polynomial (pos (k + l + m) ∷ t ∷ []) (mul (var 0) (add (var 1) (num (pos 1)))) (add (mul (var 0) (var 1)) (var 0)) refl

    far : (s s' : ℕ) (top ia jb kc ld me it jt ku lu mu st : ℤ) → 0 < s → s ≡ s' → ia ≤ℤ it → jb ≤ℤ jt → ku ≤ℤ kc → lu ≤ℤ ld → mu ≤ℤ me → ia +ℤ jb ≡ kc +ℤ ld +ℤ me → it +ℤ jt ≡ st → ku +ℤ lu +ℤ mu ≡ st +ℤ pos s → ⊥
    far s s' top ia jb kc ld me it jt ku lu mu st some same p q r t u mean left right = omega (arith, ints)

pub Meets-not_below : (n : Triple) (f : Positions) → IsBelow n f → MeetAt f → ⊥
Meets-not_below n f h w =
    let mean : pos w.i *ℤ dot n f.a +ℤ pos w.j *ℤ dot n f.b ≡ pos w.k *ℤ dot n f.c +ℤ pos w.l *ℤ dot n f.d +ℤ pos w.m *ℤ dot n f.e =
    sym (dot-edge n w.i w.j f.a f.b) ∙ ap (dot n) w.same_position ∙ dot-corners n w.k w.l w.m f.c f.d f.e in
    by_lt_z (dot n f.a) (dot n f.b)
    (λ ab. no_mean_below w.i w.j w.k w.l w.m _ _ _ _ _ w.some_weight w.same_weight (dot n f.b) (weaken (dot n f.a) (dot n f.b) ab) (itself (dot n f.b)) h.bc h.bd h.be mean)
    (λ ba. no_mean_below w.i w.j w.k w.l w.m _ _ _ _ _ w.some_weight w.same_weight (dot n f.a) (itself (dot n f.a)) ba h.ac h.ad h.ae mean)
  where
    weaken : (a b : ℤ) → a <ℤ b → a ≤ℤ b
    weaken a b h = omega (arith, ints)

    itself : (a : ℤ) → a ≤ℤ a
    itself a = omega (arith, ints)

-- ---- positions multiplied by one positive number
-- the means of both sides
abbrev edge_mean : (i j : ℕ) → ℤ → ℤ → ℤ
edge_mean i j a b = pos i *ℤ a +ℤ pos j *ℤ b

abbrev corner_mean : (k l m : ℕ) → ℤ → ℤ → ℤ → ℤ
corner_mean k l m c d e = pos k *ℤ c +ℤ pos l *ℤ d +ℤ pos m *ℤ e

edge_mean-times : (n i j : ℕ) (a b : ℤ) → edge_mean i j (pos n *ℤ a) (pos n *ℤ b) ≡ pos n *ℤ edge_mean i j a b
edge_mean-times n i j a b =
    let n' = var 0 in let i' = var 1 in let j' = var 2 in let a' = var 3 in let b' = var 4 in
    same_polynomial (pos n ∷ pos i ∷ pos j ∷ a ∷ b ∷ []) (add (mul i' (mul n' a')) (mul j' (mul n' b'))) (mul n' (add (mul i' a') (mul j' b'))) refl

corner_mean-times : (n k l m : ℕ) (c d e : ℤ) → corner_mean k l m (pos n *ℤ c) (pos n *ℤ d) (pos n *ℤ e) ≡ pos n *ℤ corner_mean k l m c d e
corner_mean-times n k l m c d e =
    let n' = var 0 in let k' = var 1 in let l' = var 2 in let m' = var 3 in let c' = var 4 in let d' = var 5 in let e' = var 6 in
    same_polynomial (pos n ∷ pos k ∷ pos l ∷ pos m ∷ c ∷ d ∷ e ∷ []) (add (add (mul k' (mul n' c')) (mul l' (mul n' d'))) (mul m' (mul n' e'))) (mul n' (add (add (mul k' c') (mul l' d')) (mul m' e'))) refl

means_scaled : (n i j k l m : ℕ) (a b c d e : ℤ) → edge_mean i j a b ≡ corner_mean k l m c d e →
    edge_mean i j (pos n *ℤ a) (pos n *ℤ b) ≡ corner_mean k l m (pos n *ℤ c) (pos n *ℤ d) (pos n *ℤ e)
means_scaled n i j k l m a b c d e h = edge_mean-times n i j a b ∙ ap (λ x. pos n *ℤ x) h ∙ sym (corner_mean-times n k l m c d e)

means_unscaled : (n i j k l m : ℕ) (a b c d e : ℤ) → 0 < n → edge_mean i j (pos n *ℤ a) (pos n *ℤ b) ≡ corner_mean k l m (pos n *ℤ c) (pos n *ℤ d) (pos n *ℤ e) →
    edge_mean i j a b ≡ corner_mean k l m c d e
means_unscaled n i j k l m a b c d e p h = times-cancel n _ _ p (sym (edge_mean-times n i j a b) ∙ h ∙ corner_mean-times n k l m c d e)

pub Meets-multiple : (n : ℕ) (f : Positions) → MeetAt f → MeetAt (multiple n f)
Meets-multiple n f w = record {
  i = w.i;
  j = w.j;
  k = w.k;
  l = w.l;
  m = w.m;
  some_weight = w.some_weight;
  same_weight = w.same_weight;
  same_position = same_triple _ _
      (means_scaled n w.i w.j w.k w.l w.m f.a.x f.b.x f.c.x f.d.x f.e.x (ap (λ (t : Triple). t.x) w.same_position))
      (means_scaled n w.i w.j w.k w.l w.m f.a.y f.b.y f.c.y f.d.y f.e.y (ap (λ (t : Triple). t.y) w.same_position))
      (means_scaled n w.i w.j w.k w.l w.m f.a.z f.b.z f.c.z f.d.z f.e.z (ap (λ (t : Triple). t.z) w.same_position));
}

pub Meets-unmultiple : (n : ℕ) (f : Positions) → 0 < n → MeetAt (multiple n f) → MeetAt f
Meets-unmultiple n f p w = record {
  i = w.i;
  j = w.j;
  k = w.k;
  l = w.l;
  m = w.m;
  some_weight = w.some_weight;
  same_weight = w.same_weight;
  same_position = same_triple _ _
      (means_unscaled n w.i w.j w.k w.l w.m f.a.x f.b.x f.c.x f.d.x f.e.x p (ap (λ (t : Triple). t.x) w.same_position))
      (means_unscaled n w.i w.j w.k w.l w.m f.a.y f.b.y f.c.y f.d.y f.e.y p (ap (λ (t : Triple). t.y) w.same_position))
      (means_unscaled n w.i w.j w.k w.l w.m f.a.z f.b.z f.c.z f.d.z f.e.z p (ap (λ (t : Triple). t.z) w.same_position));
}

-- ---- positions that move together
-- one component: the shift counts with the difference of the weights' sums, which is none
abbrev part_way : Term → Term → Term → Term → Term
part_way u p s t = add (mul u s) (mul p t)

means_moved : (i j k l m u p : ℕ) (a b c d e a' b' c' d' e' : ℤ) → i + j ≡ k + l + m → 0 < u + p →
    b' -ℤ b ≡ a' -ℤ a → c' -ℤ c ≡ a' -ℤ a → d' -ℤ d ≡ a' -ℤ a → e' -ℤ e ≡ a' -ℤ a →
    edge_mean i j (pos u *ℤ a +ℤ pos p *ℤ a') (pos u *ℤ b +ℤ pos p *ℤ b') ≡ corner_mean k l m (pos u *ℤ c +ℤ pos p *ℤ c') (pos u *ℤ d +ℤ pos p *ℤ d') (pos u *ℤ e +ℤ pos p *ℤ e') →
    edge_mean i j a b ≡ corner_mean k l m c d e
means_moved i j k l m u p a b c d e a' b' c' d' e' same some hb hc hd he h =
    let i_ = var 0 in
    let j_ = var 1 in
    let k_ = var 2 in
    let l_ = var 3 in
    let m_ = var 4 in
    let u_ = var 5 in
    let p_ = var 6 in
    let a_ = var 7 in
    let b_ = var 8 in
    let c_ = var 9 in
    let d_ = var 10 in
    let e_ = var 11 in
    let a2 = var 12 in
    let b2 = var 13 in
    let c2 = var 14 in
    let d2 = var 15 in
    let e2 = var 16 in
    let shift = sub a2 a_ in
    times-cancel (u + p) _ _ some (same_by_known (pos i ∷ pos j ∷ pos k ∷ pos l ∷ pos m ∷ pos u ∷ pos p ∷ a ∷ b ∷ c ∷ d ∷ e ∷ a' ∷ b' ∷ c' ∷ d' ∷ e' ∷ [])
    (record { factor = num (pos 1); left = add (mul i_ (part_way u_ p_ a_ a2)) (mul j_ (part_way u_ p_ b_ b2)); right = add (add (mul k_ (part_way u_ p_ c_ c2)) (mul l_ (part_way u_ p_ d_ d2))) (mul m_ (part_way u_ p_ e_ e2)) }
    ∷ record { factor = sub (num (pos 0)) (mul p_ shift); left = add i_ j_; right = add (add k_ l_) m_ }
    ∷ record { factor = sub (num (pos 0)) (mul j_ p_); left = sub b2 b_; right = shift }
    ∷ record { factor = mul k_ p_; left = sub c2 c_; right = shift }
    ∷ record { factor = mul l_ p_; left = sub d2 d_; right = shift }
    ∷ record { factor = mul m_ p_; left = sub e2 e_; right = shift } ∷ [])
    (mul (add u_ p_) (add (mul i_ a_) (mul j_ b_))) (mul (add u_ p_) (add (add (mul k_ c_) (mul l_ d_)) (mul m_ e_)))
    (h, (ap pos same, (hb, (hc, (hd, (he, tt)))))) refl)

pub MoveTogether-never_meet : (start end : Positions) → MoveTogether start end → ¬ (MeetAt start) → NeverMeet start end
MoveTogether-never_meet start end together apart p q some within w = apart (record {
  i = w.i;
  j = w.j;
  k = w.k;
  l = w.l;
  m = w.m;
  some_weight = w.some_weight;
  same_weight = w.same_weight;
  same_position = same_triple _ _
      (means_moved w.i w.j w.k w.l w.m (q - p) p start.a.x start.b.x start.c.x start.d.x start.e.x end.a.x end.b.x end.c.x end.d.x end.e.x w.same_weight all_of_it (ap (λ (t : Triple). t.x) together.b) (ap (λ (t : Triple). t.x) together.c) (ap (λ (t : Triple). t.x) together.d) (ap (λ (t : Triple). t.x) together.e) (ap (λ (t : Triple). t.x) w.same_position))
      (means_moved w.i w.j w.k w.l w.m (q - p) p start.a.y start.b.y start.c.y start.d.y start.e.y end.a.y end.b.y end.c.y end.d.y end.e.y w.same_weight all_of_it (ap (λ (t : Triple). t.y) together.b) (ap (λ (t : Triple). t.y) together.c) (ap (λ (t : Triple). t.y) together.d) (ap (λ (t : Triple). t.y) together.e) (ap (λ (t : Triple). t.y) w.same_position))
      (means_moved w.i w.j w.k w.l w.m (q - p) p start.a.z start.b.z start.c.z start.d.z start.e.z end.a.z end.b.z end.c.z end.d.z end.e.z w.same_weight all_of_it (ap (λ (t : Triple). t.z) together.b) (ap (λ (t : Triple). t.z) together.c) (ap (λ (t : Triple). t.z) together.d) (ap (λ (t : Triple). t.z) together.e) (ap (λ (t : Triple). t.z) w.same_position));
})
  where
    all_of_it : 0 < q - p + p
    all_of_it = omega arith
