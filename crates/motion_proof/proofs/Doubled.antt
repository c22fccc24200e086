-- A pair passes in half units where it passes in grid units.
use Rattle.std.proofs.Common.{◌≡◌, ℕ, zero, suc, ◌<◌, ℤ, pos, ◌+ℤ◌, ◌-ℤ◌, ◌*ℤ◌, ◌<ℤ◌, neg_ℤ, ⊎_elim, inl, inr, List, [], ◌∷◌, ◌++◌, refl, sym, ap, subst, ◌∙◌, arith}
use Rattle.std.proofs.lemmas.Int.{ints}
use Rattle.std.specs.List.{Any}
use Rattle.grid_base.specs.declared.Positions.{Positions}
use Rattle.grid_base.specs.Triples.{Triple, plus, minus, times, opposite, dot, cross}
use Rattle.grid_base.specs.Separation.{IsBelow, KeepsApart, AreSeparated, MoveTogether, Passes, axes, ten_directions, directions, double, middle}
use Rattle.grid_base.proofs.Polynomials.{var, num, add, sub, mul, same_polynomial}
use Rattle.grid_base.proofs.Order.{times-strict}
use Rattle.grid_base.proofs.TermTriples.{var3, dot_t, times_t}
use Rattle.grid_base.proofs.MeetingLaws.{same_triple, Meets-unmultiple}
use Rattle.grid_base.proofs.SeparationLaws.{same_five}

-- ---- one direction, some times as long, and positions doubled
dot_scaled : (k : ℕ) (n p : Triple) → dot (times k n) (times 2 p) ≡ pos 2 *ℤ (pos k *ℤ dot n p)
dot_scaled k n p =
    let n' = var3 0 in let p' = var3 3 in let k' = var 6 in
    same_polynomial (n.x ∷ n.y ∷ n.z ∷ p.x ∷ p.y ∷ p.z ∷ pos k ∷ [])
    (dot_t (times_t k' n') (times_t (num (pos 2)) p')) (mul (num (pos 2)) (mul k' (dot_t n' p'))) refl

less_scaled : (k : ℕ) (n p q : Triple) → 0 < k → dot n p <ℤ dot n q → dot (times k n) (times 2 p) <ℤ dot (times k n) (times 2 q)
less_scaled k n p q some h = rw (dot_scaled k n p, dot_scaled k n q) (times-strict 2 _ _ (omega arith) (times-strict k (dot n p) (dot n q) some h))

below_scaled : (k : ℕ) (n : Triple) (f : Positions) → 0 < k → IsBelow n f → IsBelow (times k n) (double f)
below_scaled k n f some h = record {
  ac = less_scaled k n f.a f.c some h.ac;
  ad = less_scaled k n f.a f.d some h.ad;
  ae = less_scaled k n f.a f.e some h.ae;
  bc = less_scaled k n f.b f.c some h.bc;
  bd = less_scaled k n f.b f.d some h.bd;
  be = less_scaled k n f.b f.e some h.be;
}

opposite_scaled : (k : ℕ) (n : Triple) → times k (opposite n) ≡ opposite (times k n)
opposite_scaled k n = same_triple _ _ (one n.x) (one n.y) (one n.z)
  where
    negative : (z : ℤ) → neg_ℤ z ≡ pos 0 -ℤ z
    negative z = omega (arith, ints)

    one : (x : ℤ) → pos k *ℤ neg_ℤ x ≡ neg_ℤ (pos k *ℤ x)
    one x = ap (λ y. pos k *ℤ y) (negative x) ∙ same_polynomial (pos k ∷ x ∷ []) (mul (var 0) (sub (num (pos 0)) (var 1))) (sub (num (pos 0)) (mul (var 0) (var 1))) refl ∙ sym (negative (pos k *ℤ x))

above_scaled : (k : ℕ) (n : Triple) (f : Positions) → 0 < k → IsBelow (opposite n) f → IsBelow (opposite (times k n)) (double f)
above_scaled k n f some h = subst (λ x. IsBelow x (double f)) (opposite_scaled k n) (below_scaled k (opposite n) f some h)

kept_scaled : (k : ℕ) (s t : Positions) (n : Triple) → 0 < k → KeepsApart s t n → KeepsApart (double s) (double t) (times k n)
kept_scaled k s t n some h = ⊎_elim
    (λ b. inl (below_scaled k n s some b.0, below_scaled k n t some b.1))
    (λ a. inr (above_scaled k n s some a.0, above_scaled k n t some a.1)) h

-- ---- lists of directions, each some times as long as the one at its place in the other
record IsScaled (n m : Triple) : Type 0 where
  by : ℕ
  some : 0 < by
  is : m ≡ times by n

abbrev AreScaled : List Triple → List Triple → Type 0
AreScaled [] [] = Unit {0}
AreScaled [] (m ∷ ms) = ⊥
AreScaled (n ∷ ns) [] = ⊥
AreScaled (n ∷ ns) (m ∷ ms) = IsScaled n m × AreScaled ns ms

scaled_joined : (ns ms ns' ms' : List Triple) → AreScaled ns ms → AreScaled ns' ms' → AreScaled (ns ++ ns') (ms ++ ms')
scaled_joined [] [] ns' ms' h h' = h'
scaled_joined [] (m ∷ ms) ns' ms' h h' = absurd h
scaled_joined (n ∷ ns) [] ns' ms' h h' = absurd h
scaled_joined (n ∷ ns) (m ∷ ms) ns' ms' h h' = (h.0, scaled_joined ns ms ns' ms' h.1 h')

any_scaled : (P Q : Triple → Type 0) → ((k : ℕ) (n : Triple) → 0 < k → P n → Q (times k n)) → (ns ms : List Triple) → AreScaled ns ms → Any P ns → Any Q ms
any_scaled P Q up [] [] h any = absurd (let lt : any.0 < 0 = any.2 in omega arith)
any_scaled P Q up [] (m ∷ ms) h any = absurd h
any_scaled P Q up (n ∷ ns) [] h any = absurd h
any_scaled P Q up (n ∷ ns) (m ∷ ms) h (zero, x, lt, at, p) = (0, m, omega arith, refl, subst Q (sym h.0.is) (up h.0.by n h.0.some (subst P (sym at) p)))
any_scaled P Q up (n ∷ ns) (m ∷ ms) h (suc k, x, lt, at, p) = let rest = any_scaled P Q up ns ms h.1 (k, x, omega arith, at, p) in (suc rest.0, rest.1, omega (arith, rest.2), rest.3, rest.4)

-- ---- the directions of positions doubled
once : (n : Triple) → IsScaled n n
once n = record { by = 1; some = omega arith; is = same_triple _ _ (one n.x) (one n.y) (one n.z) }
  where
    one : (x : ℤ) → x ≡ pos 1 *ℤ x
    one x = same_polynomial (x ∷ []) (var 0) (mul (num (pos 1)) (var 0)) refl

minus_doubled : (a b : Triple) → minus (times 2 a) (times 2 b) ≡ times 2 (minus a b)
minus_doubled a b = same_triple _ _ (one a.x b.x) (one a.y b.y) (one a.z b.z)
  where
    one : (x y : ℤ) → pos 2 *ℤ x -ℤ pos 2 *ℤ y ≡ pos 2 *ℤ (x -ℤ y)
    one x y = same_polynomial (x ∷ y ∷ []) (sub (mul (num (pos 2)) (var 0)) (mul (num (pos 2)) (var 1))) (mul (num (pos 2)) (sub (var 0) (var 1))) refl

cross_doubled : (a b : Triple) → cross (times 2 a) (times 2 b) ≡ times 4 (cross a b)
cross_doubled a b = same_triple _ _ (one a.y b.z a.z b.y) (one a.z b.x a.x b.z) (one a.x b.y a.y b.x)
  where
    one : (x y z w : ℤ) → (pos 2 *ℤ x) *ℤ (pos 2 *ℤ y) -ℤ (pos 2 *ℤ z) *ℤ (pos 2 *ℤ w) ≡ pos 4 *ℤ (x *ℤ y -ℤ z *ℤ w)
    one x y z w =
        let two = num (pos 2) in
        same_polynomial (x ∷ y ∷ z ∷ w ∷ []) (sub (mul (mul two (var 0)) (mul two (var 1))) (mul (mul two (var 2)) (mul two (var 3)))) (mul (num (pos 4)) (sub (mul (var 0) (var 1)) (mul (var 2) (var 3)))) refl

twice : (a b : Triple) → IsScaled (minus a b) (minus (times 2 a) (times 2 b))
twice a b = record { by = 2; some = omega arith; is = minus_doubled a b }

four_times : (a b c d : Triple) → IsScaled (cross (minus a b) (minus c d)) (cross (minus (times 2 a) (times 2 b)) (minus (times 2 c) (times 2 d)))
four_times a b c d = record {
  by = 4;
  some = omega arith;
  is = ap (λ x. cross x (minus (times 2 c) (times 2 d))) (minus_doubled a b) ∙ ap (cross (times 2 (minus a b))) (minus_doubled c d) ∙ cross_doubled (minus a b) (minus c d);
}

ten_scaled : (f : Positions) → AreScaled (ten_directions f) (ten_directions (double f))
ten_scaled f = (
  four_times f.d f.c f.e f.c,
  (
    four_times f.b f.a f.d f.c,
    (
      four_times f.b f.a f.e f.d,
      (four_times f.b f.a f.c f.e, (twice f.c f.a, (twice f.d f.a, (twice f.e f.a, (twice f.c f.b, (twice f.d f.b, (twice f.e f.b, tt))))))),
    ),
  ),
)

directions_scaled : (s t : Positions) → AreScaled (directions s t) (directions (double s) (double t))
directions_scaled s t =
    scaled_joined (axes ++ ten_directions s) (axes ++ ten_directions (double s)) (ten_directions t) (ten_directions (double t))
    (scaled_joined axes axes (ten_directions s) (ten_directions (double s)) (once _, (once _, (once _, tt))) (ten_scaled s)) (ten_scaled t)

-- ---- the written test
any_doubled : (s t : Positions) → Any (KeepsApart s t) (directions s t) → Any (KeepsApart (double s) (double t)) (directions (double s) (double t))
any_doubled s t h = any_scaled (KeepsApart s t) (KeepsApart (double s) (double t)) (λ k n some kept. kept_scaled k s t n some kept) (directions s t) (directions (double s) (double t)) (directions_scaled s t) h

plus_doubled : (a b : Triple) → times 2 (plus a b) ≡ plus (times 2 a) (times 2 b)
plus_doubled a b = same_triple _ _ (one a.x b.x) (one a.y b.y) (one a.z b.z)
  where
    one : (x y : ℤ) → pos 2 *ℤ (x +ℤ y) ≡ pos 2 *ℤ x +ℤ pos 2 *ℤ y
    one x y = same_polynomial (x ∷ y ∷ []) (mul (num (pos 2)) (add (var 0) (var 1))) (add (mul (num (pos 2)) (var 0)) (mul (num (pos 2)) (var 1))) refl

middle_doubled : (s t : Positions) → double (middle s t) ≡ middle (double s) (double t)
middle_doubled s t = same_five _ _ (plus_doubled s.a t.a) (plus_doubled s.b t.b) (plus_doubled s.c t.c) (plus_doubled s.d t.d) (plus_doubled s.e t.e)

pub separated_doubled : (depth : ℕ) (s t : Positions) → AreSeparated depth s t → AreSeparated depth (double s) (double t)
separated_doubled zero s t h = any_doubled s t h
separated_doubled (suc depth) s t h = ⊎_elim
    (λ one. inl (any_doubled s t one))
    (λ two. inr (
      subst (λ m. AreSeparated depth (double (double s)) m) (middle_doubled s t) (separated_doubled depth (double s) (middle s t) two.0),
      subst (λ m. AreSeparated depth m (double (double t))) (middle_doubled s t) (separated_doubled depth (middle s t) (double t) two.1),
    )) h

together_doubled : (s t : Positions) → MoveTogether s t → MoveTogether (double s) (double t)
together_doubled s t h = record { b = one s.b t.b h.b; c = one s.c t.c h.c; d = one s.d t.d h.d; e = one s.e t.e h.e }
  where
    one : (p q : Triple) → minus q p ≡ minus t.a s.a → minus (times 2 q) (times 2 p) ≡ minus (times 2 t.a) (times 2 s.a)
    one p q e = minus_doubled q p ∙ ap (times 2) e ∙ sym (minus_doubled t.a s.a)

pub passes_doubled : (depth : ℕ) (s t : Positions) → Passes depth s t → Passes depth (double s) (double t)
passes_doubled depth s t h = ⊎_elim
    (λ separated. inl (separated_doubled depth s t separated))
    (λ together. inr (together_doubled s t together.0, λ meets. together.1 (Meets-unmultiple 2 s (omega arith) meets))) h
