-- A pair passes in half units exactly where it passes in grid units.
use Rattle.std.proofs.Common.{◌≡◌, ℕ, zero, suc, ◌<◌, Bool, true, false, ◌&&◌, ◌||◌, not, ℤ, pos, ◌+ℤ◌, ◌-ℤ◌, ◌*ℤ◌, ◌<ℤ◌, ◌≤ℤ◌, neg_ℤ, List, [], ◌∷◌, ◌++◌, refl, sym, ap, ◌∙◌, arith}
use Rattle.std.proofs.lemmas.Int.{ints}
use Rattle.std.proofs.lemmas.Bool.{false≢true}
use Rattle.std.specs.Prelude.{int_lt, int_le}
use Rattle.std.specs.List.{list_any}
use Rattle.grid_base.specs.declared.Positions.{Positions}
use Rattle.grid_base.specs.Triples.{Triple, plus, minus, times, opposite, dot, cross}
use Rattle.grid_base.specs.Separation.{axes, ten_directions, directions, double, middle}
use Rattle.grid_base.specs.SeparationTests.{IsExact, is_least, is_below, keeps_apart, are_separated, is_zero, same_triple, move_together, passes}
use Rattle.grid_base.proofs.Polynomials.{var, num, add, sub, mul, same_polynomial}
use Rattle.grid_base.proofs.Order.{times-mono, times-strict}
use Rattle.grid_base.proofs.TermTriples.{var3, dot_t, times_t}
use Rattle.grid_base.proofs.MeetingLaws.{same_triple as equal_triples, Meets-multiple, Meets-unmultiple}
use Rattle.grid_base.proofs.SeparationLaws.{same_five}

-- ---- numbers, some times as great
less_alike : (k : ℕ) (a b : ℤ) → 0 < k → int_lt (pos k *ℤ a) (pos k *ℤ b) ≡ int_lt a b
less_alike k a b some = by_test (int_lt a b) refl
  where
    less_of : (x y : ℤ) → int_lt x y ≡ true → x <ℤ y
    less_of x y e = omega (arith, ints)

    of_less : (x y : ℤ) → x <ℤ y → int_lt x y ≡ true
    of_less x y h = grind (arith, ints)

    most_of : (x y : ℤ) → int_lt x y ≡ false → y ≤ℤ x
    most_of x y e = omega (arith, ints)

    of_most : (x y : ℤ) → y ≤ℤ x → int_lt x y ≡ false
    of_most x y h = grind (arith, ints)

    by_test : (t : Bool) → int_lt a b ≡ t → int_lt (pos k *ℤ a) (pos k *ℤ b) ≡ t
    by_test true e = of_less (pos k *ℤ a) (pos k *ℤ b) (times-strict k a b some (less_of a b e))
    by_test false e = of_most (pos k *ℤ a) (pos k *ℤ b) (times-mono k b a (most_of a b e))

zero_alike : (x y : ℤ) → is_zero (pos 2 *ℤ x -ℤ pos 2 *ℤ y) ≡ is_zero (x -ℤ y)
zero_alike x y = λ i. low i && high i
  where
    low : int_le (pos 2 *ℤ x -ℤ pos 2 *ℤ y) (pos 0) ≡ int_le (x -ℤ y) (pos 0)
    low = grind (arith, ints)

    high : int_le (pos 0) (pos 2 *ℤ x -ℤ pos 2 *ℤ y) ≡ int_le (pos 0) (x -ℤ y)
    high = grind (arith, ints)

-- ---- one direction, some times as long, and positions doubled
dot_scaled : (k : ℕ) (n p : Triple) → dot (times k n) (times 2 p) ≡ pos 2 *ℤ (pos k *ℤ dot n p)
dot_scaled k n p =
    let n' = var3 0 in let p' = var3 3 in let k' = var 6 in
    same_polynomial (n.x ∷ n.y ∷ n.z ∷ p.x ∷ p.y ∷ p.z ∷ pos k ∷ [])
    (dot_t (times_t k' n') (times_t (num (pos 2)) p')) (mul (num (pos 2)) (mul k' (dot_t n' p'))) refl

less_scaled : (k : ℕ) (n p q : Triple) → 0 < k → int_lt (dot (times k n) (times 2 p)) (dot (times k n) (times 2 q)) ≡ int_lt (dot n p) (dot n q)
less_scaled k n p q some =
    (λ i. int_lt (dot_scaled k n p i) (dot_scaled k n q i))
    ∙ less_alike 2 (pos k *ℤ dot n p) (pos k *ℤ dot n q) (omega arith)
    ∙ less_alike k (dot n p) (dot n q) some

least_scaled : (k : ℕ) (n a c d e : Triple) → 0 < k →
    is_least (dot (times k n) (times 2 a)) (dot (times k n) (times 2 c)) (dot (times k n) (times 2 d)) (dot (times k n) (times 2 e)) ≡ is_least (dot n a) (dot n c) (dot n d) (dot n e)
least_scaled k n a c d e some = λ i. less_scaled k n a c some i && less_scaled k n a d some i && less_scaled k n a e some i

below_scaled : (k : ℕ) (n : Triple) (f : Positions) → 0 < k → is_below (times k n) (double f) ≡ is_below n f
below_scaled k n f some = λ i. least_scaled k n f.a f.c f.d f.e some i && least_scaled k n f.b f.c f.d f.e some i

opposite_scaled : (k : ℕ) (n : Triple) → times k (opposite n) ≡ opposite (times k n)
opposite_scaled k n = equal_triples _ _ (one n.x) (one n.y) (one n.z)
  where
    negative : (z : ℤ) → neg_ℤ z ≡ pos 0 -ℤ z
    negative z = omega (arith, ints)

    one : (x : ℤ) → pos k *ℤ neg_ℤ x ≡ neg_ℤ (pos k *ℤ x)
    one x = ap (λ y. pos k *ℤ y) (negative x) ∙ same_polynomial (pos k ∷ x ∷ []) (mul (var 0) (sub (num (pos 0)) (var 1))) (sub (num (pos 0)) (mul (var 0) (var 1))) refl ∙ sym (negative (pos k *ℤ x))

above_scaled : (k : ℕ) (n : Triple) (f : Positions) → 0 < k → is_below (opposite (times k n)) (double f) ≡ is_below (opposite n) f
above_scaled k n f some = ap (λ x. is_below x (double f)) (sym (opposite_scaled k n)) ∙ below_scaled k (opposite n) f some

kept_scaled : (s t : Positions) (k : ℕ) (n : Triple) → 0 < k → keeps_apart (double s) (double t) (times k n) ≡ keeps_apart s t n
kept_scaled s t k n some = λ i. (below_scaled k n s some i && below_scaled k n t some i) || (above_scaled k n s some i && above_scaled k n t some i)

-- ---- lists of directions, each some times as long as the one at its place in the other
record IsScaled (n m : Triple) : Type 0 where
  by : ℕ
  some : 0 < by
  is : m ≡ times by n

abbrev AreScaled : List Triple → List Triple → Type 0
AreScaled [] [] = Unit {0}
AreScaled [] (m ∷ ms) = ⊥
AreScaled (n ∷ ns) [] = ⊥
AreScaled (n ∷ ns) (m ∷ ms) = IsScaled n m × AreScaled ns ms

scaled_joined : (ns ms ns' ms' : List Triple) → AreScaled ns ms → AreScaled ns' ms' → AreScaled (ns ++ ns') (ms ++ ms')
scaled_joined [] [] ns' ms' h h' = h'
scaled_joined [] (m ∷ ms) ns' ms' h h' = absurd h
scaled_joined (n ∷ ns) [] ns' ms' h h' = absurd h
scaled_joined (n ∷ ns) (m ∷ ms) ns' ms' h h' = (h.0, scaled_joined ns ms ns' ms' h.1 h')

any_scaled : (p q : Triple → Bool) → ((k : ℕ) (n : Triple) → 0 < k → q (times k n) ≡ p n) → (ns ms : List Triple) → AreScaled ns ms → list_any q ms ≡ list_any p ns
any_scaled p q alike [] [] h = refl
any_scaled p q alike [] (m ∷ ms) h = absurd h
any_scaled p q alike (n ∷ ns) [] h = absurd h
any_scaled p q alike (n ∷ ns) (m ∷ ms) h =
    ap (λ b. b || list_any q ms) (ap q h.0.is ∙ alike h.0.by n h.0.some)
    ∙ ap (λ b. p n || b) (any_scaled p q alike ns ms h.1)

-- ---- the directions of positions doubled
once : (n : Triple) → IsScaled n n
once n = record { by = 1; some = omega arith; is = equal_triples _ _ (one n.x) (one n.y) (one n.z) }
  where
    one : (x : ℤ) → x ≡ pos 1 *ℤ x
    one x = same_polynomial (x ∷ []) (var 0) (mul (num (pos 1)) (var 0)) refl

minus_doubled : (a b : Triple) → minus (times 2 a) (times 2 b) ≡ times 2 (minus a b)
minus_doubled a b = equal_triples _ _ (one a.x b.x) (one a.y b.y) (one a.z b.z)
  where
    one : (x y : ℤ) → pos 2 *ℤ x -ℤ pos 2 *ℤ y ≡ pos 2 *ℤ (x -ℤ y)
    one x y = same_polynomial (x ∷ y ∷ []) (sub (mul (num (pos 2)) (var 0)) (mul (num (pos 2)) (var 1))) (mul (num (pos 2)) (sub (var 0) (var 1))) refl

cross_doubled : (a b : Triple) → cross (times 2 a) (times 2 b) ≡ times 4 (cross a b)
cross_doubled a b = equal_triples _ _ (one a.y b.z a.z b.y) (one a.z b.x a.x b.z) (one a.x b.y a.y b.x)
  where
    one : (x y z w : ℤ) → (pos 2 *ℤ x) *ℤ (pos 2 *ℤ y) -ℤ (pos 2 *ℤ z) *ℤ (pos 2 *ℤ w) ≡ pos 4 *ℤ (x *ℤ y -ℤ z *ℤ w)
    one x y z w =
        let two = num (pos 2) in
        same_polynomial (x ∷ y ∷ z ∷ w ∷ []) (sub (mul (mul two (var 0)) (mul two (var 1))) (mul (mul two (var 2)) (mul two (var 3)))) (mul (num (pos 4)) (sub (mul (var 0) (var 1)) (mul (var 2) (var 3)))) refl

twice : (a b : Triple) → IsScaled (minus a b) (minus (times 2 a) (times 2 b))
twice a b = record { by = 2; some = omega arith; is = minus_doubled a b }

four_times : (a b c d : Triple) → IsScaled (cross (minus a b) (minus c d)) (cross (minus (times 2 a) (times 2 b)) (minus (times 2 c) (times 2 d)))
four_times a b c d = record {
  by = 4;
  some = omega arith;
  is = ap (λ x. cross x (minus (times 2 c) (times 2 d))) (minus_doubled a b) ∙ ap (cross (times 2 (minus a b))) (minus_doubled c d) ∙ cross_doubled (minus a b) (minus c d);
}

ten_scaled : (f : Positions) → AreScaled (ten_directions f) (ten_directions (double f))
ten_scaled f = (
  four_times f.d f.c f.e f.c,
  (
    four_times f.b f.a f.d f.c,
    (
      four_times f.b f.a f.e f.d,
      (four_times f.b f.a f.c f.e, (twice f.c f.a, (twice f.d f.a, (twice f.e f.a, (twice f.c f.b, (twice f.d f.b, (twice f.e f.b, tt))))))),
    ),
  ),
)

directions_scaled : (s t : Positions) → AreScaled (directions s t) (directions (double s) (double t))
directions_scaled s t =
    scaled_joined (axes ++ ten_directions s) (axes ++ ten_directions (double s)) (ten_directions t) (ten_directions (double t))
    (scaled_joined axes axes (ten_directions s) (ten_directions (double s)) (once _, (once _, (once _, tt))) (ten_scaled s)) (ten_scaled t)

-- ---- the written test
any_alike : (s t : Positions) → list_any (keeps_apart (double s) (double t)) (directions (double s) (double t)) ≡ list_any (keeps_apart s t) (directions s t)
any_alike s t = any_scaled (keeps_apart s t) (keeps_apart (double s) (double t)) (kept_scaled s t) (directions s t) (directions (double s) (double t)) (directions_scaled s t)

plus_doubled : (a b : Triple) → times 2 (plus a b) ≡ plus (times 2 a) (times 2 b)
plus_doubled a b = equal_triples _ _ (one a.x b.x) (one a.y b.y) (one a.z b.z)
  where
    one : (x y : ℤ) → pos 2 *ℤ (x +ℤ y) ≡ pos 2 *ℤ x +ℤ pos 2 *ℤ y
    one x y = same_polynomial (x ∷ y ∷ []) (mul (num (pos 2)) (add (var 0) (var 1))) (add (mul (num (pos 2)) (var 0)) (mul (num (pos 2)) (var 1))) refl

middle_doubled : (s t : Positions) → double (middle s t) ≡ middle (double s) (double t)
middle_doubled s t = same_five _ _ (plus_doubled s.a t.a) (plus_doubled s.b t.b) (plus_doubled s.c t.c) (plus_doubled s.d t.d) (plus_doubled s.e t.e)

separated_alike : (depth : ℕ) (s t : Positions) → are_separated depth (double s) (double t) ≡ are_separated depth s t
separated_alike zero s t = any_alike s t
separated_alike (suc depth) s t =
    let first : are_separated depth (double (double s)) (middle (double s) (double t)) ≡ are_separated depth (double s) (middle s t) =
    ap (are_separated depth (double (double s))) (sym (middle_doubled s t)) ∙ separated_alike depth (double s) (middle s t) in
    let second : are_separated depth (middle (double s) (double t)) (double (double t)) ≡ are_separated depth (middle s t) (double t) =
    ap (λ m. are_separated depth m (double (double t))) (sym (middle_doubled s t)) ∙ separated_alike depth (middle s t) (double t) in
    λ i. any_alike s t i || (first i && second i)

one_alike : (p q a b : Triple) → same_triple (minus (times 2 q) (times 2 p)) (minus (times 2 b) (times 2 a)) ≡ same_triple (minus q p) (minus b a)
one_alike p q a b =
    (λ i. same_triple (minus_doubled q p i) (minus_doubled b a i))
    ∙ (λ i. zero_alike (minus q p).x (minus b a).x i && zero_alike (minus q p).y (minus b a).y i && zero_alike (minus q p).z (minus b a).z i)

together_alike : (s t : Positions) → move_together (double s) (double t) ≡ move_together s t
together_alike s t = λ i. one_alike s.b t.b s.a t.a i && one_alike s.c t.c s.a t.a i && one_alike s.d t.d s.a t.a i && one_alike s.e t.e s.a t.a i

meets_alike : (meets : Positions → Bool) → IsExact meets → (f : Positions) → meets (double f) ≡ meets f
meets_alike meets exact f = by_test (meets f) refl
  where
    never : meets f ≡ false → (b : Bool) → meets (double f) ≡ b → meets (double f) ≡ false
    never e true e' = absurd (false≢true (sym e ∙ (exact f).1 (Meets-unmultiple 2 f (omega arith) ((exact (double f)).0 e'))))
    never e false e' = e'

    by_test : (b : Bool) → meets f ≡ b → meets (double f) ≡ b
    by_test true e = (exact (double f)).1 (Meets-multiple 2 f ((exact f).0 e))
    by_test false e = never e (meets (double f)) refl

pub passes_alike : (meets : Positions → Bool) → IsExact meets → (depth : ℕ) (s t : Positions) → passes meets depth (double s) (double t) ≡ passes meets depth s t
passes_alike meets exact depth s t = λ i. separated_alike depth s t i || (together_alike s t i && not (meets_alike meets exact s i))
