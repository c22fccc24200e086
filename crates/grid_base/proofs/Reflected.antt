-- The tests that compute say what the definitions of the written test say.
use Rattle.std.proofs.Common.{◌≡◌, ℕ, zero, suc, ◌<◌, Bool, true, false, ◌&&◌, not, ℤ, pos, ◌-ℤ◌, ◌<ℤ◌, ◌≤ℤ◌, ⊎_elim, inl, inr, List, [], ◌∷◌, length, slice_index_or, refl, sym, ap, subst, ◌∙◌, arith}
use Rattle.std.proofs.lemmas.Int.{ints}
use Rattle.std.proofs.lemmas.Bool.{false≢true, and_parts, and_from, or_cases, or_left, or_right}
use Rattle.std.specs.Prelude.{int_lt, int_le}
use Rattle.std.specs.List.{Any, list_any}
use Rattle.grid_base.specs.declared.pair_positions.Positions.{Positions}
use Rattle.grid_base.specs.Triples.{Triple, minus, opposite, dot}
use Rattle.grid_base.specs.Meeting.{MeetAt}
use Rattle.grid_base.specs.Separation.{IsBelow, IsWeaklyBelow, KeepsApart, TakesApart, AreSeparated, MoveTogether, Passes, Opens, directions, double, middle}
use Rattle.grid_base.proofs.MeetingLaws.{same_triple as equal_triples}
use Rattle.grid_base.specs.SeparationTests.{IsExact, is_least, is_at_most, is_below, is_weakly_below, keeps_apart, takes_apart, are_separated, is_zero, same_triple, move_together, passes, opens}

-- ---- tests
less_of : (a b : ℤ) → int_lt a b ≡ true → a <ℤ b
less_of a b e = omega (arith, ints)

of_less : (a b : ℤ) → a <ℤ b → int_lt a b ≡ true
of_less a b h = grind (arith, ints)

most_of : (a b : ℤ) → int_le a b ≡ true → a ≤ℤ b
most_of a b e = omega (arith, ints)

of_most : (a b : ℤ) → a ≤ℤ b → int_le a b ≡ true
of_most a b h = grind (arith, ints)

-- ---- one direction
below_of : (n : Triple) (f : Positions) → is_below n f ≡ true → IsBelow n f
below_of n f e =
    let a = (and_parts (is_least (dot n f.a) (dot n f.c) (dot n f.d) (dot n f.e)) _ e).0 in
    let b = (and_parts (is_least (dot n f.a) (dot n f.c) (dot n f.d) (dot n f.e)) _ e).1 in
    let a2 = (and_parts (int_lt (dot n f.a) (dot n f.c) && int_lt (dot n f.a) (dot n f.d)) _ a).0 in
    let b2 = (and_parts (int_lt (dot n f.b) (dot n f.c) && int_lt (dot n f.b) (dot n f.d)) _ b).0 in
    record {
      ac = less_of _ _ (and_parts (int_lt (dot n f.a) (dot n f.c)) _ a2).0;
      ad = less_of _ _ (and_parts (int_lt (dot n f.a) (dot n f.c)) _ a2).1;
      ae = less_of _ _ (and_parts (int_lt (dot n f.a) (dot n f.c) && int_lt (dot n f.a) (dot n f.d)) _ a).1;
      bc = less_of _ _ (and_parts (int_lt (dot n f.b) (dot n f.c)) _ b2).0;
      bd = less_of _ _ (and_parts (int_lt (dot n f.b) (dot n f.c)) _ b2).1;
      be = less_of _ _ (and_parts (int_lt (dot n f.b) (dot n f.c) && int_lt (dot n f.b) (dot n f.d)) _ b).1;
    }

of_below : (n : Triple) (f : Positions) → IsBelow n f → is_below n f ≡ true
of_below n f h = and_from _ _
    (and_from _ _ (and_from _ _ (of_less _ _ h.ac) (of_less _ _ h.ad)) (of_less _ _ h.ae))
    (and_from _ _ (and_from _ _ (of_less _ _ h.bc) (of_less _ _ h.bd)) (of_less _ _ h.be))

weakly_of : (n : Triple) (f : Positions) → is_weakly_below n f ≡ true → IsWeaklyBelow n f
weakly_of n f e =
    let a = (and_parts (is_at_most (dot n f.a) (dot n f.c) (dot n f.d) (dot n f.e)) _ e).0 in
    let b = (and_parts (is_at_most (dot n f.a) (dot n f.c) (dot n f.d) (dot n f.e)) _ e).1 in
    let a2 = (and_parts (int_le (dot n f.a) (dot n f.c) && int_le (dot n f.a) (dot n f.d)) _ a).0 in
    let b2 = (and_parts (int_le (dot n f.b) (dot n f.c) && int_le (dot n f.b) (dot n f.d)) _ b).0 in
    record {
      ac = most_of _ _ (and_parts (int_le (dot n f.a) (dot n f.c)) _ a2).0;
      ad = most_of _ _ (and_parts (int_le (dot n f.a) (dot n f.c)) _ a2).1;
      ae = most_of _ _ (and_parts (int_le (dot n f.a) (dot n f.c) && int_le (dot n f.a) (dot n f.d)) _ a).1;
      bc = most_of _ _ (and_parts (int_le (dot n f.b) (dot n f.c)) _ b2).0;
      bd = most_of _ _ (and_parts (int_le (dot n f.b) (dot n f.c)) _ b2).1;
      be = most_of _ _ (and_parts (int_le (dot n f.b) (dot n f.c) && int_le (dot n f.b) (dot n f.d)) _ b).1;
    }

of_weakly : (n : Triple) (f : Positions) → IsWeaklyBelow n f → is_weakly_below n f ≡ true
of_weakly n f h = and_from _ _
    (and_from _ _ (and_from _ _ (of_most _ _ h.ac) (of_most _ _ h.ad)) (of_most _ _ h.ae))
    (and_from _ _ (and_from _ _ (of_most _ _ h.bc) (of_most _ _ h.bd)) (of_most _ _ h.be))

pub apart_of : (s t : Positions) (n : Triple) → keeps_apart s t n ≡ true → KeepsApart s t n
apart_of s t n e = ⊎_elim
    (λ b. inl (below_of n s (and_parts (is_below n s) _ b).0, below_of n t (and_parts (is_below n s) _ b).1))
    (λ a. inr (below_of (opposite n) s (and_parts (is_below (opposite n) s) _ a).0, below_of (opposite n) t (and_parts (is_below (opposite n) s) _ a).1))
    (or_cases (is_below n s && is_below n t) _ e)

pub of_apart : (s t : Positions) (n : Triple) → KeepsApart s t n → keeps_apart s t n ≡ true
of_apart s t n h = ⊎_elim
    (λ b. or_left (is_below n s && is_below n t) _ (and_from _ _ (of_below n s b.0) (of_below n t b.1)))
    (λ a. or_right (is_below n s && is_below n t) _ (and_from _ _ (of_below (opposite n) s a.0) (of_below (opposite n) t a.1))) h

taken_of : (s t : Positions) (n : Triple) → takes_apart s t n ≡ true → TakesApart s t n
taken_of s t n e = ⊎_elim
    (λ b. inl (weakly_of n s (and_parts (is_weakly_below n s) _ b).0, below_of n t (and_parts (is_weakly_below n s) _ b).1))
    (λ a. inr (weakly_of (opposite n) s (and_parts (is_weakly_below (opposite n) s) _ a).0, below_of (opposite n) t (and_parts (is_weakly_below (opposite n) s) _ a).1))
    (or_cases (is_weakly_below n s && is_below n t) _ e)

of_taken : (s t : Positions) (n : Triple) → TakesApart s t n → takes_apart s t n ≡ true
of_taken s t n h = ⊎_elim
    (λ b. or_left (is_weakly_below n s && is_below n t) _ (and_from _ _ (of_weakly n s b.0) (of_below n t b.1)))
    (λ a. or_right (is_weakly_below n s && is_below n t) _ (and_from _ _ (of_weakly (opposite n) s a.0) (of_below (opposite n) t a.1))) h

-- ---- some direction
pub any_of : {X : Type 0} (P : X → Type 0) (test : X → Bool) → ((x : X) → test x ≡ true → P x) → (xs : List X) → list_any test xs ≡ true → Any P xs
any_of P test each [] e = absurd (false≢true e)
any_of P test each (x ∷ xs) e = ⊎_elim
    (λ here. (0, x, omega arith, refl, each x here))
    (λ later. let found = any_of P test each xs later in let within = found.2 in (suc found.0, found.1, omega arith, found.3, found.4))
    (or_cases (test x) _ e)

pub of_any : {X : Type 0} (P : X → Type 0) (test : X → Bool) → ((x : X) → P x → test x ≡ true) → (xs : List X) (k : ℕ) (x : X) → k < length xs → slice_index_or xs k x ≡ x → P x → list_any test xs ≡ true
of_any P test each [] k x h e p = absurd (omega arith)
of_any P test each (y ∷ ys) zero x h e p = or_left (test y) _ (each y (subst P (sym e) p))
of_any P test each (y ∷ ys) (suc k) x h e p = or_right (test y) _ (of_any P test each ys k x (omega arith) e p)

-- ---- the written test
halves_of : {P Q : Type 0} (a b : Bool) → (a ≡ true → P) → (b ≡ true → Q) → (a && b) ≡ true → P × Q
halves_of a b f g e = (f (and_parts a b e).0, g (and_parts a b e).1)

pub separated_of : (depth : ℕ) (s t : Positions) → are_separated depth s t ≡ true → AreSeparated depth s t
separated_of zero s t e = any_of (KeepsApart s t) (keeps_apart s t) (apart_of s t) (directions s t) e
separated_of (suc depth) s t e = ⊎_elim
    (λ one. inl (any_of (KeepsApart s t) (keeps_apart s t) (apart_of s t) (directions s t) one))
    (λ two. inr (halves_of (are_separated depth (double s) (middle s t)) (are_separated depth (middle s t) (double t)) (separated_of depth (double s) (middle s t)) (separated_of depth (middle s t) (double t)) two))
    (or_cases (list_any (keeps_apart s t) (directions s t)) (are_separated depth (double s) (middle s t) && are_separated depth (middle s t) (double t)) e)

pub of_separated : (depth : ℕ) (s t : Positions) → AreSeparated depth s t → are_separated depth s t ≡ true
of_separated zero s t h = of_any (KeepsApart s t) (keeps_apart s t) (of_apart s t) (directions s t) h.0 h.1 h.2 h.3 h.4
of_separated (suc depth) s t h = ⊎_elim
    (λ one. or_left _ _ (of_any (KeepsApart s t) (keeps_apart s t) (of_apart s t) (directions s t) one.0 one.1 one.2 one.3 one.4))
    (λ two. or_right (list_any (keeps_apart s t) (directions s t)) _ (and_from _ _ (of_separated depth (double s) (middle s t) two.0) (of_separated depth (middle s t) (double t) two.1))) h

pub opens_of : (depth : ℕ) (s t : Positions) → opens depth s t ≡ true → Opens depth s t
opens_of zero s t e = any_of (TakesApart s t) (takes_apart s t) (taken_of s t) (directions s t) e
opens_of (suc depth) s t e = ⊎_elim
    (λ one. inl (any_of (TakesApart s t) (takes_apart s t) (taken_of s t) (directions s t) one))
    (λ two. inr (halves_of (opens depth (double s) (middle s t)) (are_separated depth (middle s t) (double t)) (opens_of depth (double s) (middle s t)) (separated_of depth (middle s t) (double t)) two))
    (or_cases (list_any (takes_apart s t) (directions s t)) (opens depth (double s) (middle s t) && are_separated depth (middle s t) (double t)) e)

pub of_opens : (depth : ℕ) (s t : Positions) → Opens depth s t → opens depth s t ≡ true
of_opens zero s t h = of_any (TakesApart s t) (takes_apart s t) (of_taken s t) (directions s t) h.0 h.1 h.2 h.3 h.4
of_opens (suc depth) s t h = ⊎_elim
    (λ one. or_left _ _ (of_any (TakesApart s t) (takes_apart s t) (of_taken s t) (directions s t) one.0 one.1 one.2 one.3 one.4))
    (λ two. or_right (list_any (takes_apart s t) (directions s t)) _ (and_from _ _ (of_opens depth (double s) (middle s t) two.0) (of_separated depth (middle s t) (double t) two.1))) h

-- ---- moving together
at_zero : (z : ℤ) → z ≤ℤ pos 0 → pos 0 ≤ℤ z → z ≡ pos 0
at_zero z low high = omega (arith, ints)

same_by_difference : (a b : ℤ) → a -ℤ b ≡ pos 0 → a ≡ b
same_by_difference a b h = omega (arith, ints)

zero_of : (a b : ℤ) → is_zero (a -ℤ b) ≡ true → a ≡ b
zero_of a b e = same_by_difference a b (at_zero (a -ℤ b) (most_of _ _ (and_parts (int_le (a -ℤ b) (pos 0)) _ e).0) (most_of _ _ (and_parts (int_le (a -ℤ b) (pos 0)) _ e).1))

none_left : (z : ℤ) → z -ℤ z ≡ pos 0
none_left z = omega (arith, ints)

of_zero : (a b : ℤ) → a ≡ b → is_zero (a -ℤ b) ≡ true
of_zero a b e = subst (λ z. is_zero (a -ℤ z) ≡ true) e (rw (none_left a) refl)

triples_of : (s t : Triple) → same_triple s t ≡ true → s ≡ t
triples_of s t e =
    let two = (and_parts (is_zero (s.x -ℤ t.x) && is_zero (s.y -ℤ t.y)) _ e).0 in
    equal_triples s t (zero_of _ _ (and_parts (is_zero (s.x -ℤ t.x)) _ two).0) (zero_of _ _ (and_parts (is_zero (s.x -ℤ t.x)) _ two).1) (zero_of _ _ (and_parts (is_zero (s.x -ℤ t.x) && is_zero (s.y -ℤ t.y)) _ e).1)

of_triples : (s t : Triple) → s ≡ t → same_triple s t ≡ true
of_triples s t e = and_from _ _ (and_from _ _ (of_zero _ _ (ap (λ (r : Triple). r.x) e)) (of_zero _ _ (ap (λ (r : Triple). r.y) e))) (of_zero _ _ (ap (λ (r : Triple). r.z) e))

pub together_of : (s t : Positions) → move_together s t ≡ true → MoveTogether s t
together_of s t e =
    let b = same_triple (minus t.b s.b) (minus t.a s.a) in
    let c = same_triple (minus t.c s.c) (minus t.a s.a) in
    let d = same_triple (minus t.d s.d) (minus t.a s.a) in
    let three = (and_parts (b && c && d) _ e).0 in
    let two = (and_parts (b && c) _ three).0 in
    record {
      b = triples_of _ _ (and_parts b _ two).0;
      c = triples_of _ _ (and_parts b _ two).1;
      d = triples_of _ _ (and_parts (b && c) _ three).1;
      e = triples_of _ _ (and_parts (b && c && d) _ e).1;
    }

pub of_together : (s t : Positions) → MoveTogether s t → move_together s t ≡ true
of_together s t h = and_from _ _ (and_from _ _ (and_from _ _ (of_triples _ _ h.b) (of_triples _ _ h.c)) (of_triples _ _ h.d)) (of_triples _ _ h.e)

pub apart_if : (meets : Positions → Bool) → IsExact meets → (f : Positions) (b : Bool) → meets f ≡ b → not b ≡ true → MeetAt f → ⊥
apart_if meets exact f true e t w = false≢true t
apart_if meets exact f false e t w = false≢true (sym e ∙ (exact f).1 w)

pub if_apart : (meets : Positions → Bool) → IsExact meets → (f : Positions) (b : Bool) → meets f ≡ b → (MeetAt f → ⊥) → not b ≡ true
if_apart meets exact f true e never = absurd (never ((exact f).0 e))
if_apart meets exact f false e never = refl

-- a pair passes by the test exactly where it passes
pub passes_of : (meets : Positions → Bool) → IsExact meets → (depth : ℕ) (s t : Positions) → passes meets depth s t ≡ true → Passes depth s t
passes_of meets exact depth s t e = ⊎_elim
    (λ one. inl (separated_of depth s t one))
    (λ two. inr (together_of s t (and_parts _ _ two).0, apart_if meets exact s _ refl (and_parts (move_together s t) _ two).1))
    (or_cases (are_separated depth s t) _ e)

pub of_passes : (meets : Positions → Bool) → IsExact meets → (depth : ℕ) (s t : Positions) → Passes depth s t → passes meets depth s t ≡ true
of_passes meets exact depth s t h = ⊎_elim
    (λ one. or_left _ _ (of_separated depth s t one))
    (λ two. or_right (are_separated depth s t) _ (and_from _ _ (of_together s t two.0) (if_apart meets exact s _ refl two.1))) h
