-- What a passed test says of every fraction of the motion.
use Rattle.std.proofs.Common.{◌≡◌, ℕ, zero, suc, ◌+◌, ◌-◌, ◌<◌, ◌≤◌, ℤ, pos, ◌+ℤ◌, ◌-ℤ◌, ◌*ℤ◌, ◌<ℤ◌, ◌≤ℤ◌, ◌⊎◌, ⊎_elim, inl, inr, List, [], ◌∷◌, refl, sym, subst, arith}
use Rattle.std.proofs.lemmas.Int.{ints}
use Rattle.std.specs.List.{Any}
use Rattle.std.proofs.Math.IntN.{+ℤ_comm}
use Rattle.grid_base.specs.Triples.{Triple, plus, minus, times, opposite, dot}
use Rattle.grid_base.specs.Meeting.{Positions, MeetAt}
use Rattle.grid_base.specs.Motion.{position_at, positions_at, NeverMeet, NeverMeetAfterStart, NeverMeetBeforeEnd}
use Rattle.grid_base.specs.Separation.{IsBelow, IsWeaklyBelow, KeepsApart, TakesApart, BringsTogether, AreSeparated, MoveTogether, Passes, Opens, Closes, directions, double, middle}
use Rattle.grid_base.proofs.Polynomials.{var, num, add, mul, same_polynomial}
use Rattle.grid_base.proofs.Order.{times-mono, times-strict}
use Rattle.grid_base.proofs.MeetingLaws.{same_triple, dot-plus, dot-times, Meets-not_below, Meets-multiple, MoveTogether-never_meet}

-- ---- one direction
dot-position_at : (n : Triple) (p q : ℕ) (s t : Triple) → dot n (position_at p q s t) ≡ pos (q - p) *ℤ dot n s +ℤ pos p *ℤ dot n t
dot-position_at n p q s t = rw (dot-plus n (times (q - p) s) (times p t), dot-times n (q - p) s, dot-times n p t) refl

mean_below : (u p : ℕ) (a c a' c' : ℤ) → 0 < p → a ≤ℤ c → a' <ℤ c' → (pos u *ℤ a +ℤ pos p *ℤ a') <ℤ (pos u *ℤ c +ℤ pos p *ℤ c')
mean_below u p a c a' c' some h k = sum (pos u *ℤ a) (pos u *ℤ c) (pos p *ℤ a') (pos p *ℤ c') (times-mono u a c h) (times-strict p a' c' some k)
  where
    sum : (x y z w : ℤ) → x ≤ℤ y → z <ℤ w → (x +ℤ z) <ℤ (y +ℤ w)
    sum x y z w h k = omega (arith, ints)

still_below : (n : Triple) (p q : ℕ) (s t s' t' : Triple) → 0 < p → dot n s ≤ℤ dot n t → dot n s' <ℤ dot n t' → dot n (position_at p q s s') <ℤ dot n (position_at p q t t')
still_below n p q s t s' t' some h k =
    rw (dot-position_at n p q s s', dot-position_at n p q t t') (mean_below (q - p) p (dot n s) (dot n t) (dot n s') (dot n t') some h k)

-- weakly below at the start and below at the end is below at each fraction above zero
below_after_start : (n : Triple) (start end : Positions) → IsWeaklyBelow n start → IsBelow n end → (p q : ℕ) → 0 < p → IsBelow n (positions_at p q start end)
below_after_start n s t h k p q some = record {
  ac = still_below n p q s.a s.c t.a t.c some h.ac k.ac;
  ad = still_below n p q s.a s.d t.a t.d some h.ad k.ad;
  ae = still_below n p q s.a s.e t.a t.e some h.ae k.ae;
  bc = still_below n p q s.b s.c t.b t.c some h.bc k.bc;
  bd = still_below n p q s.b s.d t.b t.d some h.bd k.bd;
  be = still_below n p q s.b s.e t.b t.e some h.be k.be;
}

-- below at the start and at the end is below at each fraction
mean_strict : (u p : ℕ) (a c a' c' : ℤ) → 0 < u + p → a <ℤ c → a' <ℤ c' → (pos u *ℤ a +ℤ pos p *ℤ a') <ℤ (pos u *ℤ c +ℤ pos p *ℤ c')
mean_strict u p a c a' c' some h k =
    sum u p (pos u *ℤ a) (pos u *ℤ c) (pos p *ℤ a') (pos p *ℤ c') some (past u a c h) (past p a' c' k)
  where
    one_more : (u : ℕ) (a : ℤ) → pos u *ℤ (a +ℤ pos 1) ≡ pos u *ℤ a +ℤ pos u
    one_more u a = same_polynomial (pos u ∷ a ∷ []) (mul (var 0) (add (var 1) (num (pos 1)))) (add (mul (var 0) (var 1)) (var 0)) refl

    next : (a c : ℤ) → a <ℤ c → (a +ℤ pos 1) ≤ℤ c
    next a c h = omega (arith, ints)

    past : (u : ℕ) (a c : ℤ) → a <ℤ c → (pos u *ℤ a +ℤ pos u) ≤ℤ (pos u *ℤ c)
    past u a c h = rw (one_more u a) at (times-mono u (a +ℤ pos 1) c (next a c h))

    sum : (u p : ℕ) (x y z w : ℤ) → 0 < u + p → (x +ℤ pos u) ≤ℤ y → (z +ℤ pos p) ≤ℤ w → (x +ℤ z) <ℤ (y +ℤ w)
    sum u p x y z w some h k = omega (arith, ints)

below_along : (n : Triple) (start end : Positions) → IsBelow n start → IsBelow n end → (p q : ℕ) → 0 < q → p ≤ q → IsBelow n (positions_at p q start end)
below_along n s t h k p q some within = record {
  ac = one s.a s.c t.a t.c h.ac k.ac;
  ad = one s.a s.d t.a t.d h.ad k.ad;
  ae = one s.a s.e t.a t.e h.ae k.ae;
  bc = one s.b s.c t.b t.c h.bc k.bc;
  bd = one s.b s.d t.b t.d h.bd k.bd;
  be = one s.b s.e t.b t.e h.be k.be;
}
  where
    whole : 0 < q - p + p
    whole = omega arith

    one : (s t s' t' : Triple) → dot n s <ℤ dot n t → dot n s' <ℤ dot n t' → dot n (position_at p q s s') <ℤ dot n (position_at p q t t')
    one s t s' t' h k = rw (dot-position_at n p q s s', dot-position_at n p q t t') (mean_strict (q - p) p (dot n s) (dot n t) (dot n s') (dot n t') whole h k)

pub KeepsApart-never_meet : (start end : Positions) (n : Triple) → KeepsApart start end n → NeverMeet start end
KeepsApart-never_meet s t n (inl h) p q some within w = Meets-not_below n (positions_at p q s t) (below_along n s t h.0 h.1 p q some within) w
KeepsApart-never_meet s t n (inr h) p q some within w = Meets-not_below (opposite n) (positions_at p q s t) (below_along (opposite n) s t h.0 h.1 p q some within) w

pub TakesApart-never_meet : (start end : Positions) (n : Triple) → TakesApart start end n → NeverMeetAfterStart start end
TakesApart-never_meet s t n (inl h) p q some within w = Meets-not_below n (positions_at p q s t) (below_after_start n s t h.0 h.1 p q some) w
TakesApart-never_meet s t n (inr h) p q some within w = Meets-not_below (opposite n) (positions_at p q s t) (below_after_start (opposite n) s t h.0 h.1 p q some) w

-- ---- halves
same_parts : (a b c d e a' b' c' d' e' : Triple) → a ≡ a' → b ≡ b' → c ≡ c' → d ≡ d' → e ≡ e' →
    ◌≡◌ {A = Positions} (record { a = a; b = b; c = c; d = d; e = e }) (record { a = a'; b = b'; c = c'; d = d'; e = e' })
same_parts a b c d e a' b' c' d' e' p q r s t = cc

pub same_five : (f g : Positions) → f.a ≡ g.a → f.b ≡ g.b → f.c ≡ g.c → f.d ≡ g.d → f.e ≡ g.e → f ≡ g
same_five f g a b c d e = same_parts f.a f.b f.c f.d f.e g.a g.b g.c g.d g.e a b c d e

-- at p/q of the way, with at most half of it gone, the doubled positions are those at 2p/q of the first half
first_half : (p q : ℕ) (start end : Positions) → p + p ≤ q → double (positions_at p q start end) ≡ positions_at (p + p) q (double start) (middle start end)
first_half p q s t h = same_five _ _ (one s.a t.a) (one s.b t.b) (one s.c t.c) (one s.d t.d) (one s.e t.e)
  where
    number : (u p : ℕ) (x y : ℤ) → pos 2 *ℤ (pos (u + p) *ℤ x +ℤ pos p *ℤ y) ≡ pos u *ℤ (pos 2 *ℤ x) +ℤ pos (p + p) *ℤ (x +ℤ y)
    number u p x y = same_polynomial (pos u ∷ pos p ∷ x ∷ y ∷ [])
        (mul (num (pos 2)) (add (mul (add (var 0) (var 1)) (var 2)) (mul (var 1) (var 3)))) (add (mul (var 0) (mul (num (pos 2)) (var 2))) (mul (add (var 1) (var 1)) (add (var 2) (var 3)))) refl

    one : (a b : Triple) → times 2 (position_at p q a b) ≡ position_at (p + p) q (times 2 a) (plus a b)
    one a b =
        let rest : q - p ≡ q - (p + p) + p = omega arith in
        rw rest (same_triple _ _ (number (q - (p + p)) p a.x b.x) (number (q - (p + p)) p a.y b.y) (number (q - (p + p)) p a.z b.z))

-- with at least half of it gone, they are those at (2p - q)/q of the second half
second_half : (p q : ℕ) (start end : Positions) → p ≤ q → q ≤ p + p → double (positions_at p q start end) ≡ positions_at (p + p - q) q (middle start end) (double end)
second_half p q s t within h = same_five _ _ (one s.a t.a) (one s.b t.b) (one s.c t.c) (one s.d t.d) (one s.e t.e)
  where
    number : (r p g f : ℕ) (x y : ℤ) → p ≡ r + g → f ≡ r + r → pos 2 *ℤ (pos r *ℤ x +ℤ pos p *ℤ y) ≡ pos f *ℤ (x +ℤ y) +ℤ pos g *ℤ (pos 2 *ℤ y)
    number r p g f x y e e' = rw (e, e') (same_polynomial (pos r ∷ pos g ∷ x ∷ y ∷ [])
        (mul (num (pos 2)) (add (mul (var 0) (var 2)) (mul (add (var 0) (var 1)) (var 3)))) (add (mul (add (var 0) (var 0)) (add (var 2) (var 3))) (mul (var 1) (mul (num (pos 2)) (var 3)))) refl)

    one : (a b : Triple) → times 2 (position_at p q a b) ≡ position_at (p + p - q) q (plus a b) (times 2 b)
    one a b =
        let left : q - (p + p - q) ≡ (q - p) + (q - p) = omega arith in
        let gone : p ≡ q - p + (p + p - q) = omega arith in
        same_triple _ _ (number (q - p) p (p + p - q) _ a.x b.x gone left) (number (q - p) p (p + p - q) _ a.y b.y gone left) (number (q - p) p (p + p - q) _ a.z b.z gone left)

halves : {Q : Type 0} (p q : ℕ) → (p + p ≤ q → Q) → (q ≤ p + p → Q) → Q
halves p q f g = ⊎_elim f g (order (p + p) q)
  where
    order : (m n : ℕ) → (m ≤ n) ⊎ (n ≤ m)
    order m n = grind arith

-- from halves to the whole
pub NeverMeet-in_halves : (s t : Positions) → NeverMeet (double s) (middle s t) → NeverMeet (middle s t) (double t) → NeverMeet s t
NeverMeet-in_halves s t first second p q some within w =
    let twice : MeetAt (double (positions_at p q s t)) = Meets-multiple 2 (positions_at p q s t) w in
    halves p q
    (λ h. first (p + p) q some h (subst MeetAt (first_half p q s t h) twice))
    (λ h. second (p + p - q) q some (omega arith) (subst MeetAt (second_half p q s t within h) twice))

pub NeverMeetAfterStart-in_halves : (s t : Positions) → NeverMeetAfterStart (double s) (middle s t) → NeverMeet (middle s t) (double t) → NeverMeetAfterStart s t
NeverMeetAfterStart-in_halves s t first second p q some within w =
    let twice : MeetAt (double (positions_at p q s t)) = Meets-multiple 2 (positions_at p q s t) w in
    halves p q
    (λ h. first (p + p) q (omega arith) h (subst MeetAt (first_half p q s t h) twice))
    (λ h. second (p + p - q) q (omega arith) (omega arith) (subst MeetAt (second_half p q s t within h) twice))

pub NeverMeetBeforeEnd-in_halves : (s t : Positions) → NeverMeet (double s) (middle s t) → NeverMeetBeforeEnd (middle s t) (double t) → NeverMeetBeforeEnd s t
NeverMeetBeforeEnd-in_halves s t first second p q below w =
    let within : p ≤ q = omega arith in
    let twice : MeetAt (double (positions_at p q s t)) = Meets-multiple 2 (positions_at p q s t) w in
    halves p q
    (λ h. first (p + p) q (omega arith) h (subst MeetAt (first_half p q s t h) twice))
    (λ h. second (p + p - q) q (omega arith) (subst MeetAt (second_half p q s t within h) twice))

-- ---- every fraction
Any-never : {P : Triple → Type 0} {Q : Type 0} (xs : List Triple) → ((n : Triple) → P n → Q) → Any P xs → Q
Any-never xs f h = f h.1 h.4

pub AreSeparated-never_meet : (depth : ℕ) (start end : Positions) → AreSeparated depth start end → NeverMeet start end
AreSeparated-never_meet zero s t h = Any-never (directions s t) (KeepsApart-never_meet s t) h
AreSeparated-never_meet (suc depth) s t (inl h) = Any-never (directions s t) (KeepsApart-never_meet s t) h
AreSeparated-never_meet (suc depth) s t (inr h) = NeverMeet-in_halves s t (AreSeparated-never_meet depth (double s) (middle s t) h.0) (AreSeparated-never_meet depth (middle s t) (double t) h.1)

pub Passes-never_meet : (depth : ℕ) (start end : Positions) → Passes depth start end → NeverMeet start end
Passes-never_meet depth s t (inl h) = AreSeparated-never_meet depth s t h
Passes-never_meet depth s t (inr h) = MoveTogether-never_meet s t h.0 h.1

pub Opens-never_meet : (depth : ℕ) (start end : Positions) → Opens depth start end → NeverMeetAfterStart start end
Opens-never_meet zero s t h = Any-never (directions s t) (TakesApart-never_meet s t) h
Opens-never_meet (suc depth) s t (inl h) = Any-never (directions s t) (TakesApart-never_meet s t) h
Opens-never_meet (suc depth) s t (inr h) = NeverMeetAfterStart-in_halves s t (Opens-never_meet depth (double s) (middle s t) h.0) (AreSeparated-never_meet depth (middle s t) (double t) h.1)

-- a fraction of the way there is the rest of the way back
exchanged : (p q : ℕ) (start end : Positions) → p ≤ q → positions_at p q start end ≡ positions_at (q - p) q end start
exchanged p q s t h = same_five _ _ (one s.a t.a) (one s.b t.b) (one s.c t.c) (one s.d t.d) (one s.e t.e)
  where
    swapped : (u p p' : ℕ) (x y : ℤ) → p' ≡ p → pos u *ℤ x +ℤ pos p *ℤ y ≡ pos p' *ℤ y +ℤ pos u *ℤ x
    swapped u p p' x y e = rw e (+ℤ_comm (pos u *ℤ x) (pos p *ℤ y))

    one : (a b : Triple) → position_at p q a b ≡ position_at (q - p) q b a
    one a b =
        let back : q - (q - p) ≡ p = omega arith in
        same_triple _ _ (swapped (q - p) p _ a.x b.x back) (swapped (q - p) p _ a.y b.y back) (swapped (q - p) p _ a.z b.z back)

pub Closes-never_meet : (depth : ℕ) (start end : Positions) → Closes depth start end → NeverMeetBeforeEnd start end
Closes-never_meet depth s t h p q below w =
    Opens-never_meet depth t s h (q - p) q (omega arith) (omega arith) (subst MeetAt (exchanged p q s t (omega arith)) w)

-- ---- motions backwards
pub brought_backwards : (start end : Positions) (n : Triple) → BringsTogether start end n → TakesApart end start n
brought_backwards s t n (inl h) = inl (h.1, h.0)
brought_backwards s t n (inr h) = inr (h.1, h.0)

pub taken_backwards : (start end : Positions) (n : Triple) → TakesApart start end n → BringsTogether end start n
taken_backwards s t n (inl h) = inl (h.1, h.0)
taken_backwards s t n (inr h) = inr (h.1, h.0)

pub BringsTogether-never_meet : (start end : Positions) (n : Triple) → BringsTogether start end n → NeverMeetBeforeEnd start end
BringsTogether-never_meet s t n h p q below w =
    TakesApart-never_meet t s n (brought_backwards s t n h) (q - p) q (omega arith) (omega arith) (subst MeetAt (exchanged p q s t (omega arith)) w)

-- ---- one direction serves at each depth
pub AreSeparated-at_once : (depth : ℕ) (start end : Positions) → Any (KeepsApart start end) (directions start end) → AreSeparated depth start end
AreSeparated-at_once zero s t h = h
AreSeparated-at_once (suc depth) s t h = inl h

pub Opens-at_once : (depth : ℕ) (start end : Positions) → Any (TakesApart start end) (directions start end) → Opens depth start end
Opens-at_once zero s t h = h
Opens-at_once (suc depth) s t h = inl h

-- ---- the ends of a motion
all_start : (s t : Positions) → positions_at 0 1 s t ≡ s
all_start s t = same_five _ _ (one s.a t.a) (one s.b t.b) (one s.c t.c) (one s.d t.d) (one s.e t.e)
  where
    number : (x y : ℤ) → pos 1 *ℤ x +ℤ pos 0 *ℤ y ≡ x
    number x y = same_polynomial (x ∷ y ∷ []) (add (mul (num (pos 1)) (var 0)) (mul (num (pos 0)) (var 1))) (var 0) refl

    one : (a b : Triple) → position_at 0 1 a b ≡ a
    one a b = same_triple _ _ (number a.x b.x) (number a.y b.y) (number a.z b.z)

all_end : (s t : Positions) → positions_at 1 1 s t ≡ t
all_end s t = same_five _ _ (one s.a t.a) (one s.b t.b) (one s.c t.c) (one s.d t.d) (one s.e t.e)
  where
    number : (x y : ℤ) → pos 0 *ℤ x +ℤ pos 1 *ℤ y ≡ y
    number x y = same_polynomial (x ∷ y ∷ []) (add (mul (num (pos 0)) (var 0)) (mul (num (pos 1)) (var 1))) (var 1) refl

    one : (a b : Triple) → position_at 1 1 a b ≡ b
    one a b = same_triple _ _ (number a.x b.x) (number a.y b.y) (number a.z b.z)

pub NeverMeet-at_start : (start end : Positions) → NeverMeet start end → ¬ (MeetAt start)
NeverMeet-at_start s t never w = never 0 1 (omega arith) (omega arith) (subst MeetAt (sym (all_start s t)) w)

pub NeverMeet-at_end : (start end : Positions) → NeverMeet start end → ¬ (MeetAt end)
NeverMeet-at_end s t never w = never 1 1 (omega arith) (omega arith) (subst MeetAt (sym (all_end s t)) w)

pub NeverMeetAfterStart-at_end : (start end : Positions) → NeverMeetAfterStart start end → ¬ (MeetAt end)
NeverMeetAfterStart-at_end s t never w = never 1 1 (omega arith) (omega arith) (subst MeetAt (sym (all_end s t)) w)

pub NeverMeetBeforeEnd-at_start : (start end : Positions) → NeverMeetBeforeEnd start end → ¬ (MeetAt start)
NeverMeetBeforeEnd-at_start s t never w = never 0 1 (omega arith) (subst MeetAt (sym (all_start s t)) w)

-- ---- five positions that stay
MoveTogether-still : (f : Positions) → MoveTogether f f
MoveTogether-still f = record { b = same f.b f.a; c = same f.c f.a; d = same f.d f.a; e = same f.e f.a }
  where
    none : (x y : ℤ) → x -ℤ x ≡ y -ℤ y
    none x y = omega (arith, ints)

    same : (p q : Triple) → minus p p ≡ minus q q
    same p q = same_triple _ _ (none p.x q.x) (none p.y q.y) (none p.z q.z)

pub Passes-still : (depth : ℕ) (f : Positions) → ¬ (MeetAt f) → Passes depth f f
Passes-still depth f apart = inr (MoveTogether-still f, apart)

pub still-Passes : (depth : ℕ) (f : Positions) → Passes depth f f → ¬ (MeetAt f)
still-Passes depth f passes = NeverMeet-at_start f f (Passes-never_meet depth f f passes)
