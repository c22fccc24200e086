-- Equations of polynomials over ℤ, proved by computing: both sides are written as terms, and their difference comes to no monomial.
use Rattle.std.proofs.Common.{◌≡◌, ℕ, zero, suc, ◌*◌, Bool, true, false, cond, eqb, ltb, List, [], ◌∷◌, ℤ, pos, negsuc, ◌+ℤ◌, ◌-ℤ◌, ◌*ℤ◌, neg_ℤ, refl, sym, ap, ◌∙◌, arith}
use Rattle.std.proofs.lemmas.Int.{ints}
use Rattle.std.proofs.Math.IntN.{*ℤ_comm, +ℤ_assoc, +ℤ_idl, +ℤ_idr, +ℤ_invr, *ℤ-zero, zero-*ℤ}
use borrow.Author.Differences.{up, down, same_in, product_is, sum_is_lem, neg_is}
use Rattle.std.proofs.lemmas.Bool.Decides.{nat_tests}

-- ---- laws of a commutative ring
pub *ℤ-assoc : (a b c : ℤ) → (a *ℤ b) *ℤ c ≡ a *ℤ (b *ℤ c)
*ℤ-assoc a b c =
    let left = rw ((product_is a b).0, (product_is a b).1) at (product_is (a *ℤ b) c) in
    let right = rw ((product_is b c).0, (product_is b c).1) at (product_is a (b *ℤ c)) in
    same_in ((a *ℤ b) *ℤ c) (a *ℤ (b *ℤ c)) (omega (arith, left, right))

pub *ℤ-add : (a b c : ℤ) → a *ℤ (b +ℤ c) ≡ a *ℤ b +ℤ a *ℤ c
*ℤ-add a b c =
    let sum = sum_is_lem b c in
    same_in (a *ℤ (b +ℤ c)) (a *ℤ b +ℤ a *ℤ c) (omega (arith, ap (λ x. up a * x) sum, ap (λ x. down a * x) sum, product_is a (b +ℤ c), product_is a b, product_is a c, sum_is_lem (a *ℤ b) (a *ℤ c)))

pub add-*ℤ : (a b c : ℤ) → (a +ℤ b) *ℤ c ≡ a *ℤ c +ℤ b *ℤ c
add-*ℤ a b c = rw (*ℤ_comm (a +ℤ b) c, *ℤ_comm a c, *ℤ_comm b c) (*ℤ-add c a b)

pub *ℤ-sub : (a b c : ℤ) → a *ℤ (b -ℤ c) ≡ a *ℤ b -ℤ a *ℤ c
*ℤ-sub a b c = *ℤ-add a b (neg_ℤ c) ∙ ap (λ x. a *ℤ b +ℤ x) (*ℤ-neg a c)
  where
    *ℤ-neg : (a b : ℤ) → a *ℤ neg_ℤ b ≡ neg_ℤ (a *ℤ b)
    *ℤ-neg a b = same_in (a *ℤ neg_ℤ b) (neg_ℤ (a *ℤ b)) (let e = rw ((neg_is b).0, (neg_is b).1) at (product_is a (neg_ℤ b)) in omega (arith, e, neg_is (a *ℤ b), product_is a b))

-- ---- terms
pub data Term : Type 0 where
  var : ℕ → Term
  num : ℤ → Term
  add : Term → Term → Term
  sub : Term → Term → Term
  mul : Term → Term → Term

-- the number at a place
abbrev pub at : List ℤ → ℕ → ℤ
at [] i = pos 0
at (x ∷ xs) zero = x
at (x ∷ xs) (suc i) = at xs i

-- what a term means
abbrev pub value : List ℤ → Term → ℤ
value xs (var i) = at xs i
value xs (num n) = n
value xs (add s t) = value xs s +ℤ value xs t
value xs (sub s t) = value xs s -ℤ value xs t
value xs (mul s t) = value xs s *ℤ value xs t

-- a monomial: the places of its factors, in rising order
-- a sum: monomials with their coefficients
abbrev pub product_of : List ℤ → List ℕ → ℤ
product_of xs [] = pos 1
product_of xs (i ∷ m) = at xs i *ℤ product_of xs m

pub record Part : Type 0 where
  pub by : ℤ
  pub of : List ℕ

abbrev pub sum_of : List ℤ → List Part → ℤ
sum_of xs [] = pos 0
sum_of xs (p ∷ ps) = p.by *ℤ product_of xs p.of +ℤ sum_of xs ps

-- ---- a factor more
abbrev pub with_factor : ℕ → List ℕ → List ℕ
with_factor i [] = i ∷ []
with_factor i (j ∷ m) = cond (ltb j i) (j ∷ with_factor i m) (i ∷ j ∷ m)

swap_factors : (a b c : ℤ) → b *ℤ (a *ℤ c) ≡ a *ℤ (b *ℤ c)
swap_factors a b c = sym (*ℤ-assoc b a c) ∙ ap (λ x. x *ℤ c) (*ℤ_comm b a) ∙ *ℤ-assoc a b c

product-with_factor : (xs : List ℤ) (i : ℕ) (m : List ℕ) → product_of xs (with_factor i m) ≡ at xs i *ℤ product_of xs m
product-with_factor xs i [] = refl
product-with_factor xs i (j ∷ m) =
    elim (ltb j i) as (λ (t : Bool). product_of xs (cond t (j ∷ with_factor i m) (i ∷ j ∷ m)) ≡ at xs i *ℤ (at xs j *ℤ product_of xs m)) [
      | true ↦ ap (λ x. at xs j *ℤ x) (product-with_factor xs i m) ∙ swap_factors (at xs i) (at xs j) (product_of xs m)
      | false ↦ refl
    ]

abbrev pub with_factors : List ℕ → List ℕ → List ℕ
with_factors [] m = m
with_factors (i ∷ l) m = with_factor i (with_factors l m)

product-with_factors : (xs : List ℤ) (l m : List ℕ) → product_of xs (with_factors l m) ≡ product_of xs l *ℤ product_of xs m
product-with_factors xs [] m = omega (arith, ints)
product-with_factors xs (i ∷ l) m =
    product-with_factor xs i (with_factors l m) ∙ ap (λ x. at xs i *ℤ x) (product-with_factors xs l m) ∙ sym (*ℤ-assoc (at xs i) (product_of xs l) (product_of xs m))

-- ---- a part more
pub data Place : Type 0 where
  before : Place
  same : Place
  after : Place

abbrev pub place_of : List ℕ → List ℕ → Place
place_of [] [] = same
place_of [] (j ∷ m) = before
place_of (i ∷ l) [] = after
place_of (i ∷ l) (j ∷ m) = cond (ltb i j) before (cond (ltb j i) after (place_of l m))

place-same : (xs : List ℤ) (l m : List ℕ) → place_of l m ≡ same → product_of xs l ≡ product_of xs m
place-same xs [] [] e = refl
place-same xs [] (j ∷ m) e = absurd cc
place-same xs (i ∷ l) [] e = absurd cc
place-same xs (i ∷ l) (j ∷ m) e = heads (place-same xs l m) (ltb i j) (ltb j i) refl refl e
  where
    heads : (place_of l m ≡ same → product_of xs l ≡ product_of xs m) → (s t : Bool) → ltb i j ≡ s → ltb j i ≡ t → cond s before (cond t after (place_of l m)) ≡ same → at xs i *ℤ product_of xs l ≡ at xs j *ℤ product_of xs m
    heads tails true t p q r = absurd cc
    heads tails false true p q r = absurd cc
    heads tails false false p q r =
        let same_position : i ≡ j = grind (arith, nat_tests) in
        let rest = tails r in
        rw (same_position, rest) refl

abbrev pub with_part : ℤ → List ℕ → List Part → List Part
with_part n l [] = record { by = n; of = l } ∷ []
with_part n l (p ∷ ps) = elim (place_of l p.of) [
  | before ↦ record { by = n; of = l } ∷ p ∷ ps
  | same ↦ record { by = n +ℤ p.by; of = p.of } ∷ ps
  | after ↦ p ∷ with_part n l ps
]

joined : (m n x s : ℤ) → (m +ℤ n) *ℤ x +ℤ s ≡ m *ℤ x +ℤ (n *ℤ x +ℤ s)
joined m n x s = rw (add-*ℤ m n x) (+ℤ_assoc (m *ℤ x) (n *ℤ x) s)

passed : (p q s : ℤ) → p +ℤ (q +ℤ s) ≡ q +ℤ (p +ℤ s)
passed p q s = omega (arith, ints)

sum-with_part : (xs : List ℤ) (n : ℤ) (l : List ℕ) (ps : List Part) → sum_of xs (with_part n l ps) ≡ n *ℤ product_of xs l +ℤ sum_of xs ps
sum-with_part xs n l [] = refl
sum-with_part xs n l (p ∷ ps) = by_place (sum-with_part xs n l ps) (place_of l p.of) refl
  where
    by_place : sum_of xs (with_part n l ps) ≡ n *ℤ product_of xs l +ℤ sum_of xs ps → (q : Place) → place_of l p.of ≡ q →
        sum_of xs (elim q [ before ↦ record { by = n; of = l } ∷ p ∷ ps | same ↦ record { by = n +ℤ p.by; of = p.of } ∷ ps | after ↦ p ∷ with_part n l ps ])
        ≡ n *ℤ product_of xs l +ℤ (p.by *ℤ product_of xs p.of +ℤ sum_of xs ps)
    by_place rest before e = refl
    by_place rest same e = rw (place-same xs l p.of e) (joined n p.by (product_of xs p.of) (sum_of xs ps))
    by_place rest after e = rw rest (passed (p.by *ℤ product_of xs p.of) (n *ℤ product_of xs l) (sum_of xs ps))

-- ---- sums and products of sums
abbrev pub with_scaled : ℤ → List ℕ → List Part → List Part → List Part
with_scaled n l [] qs = qs
with_scaled n l (p ∷ ps) qs = with_part (n *ℤ p.by) (with_factors l p.of) (with_scaled n l ps qs)

scale_step : (n a l m s r : ℤ) → (n *ℤ a) *ℤ (l *ℤ m) +ℤ (n *ℤ l *ℤ s +ℤ r) ≡ n *ℤ l *ℤ (a *ℤ m +ℤ s) +ℤ r
scale_step n a l m s r =
    ap (λ x. x +ℤ (n *ℤ l *ℤ s +ℤ r)) (four n a l m) ∙ sym (+ℤ_assoc (n *ℤ l *ℤ (a *ℤ m)) (n *ℤ l *ℤ s) r) ∙ ap (λ x. x +ℤ r) (sym (*ℤ-add (n *ℤ l) (a *ℤ m) s))
  where
    four : (n a l m : ℤ) → (n *ℤ a) *ℤ (l *ℤ m) ≡ n *ℤ l *ℤ (a *ℤ m)
    four n a l m = *ℤ-assoc n a (l *ℤ m) ∙ ap (λ x. n *ℤ x) (swap_factors l a m) ∙ sym (*ℤ-assoc n l (a *ℤ m))

sum-with_scaled : (xs : List ℤ) (n : ℤ) (l : List ℕ) (ps qs : List Part) → sum_of xs (with_scaled n l ps qs) ≡ n *ℤ product_of xs l *ℤ sum_of xs ps +ℤ sum_of xs qs
sum-with_scaled xs n l [] qs = rw (*ℤ-zero (n *ℤ product_of xs l)) (sym (+ℤ_idl (sum_of xs qs)))
sum-with_scaled xs n l (p ∷ ps) qs =
    sum-with_part xs (n *ℤ p.by) (with_factors l p.of) (with_scaled n l ps qs)
    ∙ rw (product-with_factors xs l p.of, sum-with_scaled xs n l ps qs) (scale_step n p.by (product_of xs l) (product_of xs p.of) (sum_of xs ps) (sum_of xs qs))

abbrev pub with_product : List Part → List Part → List Part → List Part
with_product [] qs rs = rs
with_product (p ∷ ps) qs rs = with_scaled p.by p.of qs (with_product ps qs rs)

sum-with_product : (xs : List ℤ) (ps qs rs : List Part) → sum_of xs (with_product ps qs rs) ≡ sum_of xs ps *ℤ sum_of xs qs +ℤ sum_of xs rs
sum-with_product xs [] qs rs = rw (zero-*ℤ (sum_of xs qs)) (sym (+ℤ_idl (sum_of xs rs)))
sum-with_product xs (p ∷ ps) qs rs =
    sum-with_scaled xs p.by p.of qs (with_product ps qs rs)
    ∙ rw (sum-with_product xs ps qs rs, add-*ℤ (p.by *ℤ product_of xs p.of) (sum_of xs ps) (sum_of xs qs)) (sym (+ℤ_assoc (p.by *ℤ product_of xs p.of *ℤ sum_of xs qs) (sum_of xs ps *ℤ sum_of xs qs) (sum_of xs rs)))

-- ---- a term as a sum of monomials
abbrev pub normal : Term → List Part
normal (var i) = record { by = pos 1; of = i ∷ [] } ∷ []
normal (num n) = record { by = n; of = [] } ∷ []
normal (add s t) = with_scaled (pos 1) [] (normal s) (normal t)
normal (sub s t) = with_scaled (negsuc 0) [] (normal t) (normal s)
normal (mul s t) = with_product (normal s) (normal t) []

sum-normal : (xs : List ℤ) (t : Term) → sum_of xs (normal t) ≡ value xs t
sum-normal xs (var i) = one_of (at xs i)
  where
    one_of : (x : ℤ) → pos 1 *ℤ (x *ℤ pos 1) +ℤ pos 0 ≡ x
    one_of x = rw (*ℤ_comm x (pos 1)) (omega (arith, ints))
sum-normal xs (num n) = same_in (n *ℤ pos 1 +ℤ pos 0) n (omega (arith, ints))
sum-normal xs (add s t) = sum-with_scaled xs (pos 1) [] (normal s) (normal t) ∙ rw (sum-normal xs s, sum-normal xs t) (plain (value xs s) (value xs t))
  where
    plain : (a b : ℤ) → pos 1 *ℤ a +ℤ b ≡ a +ℤ b
    plain a b = omega (arith, ints)
sum-normal xs (sub s t) = sum-with_scaled xs (negsuc 0) [] (normal t) (normal s) ∙ rw (sum-normal xs s, sum-normal xs t) (plain (value xs s) (value xs t))
  where
    plain : (a b : ℤ) → negsuc 0 *ℤ b +ℤ a ≡ a -ℤ b
    plain a b = omega (arith, ints)
sum-normal xs (mul s t) = sum-with_product xs (normal s) (normal t) [] ∙ rw (sum-normal xs s, sum-normal xs t) (+ℤ_idr (value xs s *ℤ value xs t))

-- ---- the test
abbrev pub is_zero : ℤ → Bool
is_zero (pos n) = eqb n 0
is_zero (negsuc n) = false

zero-is_zero : (n : ℤ) → is_zero n ≡ true → n ≡ pos 0
zero-is_zero (pos n) e = ap pos (grind (arith, nat_tests))
zero-is_zero (negsuc n) e = absurd cc

abbrev pub all_zero : List Part → Bool
all_zero [] = true
all_zero (p ∷ ps) = cond (is_zero p.by) (all_zero ps) false

sum-all_zero : (xs : List ℤ) (ps : List Part) → all_zero ps ≡ true → sum_of xs ps ≡ pos 0
sum-all_zero xs [] e = refl
sum-all_zero xs (p ∷ ps) e = by_test (sum-all_zero xs ps) (is_zero p.by) refl e
  where
    by_test : (all_zero ps ≡ true → sum_of xs ps ≡ pos 0) → (b : Bool) → is_zero p.by ≡ b → cond b (all_zero ps) false ≡ true → p.by *ℤ product_of xs p.of +ℤ sum_of xs ps ≡ pos 0
    by_test rest true z e = rw (zero-is_zero p.by z, rest e, zero-*ℤ (product_of xs p.of)) refl
    by_test rest false z e = absurd cc

-- two terms whose difference has no monomial left are equal everywhere
pub same_polynomial : (xs : List ℤ) (s t : Term) → all_zero (normal (sub s t)) ≡ true → value xs s ≡ value xs t
same_polynomial xs s t e =
    let none : value xs s -ℤ value xs t ≡ pos 0 = sym (sum-normal xs (sub s t)) ∙ sum-all_zero xs (normal (sub s t)) e in
    apart (value xs s) (value xs t) none
  where
    apart : (a b : ℤ) → a -ℤ b ≡ pos 0 → a ≡ b
    apart a b h = omega (arith, ints)

-- ---- equations that follow from equations
-- a known equation, and the factor by which it counts
pub record Known : Type 0 where
  pub factor : Term
  pub left : Term
  pub right : Term

abbrev pub AllHold : List ℤ → List Known → Type 0
AllHold xs [] = Unit {0}
AllHold xs (k ∷ ks) = (value xs k.left ≡ value xs k.right) × AllHold xs ks

abbrev pub combined : List Known → Term
combined [] = num (pos 0)
combined (k ∷ ks) = add (mul k.factor (sub k.left k.right)) (combined ks)

value-combined : (xs : List ℤ) (ks : List Known) → AllHold xs ks → value xs (combined ks) ≡ pos 0
value-combined xs [] h = refl
value-combined xs (k ∷ ks) h =
    rw (h.0, value-combined xs ks h.1) (none (value xs k.factor) (value xs k.right))
  where
    none : (f r : ℤ) → f *ℤ (r -ℤ r) +ℤ pos 0 ≡ pos 0
    none f r = rw (+ℤ_invr r, *ℤ-zero f) refl

-- two terms are equal where their difference is the sum of the known equations, each times its factor
pub same_by_known : (xs : List ℤ) (ks : List Known) (s t : Term) → AllHold xs ks → all_zero (normal (sub (sub s t) (combined ks))) ≡ true → value xs s ≡ value xs t
same_by_known xs ks s t h e =
    let difference : value xs s -ℤ value xs t ≡ pos 0 = same_polynomial xs (sub s t) (combined ks) e ∙ value-combined xs ks h in
    apart (value xs s) (value xs t) difference
  where
    apart : (a b : ℤ) → a -ℤ b ≡ pos 0 → a ≡ b
    apart a b h = omega (arith, ints)
