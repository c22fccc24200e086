-- Tests that are joined by "and" and "or", and tests of equality.
use Rattle.std.proofs.Common.{◌≡◌, ℕ, ◌==◌, Bool, true, false, ◌&&◌, ◌||◌, ◌⊎◌, inl, inr, refl, ◌≢◌, sym, arith}
use Rattle.std.specs.Ordering.{is_eq, ordering_then}
use Rattle.std.specs.declared.cmp.Ordering.{Ordering}
use Rattle.std.specs.declared.cmp.Ordering.TheVariants.{Less, Equal, Greater}
use Rattle.std.proofs.lemmas.Bool.{false≢true}
use Rattle.std.proofs.lemmas.Bool.Decides.{nat_tests}

pub and_first : (a b : Bool) → (a && b) ≡ true → a ≡ true
and_first true b e = refl
and_first false b e = e

pub and_second : (a b : Bool) → (a && b) ≡ true → b ≡ true
and_second true b e = e
and_second false b e = absurd (false≢true e)

pub and_both : (a b : Bool) → a ≡ true → b ≡ true → (a && b) ≡ true
and_both true b h h' = h'
and_both false b h h' = absurd (false≢true h)

pub or_first : (a b : Bool) → a ≡ true → (a || b) ≡ true
or_first true b h = refl
or_first false b h = absurd (false≢true h)

pub or_second : (a b : Bool) → b ≡ true → (a || b) ≡ true
or_second true b h = refl
or_second false b h = h

pub or_either : (a b : Bool) → (a || b) ≡ true → (a ≡ true) ⊎ (b ≡ true)
or_either true b e = inl refl
or_either false b e = inr e

-- two tests, each of which is true where the other is, are one
pub both_ways : (a b : Bool) → (a ≡ true → b ≡ true) → (b ≡ true → a ≡ true) → a ≡ b
both_ways true b to from = sym (to refl)
both_ways false true to from = from refl
both_ways false false to from = refl

pub not_both : {b : Bool} → b ≡ true → b ≡ false → ⊥
not_both h h' = cc

-- ---- tests of equality
pub test_either_way : (a b : ℕ) → (a == b) ≡ (b == a)
test_either_way a b = grind (arith, nat_tests)

pub untied : (a b : ℕ) → a ≢ b → (a == b) ≡ false
untied a b apart = grind (arith, nat_tests)

pub turned_test : (a b : ℕ) → (a == b) ≡ false → (b == a) ≡ false
turned_test a b h = grind (arith, nat_tests)

pub tied_then : (o p : Ordering) → is_eq (ordering_then o p) ≡ (is_eq o && is_eq p)
tied_then Less p = refl
tied_then Equal p = refl
tied_then Greater p = refl
