-- The least number that passes a test, among numbers that are tried one after another.
use Rattle.std.proofs.Common.{◌≡◌, ℕ, zero, suc, ◌<◌, ◌+◌, ◌-◌, ◌==◌, Bool, true, false, cond, Option, Some, ap, sym, ◌∙◌, arith}
use Rattle.std.specs.List.{find, range_with_len}
use Rattle.std.proofs.lemmas.Bool.{eq-eqb, ne_eqb}

row : (test : ℕ → Bool) (k n : ℕ) → k < n → find test (range_with_len (1 + k) (n - k)) ≡ cond (test (k + 1)) (Some (k + 1)) (find test (range_with_len (1 + (k + 1)) (n - (k + 1))))
row test k n h =
    ap (λ r. find test (range_with_len (1 + k) r)) left
    ∙ ap (λ j. cond (test j) (Some j) (find test (range_with_len (j + 1) (n - (k + 1))))) one_more
    ∙ ap (λ j. cond (test (k + 1)) (Some (k + 1)) (find test (range_with_len j (n - (k + 1))))) two_more
  where
    left : n - k ≡ suc (n - (k + 1))
    left = omega arith

    one_more : 1 + k ≡ k + 1
    one_more = omega arith

    two_more : k + 1 + 1 ≡ 1 + (k + 1)
    two_more = omega arith

-- the number that was tried does not pass
pub later : (test : ℕ → Bool) (k n : ℕ) (all : Option ℕ) → k < n → test (k + 1) ≡ false → find test (range_with_len (1 + k) (n - k)) ≡ all → find test (range_with_len (1 + (k + 1)) (n - (k + 1))) ≡ all
later test k n all h off e = sym (ap (λ b. cond b (Some (k + 1)) (find test (range_with_len (1 + (k + 1)) (n - (k + 1))))) off) ∙ sym (row test k n h) ∙ e

-- it passes
pub here : (test : ℕ → Bool) (k n : ℕ) (all : Option ℕ) → k < n → test (k + 1) ≡ true → find test (range_with_len (1 + k) (n - k)) ≡ all → all ≡ Some (k + 1)
here test k n all h on e = sym e ∙ row test k n h ∙ ap (λ b. cond b (Some (k + 1)) (find test (range_with_len (1 + (k + 1)) (n - (k + 1))))) on

-- a number that is zero, or not
pub none_is : (n : ℕ) → n ≡ 0 → (n == 0) ≡ true
none_is n e = eq-eqb n 0 e

pub some_is : (k n : ℕ) → k ≡ n → (k ≡ 0 → ⊥) → (n == 0) ≡ false
some_is k n e h = ne_eqb n 0 (λ z. h (e ∙ z))
