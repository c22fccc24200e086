-- A number that is sought among numbers, one after another.
use Rattle.std.proofs.Common.{◌≡◌, ℕ, zero, suc, ◌+◌, ◌<◌, ◌≤◌, Bool, true, false, cond, Some, None, refl, sym, ap, ◌∙◌, ⊎_elim, arith}
use Rattle.std.specs.List.{find, range_with_len}
use Rattle.std.proofs.lemmas.Bool.{cases_eq}

-- it is one of them and passes, and none before it does
pub record IsLeast (test : ℕ → Bool) (from len n : ℕ) : Type 0 where
  pub at_least : from ≤ n
  pub below : n < from + len
  pub passes : test n ≡ true
  pub none_before : (k : ℕ) → from ≤ k → k < n → test k ≡ false

pub found_least : (test : ℕ → Bool) (from len n : ℕ) → find test (range_with_len from len) ≡ Some n → IsLeast test from len n
found_least test from zero n e = cc
found_least test from (suc len) n e = by_test (found_least test (from + 1) len n) (test from) refl e
  where
    by_test : (find test (range_with_len (from + 1) len) ≡ Some n → IsLeast test (from + 1) len n) → (b : Bool) → test from ≡ b → cond b (Some from) (find test (range_with_len (from + 1) len)) ≡ Some n → IsLeast test from (suc len) n
    by_test rest true t e =
        let same : from ≡ n = cc in
        record { at_least = omega (arith, same); below = omega (arith, same); passes = ap test (sym same) ∙ t; none_before = λ k h h'. absurd (omega (arith, same)) }
    by_test rest false t e =
        let later = rest e in
        record {
          at_least = omega (arith, later.at_least);
          below = omega (arith, later.below);
          passes = later.passes;
          none_before = λ k h h'. ⊎_elim (λ is. ap test (sym is) ∙ t) (λ apart. later.none_before k (omega (arith, apart)) h') (cases_eq from k);
        }

pub none_found : (test : ℕ → Bool) (from len : ℕ) → find test (range_with_len from len) ≡ None → (k : ℕ) → from ≤ k → k < from + len → test k ≡ false
none_found test from zero e k h h' = absurd (omega arith)
none_found test from (suc len) e k h h' = by_test (none_found test (from + 1) len) (test from) refl e
  where
    by_test : (find test (range_with_len (from + 1) len) ≡ None → (j : ℕ) → from + 1 ≤ j → j < (from + 1) + len → test j ≡ false) → (b : Bool) → test from ≡ b → cond b (Some from) (find test (range_with_len (from + 1) len)) ≡ None → test k ≡ false
    by_test rest true t e = cc
    by_test rest false t e = ⊎_elim (λ is. ap test (sym is) ∙ t) (λ apart. rest e k (omega (arith, apart)) (omega arith)) (cases_eq from k)
