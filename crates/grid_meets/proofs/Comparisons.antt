-- What a test of a computed number says of the number that it is.
use Rattle.std.proofs.Common.{◌≡◌, ◌≤◌, unsigned_abs, ℤ, pos, ◌+ℤ◌, ◌-ℤ◌, ◌<ℤ◌, ◌≤ℤ◌, SFits, to_z, of_z, true, false, sym, arith}
use Rattle.std.specs.Prelude.{int_lt, int_le}
use Rattle.std.specs.Int.{w128}
use Rattle.std.proofs.lemmas.Int.{ints, by_lt_z}
use Rattle.grid_base.specs.declared.narrow.TheConstants.{TOTAL_MAX}

pub below_zero : (r v : ℤ) → SFits w128 r → r ≡ v → int_lt (to_z w128 (of_z w128 r)) (pos 0) ≡ true → v <ℤ pos 0
below_zero r v f e t = omega (arith, ints)

pub not_below_zero : (r v : ℤ) → SFits w128 r → r ≡ v → int_lt (to_z w128 (of_z w128 r)) (pos 0) ≡ false → pos 0 ≤ℤ v
not_below_zero r v f e t = omega (arith, ints)

pub above_zero : (r v : ℤ) → SFits w128 r → r ≡ v → int_lt (pos 0) (to_z w128 (of_z w128 r)) ≡ true → pos 0 <ℤ v
above_zero r v f e t = omega (arith, ints)

pub not_above_zero : (r v : ℤ) → SFits w128 r → r ≡ v → int_lt (pos 0) (to_z w128 (of_z w128 r)) ≡ false → v ≤ℤ pos 0
not_above_zero r v f e t = omega (arith, ints)

pub at_most_zero : (r v : ℤ) → SFits w128 r → r ≡ v → int_le (to_z w128 (of_z w128 r)) (pos 0) ≡ true → v ≤ℤ pos 0
at_most_zero r v f e t = omega (arith, ints)

pub tests_at_most_zero : (r v : ℤ) → SFits w128 r → r ≡ v → (pos 0 <ℤ v → ⊥) → int_le (to_z w128 (of_z w128 r)) (pos 0) ≡ true
tests_at_most_zero r v f e never = by_lt_z (pos 0) v (λ above. absurd (never above)) (λ at_most. sym (tested r v f e at_most))
  where
    tested : (r v : ℤ) → SFits w128 r → r ≡ v → v ≤ℤ pos 0 → true ≡ int_le (to_z w128 (of_z w128 r)) (pos 0)
    tested r v f e h = omega (arith, ints)

pub falls_from : (r s v w : ℤ) → SFits w128 r → SFits w128 s → r ≡ v → s ≡ w → int_lt (to_z w128 (of_z w128 r)) (to_z w128 (of_z w128 s)) ≡ true → v <ℤ w
falls_from r s v w f g d e t = omega (arith, ints)

pub falls_to : (r s v w : ℤ) → SFits w128 r → SFits w128 s → r ≡ v → s ≡ w → (v ≡ w → ⊥) → int_lt (to_z w128 (of_z w128 r)) (to_z w128 (of_z w128 s)) ≡ false → w <ℤ v
falls_to r s v w f g d e n t = omega (arith, ints)

pub test_less : (r s v w : ℤ) → SFits w128 r → SFits w128 s → r ≡ v → s ≡ w → int_lt (to_z w128 (of_z w128 r)) (to_z w128 (of_z w128 s)) ≡ true → v <ℤ w
test_less r s v w f g d e t = omega (arith, ints)

pub test_not_less : (r s v w : ℤ) → SFits w128 r → SFits w128 s → r ≡ v → s ≡ w → int_lt (to_z w128 (of_z w128 r)) (to_z w128 (of_z w128 s)) ≡ false → w ≤ℤ v
test_not_less r s v w f g d e t = omega (arith, ints)

pub test_at_most : (r s v w : ℤ) → SFits w128 r → SFits w128 s → r ≡ v → s ≡ w → int_le (to_z w128 (of_z w128 r)) (to_z w128 (of_z w128 s)) ≡ true → v ≤ℤ w
test_at_most r s v w f g d e t = omega (arith, ints)

pub test_not_at_most : (r s v w : ℤ) → SFits w128 r → SFits w128 s → r ≡ v → s ≡ w → int_le (to_z w128 (of_z w128 r)) (to_z w128 (of_z w128 s)) ≡ false → w <ℤ v
test_not_at_most r s v w f g d e t = omega (arith, ints)

pub tests_at_most : (r s v w : ℤ) → SFits w128 r → SFits w128 s → r ≡ v → s ≡ w → (w <ℤ v → ⊥) → int_le (to_z w128 (of_z w128 r)) (to_z w128 (of_z w128 s)) ≡ true
tests_at_most r s v w f g d e never = by_lt_z w v (λ above. absurd (never above)) (λ at_most. sym (tested r s v w f g d e at_most))
  where
    tested : (r s v w : ℤ) → SFits w128 r → SFits w128 s → r ≡ v → s ≡ w → v ≤ℤ w → true ≡ int_le (to_z w128 (of_z w128 r)) (to_z w128 (of_z w128 s))
    tested r s v w f g d e h = omega (arith, ints)

pub at_least_zero : (r v : ℤ) → SFits w128 r → r ≡ v → int_le (pos 0) (to_z w128 (of_z w128 r)) ≡ true → pos 0 ≤ℤ v
at_least_zero r v f e t = omega (arith, ints)

pub tests_at_least_zero : (r v : ℤ) → SFits w128 r → r ≡ v → (v <ℤ pos 0 → ⊥) → int_le (pos 0) (to_z w128 (of_z w128 r)) ≡ true
tests_at_least_zero r v f e never = by_lt_z v (pos 0) (λ below. absurd (never below)) (λ at_least. sym (tested r v f e at_least))
  where
    tested : (r v : ℤ) → SFits w128 r → r ≡ v → pos 0 ≤ℤ v → true ≡ int_le (pos 0) (to_z w128 (of_z w128 r))
    tested r v f e h = omega (arith, ints)

pub exactly_zero : (v : ℤ) → pos 0 ≤ℤ v → v ≤ℤ pos 0 → v ≡ pos 0
exactly_zero v h k = omega (arith, ints)

pub level_below : (v w : ℤ) → v ≤ℤ w → w ≤ℤ v → v <ℤ pos 0 → w <ℤ pos 0
level_below v w h k b = omega (arith, ints)

pub level_above : (v w : ℤ) → v ≤ℤ w → w ≤ℤ v → pos 0 <ℤ v → pos 0 <ℤ w
level_above v w h k b = omega (arith, ints)

pub clash : (v : ℤ) → pos 0 ≤ℤ v → v <ℤ pos 0 → ⊥
clash v h k = omega (arith, ints)

pub sum_at_most : (r s t u v n : ℤ) → unsigned_abs r ≤ TOTAL_MAX → unsigned_abs s ≤ TOTAL_MAX → SFits w128 t → r ≡ u → s ≡ v → t ≡ n →
    int_le (to_z w128 (of_z w128 (to_z w128 (of_z w128 r) +ℤ to_z w128 (of_z w128 s)))) (to_z w128 (of_z w128 t)) ≡ true → pos 0 ≤ℤ (n -ℤ u -ℤ v)
sum_at_most r s t u v n f g k d e h y = omega (arith, ints)

pub tests_sum_at_most : (r s t u v n : ℤ) → unsigned_abs r ≤ TOTAL_MAX → unsigned_abs s ≤ TOTAL_MAX → SFits w128 t → r ≡ u → s ≡ v → t ≡ n →
    pos 0 ≤ℤ (n -ℤ u -ℤ v) → int_le (to_z w128 (of_z w128 (to_z w128 (of_z w128 r) +ℤ to_z w128 (of_z w128 s)))) (to_z w128 (of_z w128 t)) ≡ true
tests_sum_at_most r s t u v n f g k d e h y = sym (tested r s t u v n f g k d e h y)
  where
    tested : (r s t u v n : ℤ) → unsigned_abs r ≤ TOTAL_MAX → unsigned_abs s ≤ TOTAL_MAX → SFits w128 t → r ≡ u → s ≡ v → t ≡ n →
        pos 0 ≤ℤ (n -ℤ u -ℤ v) → true ≡ int_le (to_z w128 (of_z w128 (to_z w128 (of_z w128 r) +ℤ to_z w128 (of_z w128 s)))) (to_z w128 (of_z w128 t))
    tested r s t u v n f g k d e h y = omega (arith, ints)

pub test_some : (r v : ℤ) → SFits w128 r → r ≡ v → int_le (to_z w128 (of_z w128 r)) (pos 0) ≡ false → pos 0 <ℤ v
test_some r v f e t = omega (arith, ints)
