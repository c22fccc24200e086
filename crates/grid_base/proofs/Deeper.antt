-- What is separated, passes, opens or closes to some depth does so to each greater one.
use Rattle.std.proofs.Common.{◌≡◌, ℕ, zero, suc, ◌+◌, ◌-◌, ◌≤◌, Bool, true, ⊎_elim, inl, inr, subst, arith}
use Rattle.std.proofs.lemmas.Bool.{or_cases, or_left, or_right}
use Rattle.grid_base.specs.declared.pair_positions.Positions.{Positions}
use Rattle.grid_base.specs.Separation.{AreSeparated, Passes, Opens, Closes, double, middle}
use Rattle.grid_base.specs.SeparationTests.{are_separated, passes, opens, closes}
use Rattle.grid_base.specs.Deeper.{HoldsDeeper}
use Rattle.grid_base.proofs.Reflected.{separated_of, of_separated, opens_of, of_opens}

-- ---- one more
separated_more : (depth : ℕ) (s t : Positions) → AreSeparated depth s t → AreSeparated (suc depth) s t
separated_more zero s t h = inl h
separated_more (suc depth) s t h = ⊎_elim (λ one. inl one) (λ two. inr (separated_more depth (double s) (middle s t) two.0, separated_more depth (middle s t) (double t) two.1)) h

opens_more : (depth : ℕ) (s t : Positions) → Opens depth s t → Opens (suc depth) s t
opens_more zero s t h = inl h
opens_more (suc depth) s t h = ⊎_elim (λ one. inl one) (λ two. inr (opens_more depth (double s) (middle s t) two.0, separated_more depth (middle s t) (double t) two.1)) h

-- ---- any number more
module _ (P : ℕ → Positions → Positions → Type 0) (one : (depth : ℕ) (s t : Positions) → P depth s t → P (suc depth) s t) where
  some_more : (more depth : ℕ) (s t : Positions) → P depth s t → P (more + depth) s t
  some_more zero depth s t h = let e : depth ≡ 0 + depth = omega arith in subst (λ d. P d s t) e h
  some_more (suc more) depth s t h = let e : suc (more + depth) ≡ suc more + depth = omega arith in subst (λ d. P d s t) e (one (more + depth) s t (some_more more depth s t h))

  deeper_by_more : HoldsDeeper P
  deeper_by_more depth deeper s t most h = let e : deeper - depth + depth ≡ deeper = omega arith in subst (λ d. P d s t) e (some_more (deeper - depth) depth s t h)

pub separated_deeper : HoldsDeeper AreSeparated
separated_deeper = deeper_by_more AreSeparated separated_more

pub opens_deeper : HoldsDeeper Opens
opens_deeper = deeper_by_more Opens opens_more

pub closes_deeper : HoldsDeeper Closes
closes_deeper depth deeper s t most h = opens_deeper depth deeper t s most h

pub passes_deeper : HoldsDeeper Passes
passes_deeper depth deeper s t most h = ⊎_elim (λ one. inl (separated_deeper depth deeper s t most one)) (λ two. inr two) h

-- ---- by the tests
are_separated_deeper : HoldsDeeper (λ depth s t. are_separated depth s t ≡ true)
are_separated_deeper depth deeper s t most h = of_separated deeper s t (separated_deeper depth deeper s t most (separated_of depth s t h))

pub opens_test_deeper : HoldsDeeper (λ depth s t. opens depth s t ≡ true)
opens_test_deeper depth deeper s t most h = of_opens deeper s t (opens_deeper depth deeper s t most (opens_of depth s t h))

pub closes_test_deeper : HoldsDeeper (λ depth s t. closes depth s t ≡ true)
closes_test_deeper depth deeper s t most h = opens_test_deeper depth deeper t s most h

pub passes_test_deeper : (meets : Positions → Bool) → HoldsDeeper (λ depth s t. passes meets depth s t ≡ true)
passes_test_deeper meets depth deeper s t most h = ⊎_elim
    (λ one. or_left _ _ (are_separated_deeper depth deeper s t most one))
    (λ two. or_right (are_separated deeper s t) _ two)
    (or_cases (are_separated depth s t) _ h)
