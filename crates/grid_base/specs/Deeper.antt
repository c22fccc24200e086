-- What more depth leaves as it is.
use Rattle.std.specs.Prelude.{ℕ, ◌≤◌, Bool, IsTrue}
use Rattle.grid_base.specs.declared.pair_positions.Positions.{Positions}

-- what holds of a pair to some depth holds of it to each greater one
abbrev pub HoldsDeeper : (ℕ → Positions → Positions → Type 0) → Type 0
HoldsDeeper P = (depth deeper : ℕ) (s t : Positions) → depth ≤ deeper → P depth s t → P deeper s t

-- a test that is true of a pair to some depth is true of it to each greater one
abbrev pub IsTrueDeeper : (ℕ → Positions → Positions → Bool) → Type 0
IsTrueDeeper test = HoldsDeeper (λ depth s t. IsTrue (test depth s t))
