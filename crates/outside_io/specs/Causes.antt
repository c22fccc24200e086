-- When an answer may be given.
use Rattle.std.specs.Prelude.{ℕ, ◌+◌, ◌-◌, ◌^◌, ◌≤◌, min, Result, OnErr}

-- the count after one more, which stands still at its end
abbrev pub next_count : ℕ → ℕ
next_count count = min (count + 1) (2 ^ 64 - 1)

-- the count has risen, or stands at its end
abbrev pub Rose : ℕ → ℕ → Type 0
Rose before now = next_count before ≤ now

-- The count has not fallen, and at an error it rose.
pub record HasCause {T E : Type 0} (before now : ℕ) (result : Result T E) : Type 0 where
  pub later : before ≤ now
  pub failed : OnErr result (Rose before now)
