-- How often a desk has failed that refuses some files itself.
use Rattle.std.specs.Prelude.{ℕ, ◌+◌, ◌-◌, ◌^◌, min}

-- the faults of the other desk and the files that were refused; the count stands still at its end
abbrev pub faults_with : ℕ → ℕ → ℕ
faults_with faults refused = min (faults + refused) (2 ^ 64 - 1)
