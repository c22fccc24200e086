-- A coordinate that is read is what it was.
use Rattle.std.proofs.Common.{ℕ, ◌≤◌, ℤ, ◌-ℤ◌, unsigned_abs, to_z, of_z, subst, sym, arith}
use Rattle.std.specs.Int.{w128}
use Rattle.grid_base.specs.declared.TheConstants.{HALF_MAX}
use Rattle.grid_base.proofs.ExtentReading.{exact}

pub again : (a q : ℤ) (reach : ℕ) → unsigned_abs a ≤ HALF_MAX → unsigned_abs (a -ℤ q) ≤ reach → unsigned_abs (to_z w128 (of_z w128 a) -ℤ q) ≤ reach
again a q reach h close = subst (λ z. unsigned_abs (z -ℤ q) ≤ reach) (sym (exact a (omega arith))) close
