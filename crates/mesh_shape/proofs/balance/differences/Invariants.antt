use Rattle.std.proofs.Common.{◌≡◌, ℕ, ◌≤◌, ◌+◌, ◌-◌, ◌||◌, length, drop}
use Rattle.mesh_base.specs.SideList.{has_side}
use Rattle.mesh_shape.specs.Balance.{differs}
use Rattle.mesh_shape.proofs.balance.differences.Given as goal

-- what was found, and what is to come differs in, is what the lists differ in
abbrev pub invariant-loop-i : goal.invariant-loop-i
invariant-loop-i l = record {
  in_one : l.i ≤ length l.one;
  in_other : l.j ≤ length l.other;
  same : (u v : ℕ) → (has_side l.list.items u v || differs (drop l.i l.one) (drop l.j l.other) u v) ≡ differs l.one l.other u v;
}

-- what is left of both becomes less
abbrev pub decreases-loop-i : goal.decreases-loop-i
decreases-loop-i l = (length l.one + length l.other) - (l.i + l.j)
