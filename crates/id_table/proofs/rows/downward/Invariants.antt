use Rattle.std.proofs.Common.{◌≤◌, ◌<◌, length}
use Rattle.id_table.specs.Stones.{AreOver}
use Rattle.id_table.proofs.rows.downward.Given as goal

-- the ids from `high` on are not below the number
abbrev pub invariant-loop-step : goal.invariant-loop-step
invariant-loop-step g l = record {
  inside : l.high ≤ length l.items;
  some : 0 < l.step;
  over : AreOver l.id l.high l.items;
}

abbrev pub decreases-loop-step : goal.decreases-loop-step
decreases-loop-step g l = l.high
