use Rattle.std.proofs.Common.{◌-◌, ◌+◌, ◌<◌, length}
use Rattle.id_table.specs.Stones.{AreBelow}
use Rattle.id_table.proofs.rows.upward.Given as goal

-- the ids up to `low` are below the number
abbrev pub invariant-loop-step : goal.invariant-loop-step
invariant-loop-step g l = record {
  inside : l.low < length l.items;
  some : 0 < l.step;
  below : AreBelow l.id (l.low + 1) l.items;
}

abbrev pub decreases-loop-step : goal.decreases-loop-step
decreases-loop-step g l = length l.items - l.low
