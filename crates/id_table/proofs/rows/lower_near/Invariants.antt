use Rattle.std.proofs.Common.{◌≡◌, ℕ, ◌-◌, ◌<◌, ◌≤◌, Some, length, slice_get}
use Rattle.id_table.specs.declared.rows.Item.{Item}
use Rattle.id_table.proofs.rows.lower_near.Given as goal

-- the ids before `low` are below the number, and those from `high` on are not
abbrev pub invariant-loop-low : goal.invariant-loop-low
invariant-loop-low g l = record {
  order : l.low ≤ l.high;
  inside : l.high ≤ length l.items;
  below : (k : ℕ) (e : Item g.row.T.Denot) → slice_get l.items k ≡ Some e → k < l.low → e.id < l.id;
  over : (k : ℕ) (e : Item g.row.T.Denot) → slice_get l.items k ≡ Some e → l.high ≤ k → l.id ≤ e.id;
}

abbrev pub decreases-loop-low : goal.decreases-loop-low
decreases-loop-low g l = l.high - l.low
