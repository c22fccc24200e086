use Rattle.std.proofs.Common.{◌↔◌, ◌+◌, ◌≤◌, drop}
use Rattle.grid_base.specs.declared.TheConstants.{ID_MAX}
use Rattle.mesh_ids.specs.NewIds.{AreRisingBelow}
use Rattle.log_run.proofs.new_ids.are_rising.Given as goal

-- all are rising where those to come are
abbrev pub invariant-loop-id : goal.invariant-loop-id
invariant-loop-id l =
    (AreRisingBelow l.next l.low (drop l.id-index l.ids) ↔ AreRisingBelow l.next 1 l.ids)
    × (l.low ≤ ID_MAX + 2)
