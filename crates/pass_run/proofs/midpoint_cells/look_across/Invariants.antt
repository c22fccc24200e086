use Rattle.std.proofs.Common.{◌+◌}
use Rattle.pass_run.specs.MidpointCells.{HasWanted, IsInLayer, KeepsPlaces}
use Rattle.pass_run.proofs.midpoint_cells.look_across.Given as goal

-- what is wanted of the rows so far is found
abbrev pub invariant-loop-y : goal.invariant-loop-y
invariant-loop-y l = record {
  wanted : HasWanted l.turn l.cells.size (IsInLayer l.x l.low.y l.y l.low.z (l.high.z + 1)) l.found.items;
  keeps : KeepsPlaces l.fn.found.items l.found.items;
}
