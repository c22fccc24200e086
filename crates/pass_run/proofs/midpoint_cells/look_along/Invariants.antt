use Rattle.pass_run.specs.MidpointCells.{HasWanted, IsInRow, KeepsPlaces}
use Rattle.pass_run.proofs.midpoint_cells.look_along.Given as goal

-- what is wanted of the cells so far is found
abbrev pub invariant-loop-z : goal.invariant-loop-z
invariant-loop-z l = record {
  wanted : HasWanted l.turn l.cells.size (IsInRow l.x l.y l.initial.z l.z) l.found.items;
  keeps : KeepsPlaces l.fn.found.items l.found.items;
}
