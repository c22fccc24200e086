use Rattle.pass_run.specs.MidpointCells.{HasWanted, IsInBlock, KeepsPlaces}
use Rattle.pass_run.proofs.midpoint_cells.look_between.Given as goal

-- what is wanted of the layers so far is found
abbrev pub invariant-loop-x : goal.invariant-loop-x
invariant-loop-x l = record {
  wanted : HasWanted l.turn l.cells.size (IsInBlock l.low.x l.x l.low l.high) l.found.items;
  keeps : KeepsPlaces l.fn.found.items l.found.items;
}
