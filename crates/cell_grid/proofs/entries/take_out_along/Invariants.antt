use Rattle.cell_grid.specs.Filed.{KeepsOthers, KeepsTouched}
use Rattle.cell_grid.proofs.entries.take_out_along.Given as goal

abbrev pub invariant-loop-n : goal.invariant-loop-n
invariant-loop-n l = record {
  others : KeepsOthers l.item l.fn.cells l.cells;
  spared : KeepsTouched l.cell l.but l.fn.cells l.cells;
}
