use Rattle.cell_grid.specs.Filed.{KeepsOthers}
use Rattle.cell_grid.proofs.entries.take_out_all.Given as goal

abbrev pub invariant-loop-n : goal.invariant-loop-n
invariant-loop-n l = KeepsOthers l.item l.fn.cells l.cells
