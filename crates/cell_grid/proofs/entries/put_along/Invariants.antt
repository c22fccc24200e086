use Rattle.std.proofs.Common.{ℕ, ◌<◌}
use Rattle.cell_grid.specs.Cells.{nth_cell}
use Rattle.cell_grid.specs.Filed.{held, IsFoundIn, KeepsAll}
use Rattle.cell_grid.proofs.entries.put_along.Given as goal

abbrev pub invariant-loop-n : goal.invariant-loop-n
invariant-loop-n l = record {
  done : (n : ℕ) → n < l.n → IsFoundIn l.k.item l.k.around (held l.cells (nth_cell l.s n));
  keeps : KeepsAll l.fn.cells l.cells;
}
