use Rattle.std.proofs.Common.{ℕ, ◌<◌, IsTrue}
use Rattle.cell_grid.specs.Cells.{nth_cell}
use Rattle.cell_grid.specs.Filed.{has, finds, held}
use Rattle.cell_grid.proofs.lookup.look_along.Given as goal

abbrev pub invariant-loop-n : goal.invariant-loop-n
invariant-loop-n l = record {
  found : (n : ℕ) (i : ℕ) → n < l.n → IsTrue (finds l.at i (held l.cells (nth_cell l.s n))) → IsTrue (has i l.into.items);
  keeps : (i : ℕ) → IsTrue (has i l.fn.into.items) → IsTrue (has i l.into.items);
}
