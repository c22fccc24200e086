use Rattle.std.proofs.Common.{◌≡◌, ◌++◌, drop}
use Rattle.cell_grid.specs.Filed.{found_in}
use Rattle.cell_grid.proofs.lookup.look_in.Given as goal

abbrev pub invariant-loop-k : goal.invariant-loop-k
invariant-loop-k l = l.into.items ++ found_in l.at (drop l.k-index l.list) ≡ l.fn.into.items ++ found_in l.at l.list
