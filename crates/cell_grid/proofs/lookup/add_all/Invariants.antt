use Rattle.std.proofs.Common.{◌≡◌, ◌++◌, drop}
use Rattle.cell_grid.proofs.lookup.add_all.Given as goal

abbrev pub invariant-loop-i : goal.invariant-loop-i
invariant-loop-i l = l.into.items ++ drop l.i-index l.list ≡ l.fn.into.items ++ l.list
