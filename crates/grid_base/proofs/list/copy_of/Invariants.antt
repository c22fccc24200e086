use Rattle.std.proofs.Common.{◌≡◌, ◌++◌, drop}
use Rattle.grid_base.proofs.list.copy_of.Given as goal

-- the items so far and those to come are all
abbrev pub invariant-loop-x : goal.invariant-loop-x
invariant-loop-x g l = l.copy ++ drop l.x-index l.items ≡ l.items
