use Rattle.std.proofs.Common.{◌≡◌, ◌++◌, map, take, drop}
use Rattle.std.specs.List.{filter}
use Rattle.mesh_shape.specs.Balance.{are_vertices}
use Rattle.mesh_shape.specs.ShapeFaults.{unbalanced_fault}
use Rattle.mesh_shape.proofs.balance.put_between.Given as goal

-- the faults so far and those to come are all, as far as they are kept
abbrev pub invariant-loop-side : goal.invariant-loop-side
invariant-loop-side l = take l.most (l.faults.items ++ map unbalanced_fault (filter (are_vertices l.n) (drop l.side-index l.sides))) ≡ take l.most (l.initial.faults.items ++ map unbalanced_fault (filter (are_vertices l.n) l.sides))
