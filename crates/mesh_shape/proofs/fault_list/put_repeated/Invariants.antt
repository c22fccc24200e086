use Rattle.std.proofs.Common.{◌≡◌, ◌+◌, ◌++◌, take, drop}
use Rattle.mesh_shape.specs.ShapeFaults.{all_repeated_from}
use Rattle.mesh_shape.proofs.fault_list.put_repeated.Given as goal

-- the faults so far and those to come are all, as far as they are kept
abbrev pub invariant-loop-i : goal.invariant-loop-i
invariant-loop-i l = take l.most (l.faults.items ++ all_repeated_from (l.i + 1) (drop l.i l.faces)) ≡ take l.most (l.initial.faults.items ++ all_repeated_from 1 l.faces)
