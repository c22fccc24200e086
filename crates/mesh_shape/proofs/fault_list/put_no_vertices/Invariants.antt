use Rattle.std.proofs.Common.{◌≡◌, ◌+◌, ◌++◌, take, drop}
use Rattle.mesh_shape.specs.ShapeFaults.{no_vertices_from}
use Rattle.mesh_shape.proofs.fault_list.put_no_vertices.Given as goal

-- the faults so far and those to come are all, as far as they are kept
abbrev pub invariant-loop-i : goal.invariant-loop-i
invariant-loop-i l = take l.most (l.faults.items ++ no_vertices_from l.n (l.i + 1) (drop l.i l.faces)) ≡ take l.most (l.initial.faults.items ++ no_vertices_from l.n 1 l.faces)
