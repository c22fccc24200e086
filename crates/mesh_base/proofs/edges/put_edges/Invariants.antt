use Rattle.std.proofs.Common.{◌≡◌, ◌++◌, map, take}
use Rattle.mesh_base.proofs.edges.put_edges.Given as goal

-- the list has what it had, and the edges to the others so far
abbrev pub invariant-loop-w : goal.invariant-loop-w
invariant-loop-w l = l.found.items ≡ l.initial.found.items ++ map (λ w. (l.v, w)) (take l.w-index l.others)
