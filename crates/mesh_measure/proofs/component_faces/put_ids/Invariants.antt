use Rattle.std.proofs.Common.{◌≡◌, ◌++◌, drop}
use Rattle.mesh_measure.proofs.component_faces.put_ids.Given as goal

-- those put so far and those to come are all
abbrev pub invariant-loop-f : goal.invariant-loop-f
invariant-loop-f l = l.all.items ++ drop l.f-index l.faces ≡ l.fn.all.items ++ l.faces
