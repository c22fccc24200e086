use Rattle.std.proofs.Common.{◌≡◌, take}
use Rattle.std.specs.List.{flat_map}
use Rattle.mesh_base.specs.Sides.{faces_at}
use Rattle.mesh_measure.proofs.component_faces.faces_around.Given as goal

-- the faces at the vertices so far
abbrev pub invariant-loop-v : goal.invariant-loop-v
invariant-loop-v g l = l.all.items ≡ flat_map (faces_at (g.S.Surface.mesh l.mesh)) (take l.v-index l.vertices)
