use Rattle.std.proofs.Common.{◌≡◌, ◌++◌, drop}
use Rattle.mesh_measure.specs.Components.{corners_in}
use Rattle.mesh_measure.proofs.component_faces.corners_in.Given as goal

-- the corners so far and those to come are all
abbrev pub invariant-loop-f : goal.invariant-loop-f
invariant-loop-f g l =
    let m = g.S.Surface.mesh l.mesh in
    l.all.items ++ corners_in m (drop l.f-index l.faces) ≡ corners_in m l.faces
