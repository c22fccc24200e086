use Rattle.std.proofs.Common.{◌≡◌, ◌++◌, length}
use Rattle.std.specs.FinMap as map
use Rattle.mesh_base.specs.Sides.{above}
use Rattle.mesh_base.proofs.walk.live_faces_above.Given as goal

-- the faces found and those above the last are all that are asked for
abbrev pub invariant-loop-f : goal.invariant-loop-f
invariant-loop-f g l = let faces = (g.S.Surface.mesh l.mesh).faces in l.ids ++ above l.last (map.keys faces) ≡ above l.id (map.keys faces)

-- those above the last become fewer
abbrev pub decreases-loop-f : goal.decreases-loop-f
decreases-loop-f g l = length (above l.last (map.keys (g.S.Surface.mesh l.mesh).faces))
