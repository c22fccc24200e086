use Rattle.std.proofs.Common.{length}
use Rattle.std.specs.FinMap as map
use Rattle.mesh_base.specs.Sides.{above}
use Rattle.mesh_journal.proofs.face_boxes.sides_added.Given as goal

-- those above the last become fewer
abbrev pub decreases-loop-f : goal.decreases-loop-f
decreases-loop-f g l = length (above l.last (map.keys (g.B.Surface.mesh l.mesh).faces))
