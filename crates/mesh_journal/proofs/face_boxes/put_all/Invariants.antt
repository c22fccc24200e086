use Rattle.std.proofs.Common.{◌≡◌, ℕ, false, length, Some}
use Rattle.std.specs.FinMap as map
use Rattle.cell_grid.specs.Filed.{has}
use Rattle.mesh_base.specs.declared.ids.Corners.{Corners}
use Rattle.mesh_base.specs.Mesh.{HasCorners}
use Rattle.mesh_base.specs.Sides.{above}
use Rattle.mesh_journal.specs.Boxed.{HoldsCorners}
use Rattle.mesh_journal.proofs.face_boxes.put_all.Given as goal

-- each face that is not above the last has its box
abbrev pub invariant-loop-f : goal.invariant-loop-f
invariant-loop-f g l = let m = g.B.Surface.mesh l.mesh in (q : ℕ) (c : Corners) → HasCorners m q c → has q (above l.last (map.keys m.faces)) ≡ false → HoldsCorners (Some l.grid) m q c

-- those above the last become fewer
abbrev pub decreases-loop-f : goal.decreases-loop-f
decreases-loop-f g l = length (above l.last (map.keys (g.B.Surface.mesh l.mesh).faces))
