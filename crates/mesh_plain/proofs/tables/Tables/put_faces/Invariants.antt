use Rattle.std.proofs.Common.{◌≡◌, length}
use Rattle.std.specs.List.{fold}
use Rattle.std.specs.FinMap as finite
use Rattle.mesh_base.specs.Sides.{above}
use Rattle.mesh_plain.specs.Copying.{with_face_of, with_faces_of}
use Rattle.mesh_plain.proofs.tables.Tables.put_faces.Given as goal

-- with those above the last, it becomes what it becomes with all
abbrev pub invariant-loop-f : goal.invariant-loop-f
invariant-loop-f g l = fold (with_face_of (g.S.Surface.mesh l.mesh)) l.self (above l.last (finite.keys (g.S.Surface.mesh l.mesh).faces)) ≡ with_faces_of (g.S.Surface.mesh l.mesh) l.fn.self

-- those above the last become fewer
abbrev pub decreases-loop-f : goal.decreases-loop-f
decreases-loop-f g l = length (above l.last (finite.keys (g.S.Surface.mesh l.mesh).faces))
