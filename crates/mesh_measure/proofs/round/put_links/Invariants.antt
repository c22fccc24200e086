use Rattle.std.proofs.Common.{take}
use Rattle.mesh_measure.specs.Round.{AreLinks}
use Rattle.mesh_measure.proofs.round.put_links.Given as goal

-- the corners of the faces so far are linked
abbrev pub invariant-loop-f : goal.invariant-loop-f
invariant-loop-f g l = AreLinks (g.S.Surface.mesh l.mesh) l.v (take l.f-index l.faces) l.links
