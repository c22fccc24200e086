use Rattle.std.proofs.Common.{drop}
use Rattle.mesh_base.specs.Kept.{BeginsWith}
use Rattle.edit_pinch.proofs.TurnSteps.{FacesToCome}
use Rattle.edit_pinch.proofs.changes.put_copy.Given as goal

-- the faces that are left may be made again, and then all are
abbrev pub invariant-loop-f : goal.invariant-loop-f
invariant-loop-f g l =
    FacesToCome l.v (g.S.Surface.mesh l.fn.mesh) l.fn.at l.fan l.w (g.S.Surface.mesh l.mesh) (drop l.f-index l.fan)
    × BeginsWith (g.S.Surface.kept l.mesh) (g.S.Surface.kept l.fn.mesh)
