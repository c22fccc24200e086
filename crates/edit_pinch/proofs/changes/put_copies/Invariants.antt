use Rattle.mesh_base.specs.Kept.{BeginsWith}
use Rattle.edit_pinch.proofs.TurnSteps.{ToCome}
use Rattle.edit_pinch.proofs.changes.put_copies.Given as goal

-- the copies that are left may be made, and then all are
abbrev pub invariant-loop-i : goal.invariant-loop-i
invariant-loop-i g l =
    let m = g.S.Surface.mesh l.mesh in
    ToCome l.v (g.S.Surface.mesh l.fn.mesh) m l.fans l.copies l.i m l.i × BeginsWith (g.S.Surface.kept l.mesh) (g.S.Surface.kept l.fn.mesh)
