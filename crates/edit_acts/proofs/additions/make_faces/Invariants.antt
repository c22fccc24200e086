use Rattle.mesh_base.specs.Kept.{BeginsWith}
use Rattle.edit_acts.proofs.Made.{AllToCome}
use Rattle.edit_acts.proofs.additions.make_faces.Given as goal

-- the faces that are left may be made, and then all are made
abbrev pub invariant-loop-c : goal.invariant-loop-c
invariant-loop-c g l =
    AllToCome (g.S.Surface.mesh l.fn.mesh) (g.S.Surface.mesh l.mesh) l.faces l.c-index × BeginsWith (g.S.Surface.kept l.mesh) (g.S.Surface.kept l.fn.mesh)
