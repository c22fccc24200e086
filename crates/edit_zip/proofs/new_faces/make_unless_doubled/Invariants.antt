use Rattle.mesh_base.specs.Kept.{BeginsWith}
use Rattle.edit_zip.proofs.Unless.{AllToCome}
use Rattle.edit_zip.proofs.new_faces.make_unless_doubled.Given as goal

-- the faces that are left may be made unless one is there, and then all are made
abbrev pub invariant-loop-c : goal.invariant-loop-c
invariant-loop-c g l =
    AllToCome (g.S.Surface.mesh l.fn.mesh) (g.S.Surface.mesh l.mesh) l.faces l.c-index × BeginsWith (g.S.Surface.kept l.mesh) (g.S.Surface.kept l.fn.mesh)
