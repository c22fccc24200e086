use Rattle.std.proofs.Common.{drop}
use Rattle.mesh_base.specs.Kept.{BeginsWith}
use Rattle.edit_collapse.proofs.Halfway.{OnTheWay}
use Rattle.edit_collapse.proofs.changes.put_joined.Given as goal

abbrev pub invariant-loop-i : goal.invariant-loop-i
invariant-loop-i g l =
    OnTheWay (g.S.Surface.mesh l.fn.mesh) l.a l.b (g.S.Surface.mesh l.mesh) (drop l.i l.faces)
    × BeginsWith (g.S.Surface.kept l.mesh) (g.S.Surface.kept l.fn.mesh)
