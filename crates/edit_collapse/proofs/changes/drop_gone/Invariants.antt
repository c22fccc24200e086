use Rattle.std.proofs.Common.{◌≡◌, drop, not}
use Rattle.std.specs.List.{filter}
use Rattle.mesh_base.specs.Kept.{BeginsWith}
use Rattle.edit_base.specs.Edges.{without_faces}
use Rattle.edit_collapse.specs.Tried.{has_id_in}
use Rattle.edit_collapse.proofs.changes.drop_gone.Given as goal

abbrev pub invariant-loop-f : goal.invariant-loop-f
invariant-loop-f g l =
    (without_faces (g.S.Surface.mesh l.mesh) (filter (λ f. not (has_id_in l.left f)) (drop l.f-index l.f-items)) ≡ without_faces (g.S.Surface.mesh l.fn.mesh) (filter (λ f. not (has_id_in l.left f)) l.f-items))
    × BeginsWith (g.S.Surface.kept l.mesh) (g.S.Surface.kept l.fn.mesh)
