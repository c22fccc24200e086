use Rattle.std.proofs.Common.{◌≡◌, drop}
use Rattle.std.specs.List.{list_any}
use Rattle.mesh_base.specs.Mesh.{equal_up_to_rotation}
use Rattle.edit_collapse.proofs.cancellation.has_equal_to.Given as goal

abbrev pub invariant-loop-e : goal.invariant-loop-e
invariant-loop-e l = list_any (λ e. equal_up_to_rotation l.one.1 e.1) (drop l.e-index l.faces) ≡ list_any (λ e. equal_up_to_rotation l.one.1 e.1) l.faces
