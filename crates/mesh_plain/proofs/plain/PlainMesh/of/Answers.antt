use Rattle.std.proofs.Common.{sym, subst, All}
use Rattle.mesh_base.specs.Mesh.{IsSound}
use Rattle.mesh_shape.proofs.Lists.{sound-mesh_under}
use Rattle.mesh_shape.proofs.Outcomes.{All-empty}
use Rattle.mesh_plain.proofs.plain.PlainMesh.of.Goals as goal

pub invariant_of-result : goal.invariant_of-result
invariant_of-result c = record {
  now_sound = subst IsSound (sym c.in_ok-now.ensures) (sound-mesh_under c.args.scale c.args.lists.now.points c.args.lists.now.faces c.requires);
  before_sound = subst (All IsSound) (sym c.new.ensures.items) (All-empty IsSound);
}
