use Rattle.std.proofs.Common.{sym, subst, ap, ◌∙◌, All}
use Rattle.mesh_base.specs.Mesh.{IsSound}
use Rattle.mesh_shape.specs.Numbered.{numbered}
use Rattle.mesh_shape.proofs.Numbers.{sound-numbered}
use Rattle.mesh_shape.proofs.Outcomes.{All-empty}
use Rattle.mesh_plain.proofs.plain.PlainMesh.of_numbered.Goals as goal

pub invariant_of-result : goal.invariant_of-result
invariant_of-result c = record {
  now_sound =
      subst IsSound
      (sym (c.number.ensures ∙ ap (λ m. numbered m c.args.next_vertex c.args.next_face) c.in_ok-now.ensures))
      (sound-numbered c.args.scale c.args.lists.now.points c.args.lists.now.faces c.args.next_vertex c.args.next_face c.requires.shape c.requires.vertex c.requires.face);
  before_sound = subst (All IsSound) (sym c.new.ensures.items) (All-empty IsSound);
}
