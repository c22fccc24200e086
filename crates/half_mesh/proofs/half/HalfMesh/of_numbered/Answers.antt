use Rattle.std.proofs.Common.{sym, subst, ap, ◌∙◌, All}
use Rattle.mesh_base.specs.Mesh.{IsSound}
use Rattle.mesh_shape.specs.Numbered.{numbered}
use Rattle.mesh_shape.proofs.Numbers.{sound-numbered}
use Rattle.mesh_shape.proofs.Outcomes.{All-empty}
use Rattle.half_mesh.specs.States.{State, AreApart, with_mesh, meshes_of, NoneBuried}
use Rattle.half_mesh.proofs.StateLaws.{apart-none}
use Rattle.half_mesh.proofs.half.HalfMesh.of_numbered.Goals as goal

pub invariant_of-result : goal.invariant_of-result
invariant_of-result c =
    let is = c.number.ensures.state ∙ ap (λ (x : State). with_mesh x (numbered x.mesh c.args.next_vertex c.args.next_face)) c.in_ok-now.ensures in
    record {
      now_sound = subst (λ (x : State). IsSound x.mesh) (sym is) (sound-numbered c.args.scale c.args.lists.now.points c.args.lists.now.faces c.args.next_vertex c.args.next_face c.requires.shape c.requires.vertex c.requires.face);
      now_apart = subst AreApart (sym is) (apart-none _);
      before_sound = subst (λ ls. All IsSound (meshes_of ls)) (sym c.new.ensures.items) (All-empty IsSound);
      before_none = subst NoneBuried (sym c.new.ensures.items) (All-empty _);
    }
