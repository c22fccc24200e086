use Rattle.std.proofs.Common.{sym, subst}
use Rattle.mesh_base.specs.Mesh.{IsSound}
use Rattle.half_mesh.specs.States.{State, AreApart}
use Rattle.half_mesh.proofs.Numbers.{sound-next, apart-next}
use Rattle.half_mesh.proofs.half.HalfMesh.set_next.Goals as goal

pub invariant_of-self : goal.invariant_of-self
invariant_of-self c =
    let s = c.args.self.now.now.state in
    let r = c.requires in
    record {
      now_sound = subst (λ (x : State). IsSound x.mesh) (sym c.number.ensures.state) (sound-next s.mesh c.args.next_vertex c.args.next_face c.args.self.now.now_sound r.vertex r.face r.vertex_made r.face_made);
      now_apart = subst AreApart (sym c.number.ensures.state) (apart-next s c.args.next_vertex c.args.next_face c.args.self.now.now_apart r.vertex r.face);
      before_sound = c.args.self.now.before_sound;
      before_none = c.args.self.now.before_none;
    }
