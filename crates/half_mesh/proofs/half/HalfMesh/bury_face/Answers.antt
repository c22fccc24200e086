use Rattle.std.proofs.Common.{sym, subst}
use Rattle.mesh_base.specs.Mesh.{IsSound}
use Rattle.mesh_base.proofs.MeshLaws.{sound-without_face}
use Rattle.half_mesh.specs.States.{State, AreApart}
use Rattle.half_mesh.proofs.StateLaws.{apart-bury_face}
use Rattle.half_mesh.proofs.half.HalfMesh.bury_face.Goals as goal

pub invariant_of-self : goal.invariant_of-self
invariant_of-self c = record {
  now_sound = subst (λ (x : State). IsSound x.mesh) (sym c.bury_face.ensures.state) (sound-without_face c.args.self.now.now.state.mesh c.args.f c.args.self.now.now_sound);
  now_apart = subst AreApart (sym c.bury_face.ensures.state) (apart-bury_face c.args.self.now.now.state c.args.f c.args.self.now.now_apart c.args.self.now.now_sound c.requires);
  before_sound = c.args.self.now.before_sound;
  before_none = c.args.self.now.before_none;
}
