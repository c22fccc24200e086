use Rattle.std.proofs.Common.{sym, subst}
use Rattle.mesh_base.specs.Mesh.{IsSound}
use Rattle.half_mesh.specs.States.{State, AreApart}
use Rattle.half_mesh.proofs.StateLaws.{sound-raise_face, apart-raise_face}
use Rattle.half_mesh.proofs.half.HalfMesh.raise_face.Goals as goal

pub invariant_of-self : goal.invariant_of-self
invariant_of-self c = record {
  now_sound = subst (λ (x : State). IsSound x.mesh) (sym c.raise_face.ensures.state) (sound-raise_face c.args.self.now.now.state c.args.f c.args.self.now.now_sound c.args.self.now.now_apart c.requires);
  now_apart = subst AreApart (sym c.raise_face.ensures.state) (apart-raise_face c.args.self.now.now.state c.args.f c.args.self.now.now_apart c.requires.buried);
  before_sound = c.args.self.now.before_sound;
  before_none = c.args.self.now.before_none;
}
