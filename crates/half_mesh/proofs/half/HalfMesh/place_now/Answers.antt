use Rattle.std.proofs.Common.{sym, subst}
use Rattle.mesh_base.specs.Mesh.{IsSound}
use Rattle.mesh_base.proofs.MeshLaws.{sound-with_point}
use Rattle.half_mesh.specs.States.{State, AreApart}
use Rattle.half_mesh.proofs.StateLaws.{apart-with_point}
use Rattle.half_mesh.proofs.half.HalfMesh.place_now.Goals as goal

pub invariant_of-self : goal.invariant_of-self
invariant_of-self c = record {
  now_sound = subst (λ (x : State). IsSound x.mesh) (sym c.place.ensures.state) (sound-with_point c.args.self.now.now.state.mesh c.args.v c.args.p c.args.self.now.now_sound c.requires);
  now_apart = subst AreApart (sym c.place.ensures.state) (apart-with_point c.args.self.now.now.state c.args.v c.args.p c.args.self.now.now_apart c.requires);
  before_sound = c.args.self.now.before_sound;
  before_none = c.args.self.now.before_none;
}
