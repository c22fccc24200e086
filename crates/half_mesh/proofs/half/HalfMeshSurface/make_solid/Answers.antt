use Rattle.std.proofs.Common.{sym, subst}
use Rattle.mesh_base.specs.Mesh.{IsSound}
use Rattle.mesh_base.proofs.MeshLaws.{sound-with_solid}
use Rattle.half_mesh.specs.States.{State, AreApart}
use Rattle.half_mesh.proofs.StateLaws.{apart-marked}
use Rattle.half_mesh.proofs.half.HalfMeshSurface.make_solid.Goals as goal

pub invariant_of-self : goal.invariant_of-self
invariant_of-self c = record {
  now_sound = subst (λ (x : State). IsSound x.mesh) (sym c.make_solid.ensures.state) (sound-with_solid c.args.self.now.now.state.mesh c.args.v c.args.self.now.now_sound c.requires);
  now_apart = subst AreApart (sym c.make_solid.ensures.state) (apart-marked c.args.self.now.now.state _ c.args.self.now.now_apart);
  before_sound = c.args.self.now.before_sound;
  before_none = c.args.self.now.before_none;
}
