use Rattle.std.proofs.Common.{sym, subst}
use Rattle.mesh_base.specs.Mesh.{IsSound}
use Rattle.half_mesh.specs.States.{State, AreApart}
use Rattle.half_mesh.proofs.StateLaws.{sound-without_solid, apart-marked}
use Rattle.half_mesh.proofs.half.HalfMesh.unmake_solid.Goals as goal

pub invariant_of-self : goal.invariant_of-self
invariant_of-self c = record {
  now_sound = subst (λ (x : State). IsSound x.mesh) (sym c.unmake_solid.ensures.state) (sound-without_solid c.args.self.now.now.state.mesh c.args.v c.args.self.now.now_sound);
  now_apart = subst AreApart (sym c.unmake_solid.ensures.state) (apart-marked c.args.self.now.now.state _ c.args.self.now.now_apart);
  before_sound = c.args.self.now.before_sound;
  before_none = c.args.self.now.before_none;
}
