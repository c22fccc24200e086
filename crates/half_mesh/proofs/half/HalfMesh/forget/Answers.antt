use Rattle.std.proofs.Common.{sym, subst}
use Rattle.mesh_base.specs.Mesh.{IsSound}
use Rattle.half_mesh.specs.States.{State, AreApart}
use Rattle.half_mesh.proofs.StateLaws.{apart-none}
use Rattle.half_mesh.proofs.half.HalfMesh.forget.Goals as goal

pub invariant_of-self : goal.invariant_of-self
invariant_of-self c = record {
  now_sound = subst (λ (x : State). IsSound x.mesh) (sym c.forget.ensures.state) (c.args.self.now.now_sound);
  now_apart = subst AreApart (sym c.forget.ensures.state) (apart-none c.args.self.now.now.state.mesh);
  before_sound = c.args.self.now.before_sound;
  before_none = c.args.self.now.before_none;
}
