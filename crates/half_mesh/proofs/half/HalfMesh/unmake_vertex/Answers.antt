use Rattle.std.proofs.Common.{sym, subst}
use Rattle.mesh_base.specs.Mesh.{IsSound}
use Rattle.half_mesh.specs.States.{State, AreApart}
use Rattle.half_mesh.proofs.StateLaws.{sound-unmake_vertex, apart-unmake_vertex}
use Rattle.half_mesh.proofs.half.HalfMesh.unmake_vertex.Goals as goal

pub invariant_of-self : goal.invariant_of-self
invariant_of-self c = record {
  now_sound = subst (λ (x : State). IsSound x.mesh) (sym c.unmake_vertex.ensures.state) (sound-unmake_vertex c.args.self.now.now.state c.args.v c.args.self.now.now_sound c.requires);
  now_apart = subst AreApart (sym c.unmake_vertex.ensures.state) (apart-unmake_vertex c.args.self.now.now.state c.args.v c.args.self.now.now_apart c.requires);
  before_sound = c.args.self.now.before_sound;
  before_none = c.args.self.now.before_none;
}
