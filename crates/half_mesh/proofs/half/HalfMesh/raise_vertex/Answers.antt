use Rattle.std.proofs.Common.{sym, subst}
use Rattle.mesh_base.specs.Mesh.{IsSound}
use Rattle.half_mesh.specs.States.{State, AreApart}
use Rattle.half_mesh.proofs.StateLaws.{sound-raise_vertex, apart-raise_vertex}
use Rattle.half_mesh.proofs.half.HalfMesh.raise_vertex.Goals as goal

pub invariant_of-self : goal.invariant_of-self
invariant_of-self c = record {
  now_sound = subst (λ (x : State). IsSound x.mesh) (sym c.raise_vertex.ensures.state) (sound-raise_vertex c.args.self.now.now.state c.args.v c.args.self.now.now_sound c.args.self.now.now_apart c.requires);
  now_apart = subst AreApart (sym c.raise_vertex.ensures.state) (apart-raise_vertex c.args.self.now.now.state c.args.v c.args.self.now.now_apart c.requires.buried);
  before_sound = c.args.self.now.before_sound;
  before_none = c.args.self.now.before_none;
}
