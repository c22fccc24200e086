use Rattle.std.proofs.Common.{sym, subst}
use Rattle.mesh_base.specs.Mesh.{IsSound}
use Rattle.mesh_base.proofs.MeshLaws.{sound-without_vertex}
use Rattle.mesh_plain.proofs.plain.PlainMeshSurface.drop_vertex.Goals as goal

pub invariant_of-self : goal.invariant_of-self
invariant_of-self c = record {
  now_sound = subst IsSound (sym c.drop_vertex.ensures) (sound-without_vertex c.args.self.now.now c.args.v c.args.self.now.now_sound c.requires.bare);
  before_sound = c.args.self.now.before_sound;
}
