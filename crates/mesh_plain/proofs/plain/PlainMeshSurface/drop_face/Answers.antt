use Rattle.std.proofs.Common.{sym, subst}
use Rattle.mesh_base.specs.Mesh.{IsSound}
use Rattle.mesh_base.proofs.MeshLaws.{sound-without_face}
use Rattle.mesh_plain.proofs.plain.PlainMeshSurface.drop_face.Goals as goal

pub invariant_of-self : goal.invariant_of-self
invariant_of-self c = record {
  now_sound = subst IsSound (sym c.drop_face.ensures) (sound-without_face c.args.self.now.now c.args.f c.args.self.now.now_sound);
  before_sound = c.args.self.now.before_sound;
}
