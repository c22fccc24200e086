use Rattle.mesh_base.specs.Mesh.{IsSound}
use Rattle.mesh_shape.proofs.Outcomes.{on_both}
use Rattle.mesh_base.specs.Changes.{with_solid}
use Rattle.mesh_base.proofs.MeshLaws.{sound-with_solid}
use Rattle.mesh_plain.proofs.plain.PlainMeshSurface.make_solid.Goals as goal

pub invariant_of-self : goal.invariant_of-self
invariant_of-self c =
    let now = c.args.self.now.now in
    record {
      now_sound = on_both IsSound c.make_solid.result c.make_solid.new.self (with_solid now c.args.v) now c.make_solid.ensures.ok c.make_solid.ensures.err (sound-with_solid now c.args.v c.args.self.now.now_sound c.requires) c.args.self.now.now_sound;
      before_sound = c.args.self.now.before_sound;
    }
