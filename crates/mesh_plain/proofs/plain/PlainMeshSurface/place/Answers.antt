use Rattle.mesh_base.specs.Mesh.{IsSound}
use Rattle.mesh_shape.proofs.Outcomes.{on_both}
use Rattle.mesh_base.specs.Changes.{with_point}
use Rattle.mesh_base.proofs.MeshLaws.{sound-with_point}
use Rattle.mesh_plain.proofs.plain.PlainMeshSurface.place.Goals as goal

pub invariant_of-self : goal.invariant_of-self
invariant_of-self c =
    let now = c.args.self.now.now in
    record {
      now_sound = on_both IsSound c.place.result c.place.new.self (with_point now c.args.v c.args.p) now c.place.ensures.ok c.place.ensures.err (sound-with_point now c.args.v c.args.p c.args.self.now.now_sound c.requires) c.args.self.now.now_sound;
      before_sound = c.args.self.now.before_sound;
    }
