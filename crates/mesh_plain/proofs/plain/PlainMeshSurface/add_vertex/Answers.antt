use Rattle.std.proofs.Common.{ap, arith}
use Rattle.mesh_base.specs.Mesh.{IsSound}
use Rattle.mesh_shape.proofs.Outcomes.{on_both}
use Rattle.mesh_base.specs.Changes.{with_vertex}
use Rattle.mesh_base.proofs.MeshLaws.{sound-with_vertex}
use Rattle.mesh_base.specs.declared.limits.Limits.{Limits}
use Rattle.mesh_plain.proofs.plain.PlainMeshSurface.add_vertex.Goals as goal

pub invariant_of-self : goal.invariant_of-self
invariant_of-self c =
    let now = c.args.self.now.now in
    let few = ap (λ (l : Limits). l.vertices) c.limits.ensures in
    let made = sound-with_vertex now c.args.p c.args.self.now.now_sound (omega (arith, few)) (omega arith) in
    record {
      now_sound = on_both IsSound c.add_vertex.result c.add_vertex.new.self (with_vertex now c.args.p) now c.add_vertex.ensures.ok c.add_vertex.ensures.err made c.args.self.now.now_sound;
      before_sound = c.args.self.now.before_sound;
    }
