use Rattle.std.proofs.Common.{ap, arith}
use Rattle.mesh_base.specs.Mesh.{IsSound}
use Rattle.mesh_shape.proofs.Outcomes.{on_both}
use Rattle.mesh_base.specs.Changes.{with_face, corners_of}
use Rattle.mesh_base.proofs.MeshLaws.{sound-with_face}
use Rattle.mesh_base.specs.declared.limits.Limits.{Limits}
use Rattle.mesh_plain.proofs.plain.PlainMeshSurface.add_face.Goals as goal

pub invariant_of-self : goal.invariant_of-self
invariant_of-self c =
    let now = c.args.self.now.now in
    let few = ap (λ (l : Limits). l.faces) c.limits.ensures in
    let made = sound-with_face now (corners_of c.args.c) c.args.self.now.now_sound c.requires (omega (arith, few)) (omega arith) in
    record {
      now_sound = on_both IsSound c.add_face.result c.add_face.new.self (with_face now (corners_of c.args.c)) now (rw (← c.of.ensures) c.add_face.ensures.ok) c.add_face.ensures.err made c.args.self.now.now_sound;
      before_sound = c.args.self.now.before_sound;
    }
