use Rattle.std.proofs.Common.{arith}
use Rattle.mesh_base.proofs.Ordered.{runs-le}
use Rattle.mesh_plain.proofs.plain.PlainMeshSurface.runs.Goals as goal

pub overflow_cast-result : goal.overflow_cast-result
overflow_cast-result c =
    let few = runs-le c.args.self.now.now c.args.u c.args.v in
    let limit = c.args.self.now.now_sound.limits.faces in
    omega (arith, c.runs.ensures)
