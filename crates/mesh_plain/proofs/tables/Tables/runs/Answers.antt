use Rattle.std.proofs.Common.{arith}
use Rattle.mesh_base.specs.Sides.{follows}
use Rattle.mesh_base.proofs.Ordered.{entries-made, length-ids_where}
use Rattle.mesh_plain.proofs.tables.Tables.runs.Goals as goal

pub loop-corners-init : goal.loop-corners-init
loop-corners-init c =
    let e = c.into_iter-corners-iterator.ensures.into_iter_gives in
    let few = length-ids_where (λ x. follows x c.args.u c.args.v) c.self.inside.faces.entries in
    rw (← c.self.view_is, entries-made c.self.inside.faces.entries e.5, e.0) (record { counted = omega arith; fits = omega (arith, few, e.1) })
