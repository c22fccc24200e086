use Rattle.std.proofs.Common.{ap, arith, length}
use Rattle.edit_pinch.proofs.FewFans.{few_fans}
use Rattle.edit_pinch.proofs.vertex_fans.fan_count.Goals as goal

pub overflow_cast-result : goal.overflow_cast-result
overflow_cast-result g c =
    let few = few_fans (g.S.Surface.mesh c.args.mesh.now) c.args.v (g.met.S.Surface.sound c.args.mesh.now) in
    let is = ap length c.in_ok-fans.ensures in
    let n = c.len.ensures in
    omega (arith, few, is, n)
