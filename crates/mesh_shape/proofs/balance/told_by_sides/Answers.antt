use Rattle.std.proofs.Common.{sym, ◌∙◌}
use Rattle.mesh_shape.proofs.Once.{none_doubled}
use Rattle.mesh_shape.proofs.balance.told_by_sides.Goals as goal

pub returns-clause-once : goal.returns-clause-once
returns-clause-once c = λ once different. none_doubled c.args.faces.now c.in_ok-sides.sides.up.items c.in_ok-sides.ensures.up (sym c.run_up_once-once.ensures ∙ once) different
