use Rattle.std.proofs.Common.{arith}
use Rattle.mesh_shape.proofs.Unbalanced.{small_pushed}
use Rattle.mesh_shape.proofs.balance.put_side.Goals as goal

pub returns-in_ok-push-clause-small_up : goal.returns-in_ok-push-clause-small_up
returns-in_ok-push-clause-small_up c = λ ok small. small_pushed c.args.sides.now.up.items c.push.new.self.items (c.args.from, c.args.to) c.in_ok-push.ensures.items (omega arith) small

pub returns-in_ok-push-2-clause-small_down : goal.returns-in_ok-push-2-clause-small_down
returns-in_ok-push-2-clause-small_down c = λ ok small. small_pushed c.args.sides.now.down.items c.push-then-to-from.new.self.items (c.args.to, c.args.from) c.in_ok-push-2.ensures.items (omega arith) small
