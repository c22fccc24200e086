use Rattle.std.proofs.Common.{◌≤◌, ◌⊎◌, inl, inr, length, arith}
use Rattle.mesh_shape.proofs.Differing.{tails_put, walked_through}
use Rattle.mesh_shape.proofs.balance.differences.Goals as goal
use Rattle.mesh_shape.proofs.balance.differences.Goals.{then-loop-i-test+else-j-other, else-loop-i-test}

pub returns : goal.returns
returns c = λ u v.
    let one = c.args.one.now in
    let other = c.args.other.now in
    let through : (length one ≤ c.loop-i.i) ⊎ (length other ≤ c.loop-i.j) = elim c.loop-i-test.branch [ then-loop-i-test+else-j-other w ↦ inr (omega arith) | else-loop-i-test w ↦ inl (omega arith) ] in
    walked_through one other c.loop-i.list.items c.put_each-2.new.list.items c.loop-i.i c.loop-i.j _ u v through
    (tails_put one other c.loop-i.list.items c.put_each.new.list.items c.put_each-2.new.list.items c.loop-i.i c.loop-i.j u v (c.in_ok-put_each.ensures u v) (c.in_ok-put_each-2.ensures u v))
    (c.loop-i.invariant.same u v)
