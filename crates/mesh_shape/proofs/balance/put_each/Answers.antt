use Rattle.mesh_shape.proofs.Differing.{each_more, each_end}
use Rattle.mesh_shape.proofs.balance.put_each.Goals as goal

pub loop-side-preserved : goal.loop-side-preserved
loop-side-preserved c = λ u v. each_more c.args.sides.now c.loop-side.list.items c.put_new.new.list.items c.loop-side.side-index _ u v _ c.loop-side-test.true (c.in_ok-put_new.ensures u v) (c.loop-side.invariant u v)

pub returns : goal.returns
returns c = λ u v. each_end c.args.sides.now c.loop-side.list.items c.loop-side.side-index u v _ c.loop-side-test.false (c.loop-side.invariant u v)
