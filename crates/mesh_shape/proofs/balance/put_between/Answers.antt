use Rattle.std.proofs.Common.{◌++◌, take, ◌∙◌}
use Rattle.mesh_shape.specs.ShapeFaults.{one_if}
use Rattle.mesh_shape.proofs.Unbalanced.{between_more}
use Rattle.mesh_shape.proofs.balance.put_between.Goals as goal

pub loop-side-preserved : goal.loop-side-preserved
loop-side-preserved c =
    between_more c.args.most c.args.n c.args.sides.now c.loop-side.side-index _ c.loop-side.faults.items c.put_if.new.faults.items _ c.loop-side-test.true c.loop-side.invariant
    (c.in_ok-put_if.ensures ∙ (λ i. take c.args.most (c.loop-side.faults.items ++ one_if (c.are_vertices.ensures i) (c.unbalanced_fault.ensures i))))
