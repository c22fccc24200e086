use Rattle.topo_library.proofs.InOrder.{after_one}
use Rattle.topo_library.proofs.directives.shift_all.Goals as goal

pub loop-row-preserved : goal.loop-row-preserved
loop-row-preserved c = λ t after code rest.
    c.loop-row.invariant t after code
    (after_one c.args.rows.now c.loop-row.row-index _ c.loop-row-test.true _ c.advance-code.new.self t _ _ after c.in-Some.what c.advance-code.result code c.in-Some.ensures c.advance-code.ensures c.if-code-ne-DONE.false rest)
