use Rattle.std.proofs.Common.{◌≡◌, ◌+◌, arith}
use Rattle.edit_pinch.proofs.CopiesMade.{one_listed}
use Rattle.edit_pinch.proofs.copy_points.copies_for.Goals as goal

pub loop-fan-preserved : goal.loop-fan-preserved
loop-fan-preserved g c =
    let m = g.S.Surface.mesh c.args.mesh.now in
    let count : c.loop-fan.w ≡ m.next_vertex + c.loop-fan.fan-index = c.loop-fan.invariant.0 in (
      (omega (arith, count)),
      one_listed m c.args.v c.args.fans.now c.loop-fan.fan-index c.loop-fan.w c.loop-fan.made c.push.new.self _ c.fan-item.result c.as_slice.result.now c.in_ok-at.at
          c.loop-fan-test.true c.fan-item.is c.as_slice.ensures c.in_ok-at.ensures c.in_ok-push.ensures.ok c.loop-fan.invariant.1,
    )
