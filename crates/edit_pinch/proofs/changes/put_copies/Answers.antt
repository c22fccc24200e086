use Rattle.std.proofs.Common.{◌≤◌, length, arith}
use Rattle.mesh_base.proofs.MarksHold.{begins_along}
use Rattle.edit_pinch.proofs.TurnSteps.{next_may_be, one_made, all_made}
use Rattle.edit_pinch.proofs.changes.put_copies.Goals as goal

pub put_copy-requires : goal.put_copy-requires
put_copy-requires g c =
    next_may_be c.args.v (g.S.Surface.mesh c.args.mesh.now) (g.S.Surface.mesh c.loop-i.mesh) c.args.fans.now c.args.copies.now c.loop-i.i c.index-fans-i.result c.as_slice.result.now c.index-copies-i.result
    c.loop-i-test.true c.requires.same c.index-fans-i.is c.as_slice.ensures c.loop-i.invariant.0

pub returns-in_err-put_copy-clause-marks : goal.returns-in_err-put_copy-clause-marks
returns-in_err-put_copy-clause-marks g c =
    let kept = g.S.Surface.kept in
    begins_along (kept c.put_copy.new.mesh) (kept c.loop-i.mesh) (kept c.args.mesh.now) c.put_copy.ensures.marks c.loop-i.invariant.1

pub loop-i-preserved : goal.loop-i-preserved
loop-i-preserved g c =
    let kept = g.S.Surface.kept in (
      one_made c.args.v (g.S.Surface.mesh c.args.mesh.now) (g.S.Surface.mesh c.loop-i.mesh) c.args.fans.now c.args.copies.now c.loop-i.i c.index-fans-i.result c.as_slice.result.now c.index-copies-i.result
          c.loop-i-test.true c.requires.same c.index-fans-i.is c.as_slice.ensures c.loop-i.invariant.0 (g.S.Surface.mesh c.put_copy.new.mesh) c.in_ok-put_copy.ensures.made,
      begins_along (kept c.put_copy.new.mesh) (kept c.loop-i.mesh) (kept c.args.mesh.now) c.put_copy.ensures.marks c.loop-i.invariant.1,
    )

pub returns-clause-made : goal.returns-clause-made
returns-clause-made g c =
    let end : length c.args.fans.now ≤ c.loop-i.i = omega arith in
    all_made c.args.v (g.S.Surface.mesh c.args.mesh.now) (g.S.Surface.mesh c.loop-i.mesh) c.args.fans.now c.args.copies.now c.loop-i.i end c.loop-i.invariant.0
