use Rattle.std.proofs.Common.{sym, ap, ◌∙◌}
use Rattle.std.specs.List.{fold}
use Rattle.pair_scan.proofs.Lists.{ended}
use Rattle.edit_pinch.specs.Rims.{with_corners}
use Rattle.edit_pinch.proofs.Growing.{next_folded}
use Rattle.edit_pinch.proofs.copy_points.rim.Goals as goal

pub loop-f-preserved : goal.loop-f-preserved
loop-f-preserved g c =
    next_folded (with_corners (g.S.Surface.mesh c.args.mesh.now) c.args.v) c.args.fan.now c.loop-f.f-index c.f-item.result c.loop-f.found c.put_corners.new.found c.loop-f-test.true c.f-item.is c.in_ok-put_corners.ensures
    ∙ c.loop-f.invariant

pub returns : goal.returns
returns g c =
    sym (ap (fold (with_corners (g.S.Surface.mesh c.args.mesh.now) c.args.v) c.loop-f.found) (ended c.args.fan.now c.loop-f.f-index c.loop-f-test.false))
    ∙ c.loop-f.invariant
