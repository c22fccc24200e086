use Rattle.mesh_base.proofs.ListLaws.{mapped_more}
use Rattle.edit_pinch.specs.Parting.{cornered}
use Rattle.edit_pinch.proofs.Parted.{with_its_corners}
use Rattle.edit_pinch.proofs.vertex_fans.with_corners.Goals as goal

pub loop-f-preserved : goal.loop-f-preserved
loop-f-preserved g c =
    let m = g.S.Surface.mesh c.args.mesh.now in
    mapped_more (cornered m) c.args.faces.now c.loop-f.f-index c.f-item.result c.loop-f.all c.push.new.self _ _ c.loop-f-test.true c.f-item.is c.in_ok-push.ensures.ok
    (with_its_corners m c.f-item.result _ c.corners_at.ensures) c.loop-f.invariant
