use Rattle.std.proofs.Common.{◌≡◌, ◌∙◌}
use Rattle.mesh_base.specs.Sides.{faces_at}
use Rattle.edit_pinch.specs.Pinch.{share_second}
use Rattle.edit_pinch.proofs.FanBalance.{share_both_ways, faces_differ}
use Rattle.edit_pinch.proofs.Leasts.{step_on}
use Rattle.edit_pinch.proofs.vertex_fans.fans.Goals as goal

pub loop-f-preserved : goal.loop-f-preserved
loop-f-preserved g c =
    let m = g.S.Surface.mesh c.args.mesh.now in
    let v = c.args.v in
    let items : c.deref-f-items.result.now ≡ faces_at m v = c.deref-f-items.ensures.value ∙ c.in_ok-faces_at.ensures.ok in
    step_on (share_second m v) (faces_at m v) (share_both_ways m v) (faces_differ m v) c.deref-f-items.result.now c.loop-f.fans c.loop-f.f-index c.f-item.result items c.loop-f-test.true c.f-item.is c.loop-f.invariant
    c.as_slice.result.now c.put_fan.new.fans (c.as_slice.ensures.value ∙ c.in_ok-faces_at.ensures.ok) c.in_ok-put_fan.ensures
