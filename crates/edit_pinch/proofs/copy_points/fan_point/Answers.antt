use Rattle.edit_pinch.proofs.FanPoints.{stays_in_box, is_fan_point}
use Rattle.edit_pinch.proofs.copy_points.fan_point.Goals as goal

pub moved_by-requires-clause-stays : goal.moved_by-requires-clause-stays
moved_by-requires-clause-stays g c =
    stays_in_box (g.S.Surface.mesh c.args.mesh.now) c.args.v c.args.fan.now (g.met.S.Surface.sound c.args.mesh.now) c.requires c.point_of.result c.ways-sum.result c.in_ok-us.us c.as_slice.result.now c.len.result
    c.point_of.ensures c.in_ok-us.ensures c.as_slice.ensures c.ways-sum.ensures.value c.len.ensures

pub returns : goal.returns
returns g c =
    is_fan_point (g.S.Surface.mesh c.args.mesh.now) c.args.v c.args.fan.now (g.met.S.Surface.sound c.args.mesh.now) c.requires c.point_of.result c.ways-sum.result c.in_ok-us.us c.as_slice.result.now c.len.result
    c.point_of.ensures c.in_ok-us.ensures c.as_slice.ensures c.ways-sum.ensures.value c.len.ensures c.moved_by.result c.moved_by.ensures
