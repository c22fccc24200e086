use Rattle.step_impulse.proofs.Fives.{five_stand}
use Rattle.step_impulse.proofs.pass.five_points.Goals as goal

pub returns : goal.returns
returns g c =
    five_stand (g.S.Surface.mesh c.args.mesh.now) c.args.ids.now c.index-ids-0.result c.index-ids-1.result c.index-ids-2.result c.index-ids-3.result c.index-ids-4.result
    c.point_of.result c.point_of-2.result c.point_of-3.result c.point_of-4.result c.point_of-5.result c.told-ids c.point_of.ensures c.point_of-2.ensures c.point_of-3.ensures c.point_of-4.ensures c.point_of-5.ensures
