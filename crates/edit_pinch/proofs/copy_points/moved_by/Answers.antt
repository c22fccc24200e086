use Rattle.grid_base.proofs.MeetingLaws.{same_triple}
use Rattle.edit_pinch.proofs.Casts.{may_be_moved, moved_held, moved_stays}
use Rattle.edit_pinch.proofs.copy_points.moved_by.Goals as goal

pub coordinate-requires : goal.coordinate-requires
coordinate-requires c = may_be_moved c.args.here.x c.args.sum.x c.args.count c.args.here.in_box.x_fits c.requires.sum.x_fits c.requires.stays.x_fits

pub coordinate-requires-2 : goal.coordinate-requires-2
coordinate-requires-2 c = may_be_moved c.args.here.y c.args.sum.y c.args.count c.args.here.in_box.y_fits c.requires.sum.y_fits c.requires.stays.y_fits

pub coordinate-requires-3 : goal.coordinate-requires-3
coordinate-requires-3 c = may_be_moved c.args.here.z c.args.sum.z c.args.count c.args.here.in_box.z_fits c.requires.sum.z_fits c.requires.stays.z_fits

pub invariant_of-result : goal.invariant_of-result
invariant_of-result c =
    let x = moved_stays c.args.here.x c.args.sum.x c.args.count c.args.here.in_box.x_fits c.requires.sum.x_fits c.requires.stays.x_fits c.coordinate.result c.coordinate.ensures in
    let y = moved_stays c.args.here.y c.args.sum.y c.args.count c.args.here.in_box.y_fits c.requires.sum.y_fits c.requires.stays.y_fits c.coordinate-2.result c.coordinate-2.ensures in
    let z = moved_stays c.args.here.z c.args.sum.z c.args.count c.args.here.in_box.z_fits c.requires.sum.z_fits c.requires.stays.z_fits c.coordinate-3.result c.coordinate-3.ensures in
    record { in_box = record { x_fits = x; y_fits = y; z_fits = z } }

pub returns : goal.returns
returns c =
    same_triple _ _
    (moved_held c.args.here.x c.args.sum.x c.args.count c.args.here.in_box.x_fits c.requires.sum.x_fits c.requires.stays.x_fits c.coordinate.result c.coordinate.ensures)
    (moved_held c.args.here.y c.args.sum.y c.args.count c.args.here.in_box.y_fits c.requires.sum.y_fits c.requires.stays.y_fits c.coordinate-2.result c.coordinate-2.ensures)
    (moved_held c.args.here.z c.args.sum.z c.args.count c.args.here.in_box.z_fits c.requires.sum.z_fits c.requires.stays.z_fits c.coordinate-3.result c.coordinate-3.ensures)
