use Rattle.grid_base.proofs.MeetingLaws.{same_triple}
use Rattle.edit_pinch.proofs.Casts.{added_held}
use Rattle.edit_pinch.proofs.copy_points.with_way.Goals as goal

pub returns-clause-value : goal.returns-clause-value
returns-clause-value c =
    same_triple _ _
    (added_held c.args.sum.x c.args.from.x c.args.to.x c.sum_with.result c.requires.x_fits c.args.from.in_box.x_fits c.args.to.in_box.x_fits c.sum_with.ensures.value c.sum_with.ensures.within)
    (added_held c.args.sum.y c.args.from.y c.args.to.y c.sum_with-2.result c.requires.y_fits c.args.from.in_box.y_fits c.args.to.in_box.y_fits c.sum_with-2.ensures.value c.sum_with-2.ensures.within)
    (added_held c.args.sum.z c.args.from.z c.args.to.z c.sum_with-3.result c.requires.z_fits c.args.from.in_box.z_fits c.args.to.in_box.z_fits c.sum_with-3.ensures.value c.sum_with-3.ensures.within)
