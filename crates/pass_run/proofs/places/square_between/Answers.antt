use Rattle.pass_run.proofs.Placing.{square_read, square_by_axes}
use Rattle.pass_run.proofs.places.square_between.Goals as goal

pub returns : goal.returns
returns c =
    let p = c.args.p in
    let q = c.args.q in
    square_by_axes p q _ _ _
    (square_read p.x q.x _ p.in_box.x_fits q.in_box.x_fits c.square_along.ensures.value)
    (square_read p.y q.y _ p.in_box.y_fits q.in_box.y_fits c.square_along-2.ensures.value)
    (square_read p.z q.z _ p.in_box.z_fits q.in_box.z_fits c.square_along-3.ensures.value)
