use Rattle.cell_grid.proofs.Shared.{place_along-mono}
use Rattle.cell_grid.proofs.cells.places.span_of.Goals as goal

pub span_between-requires-clause-y_order : goal.span_between-requires-clause-y_order
span_between-requires-clause-y_order c =
    let e = c.args.at.now in let o = e.ordered in
    rw (c.lowest-first.ensures, c.highest-last.ensures) (place_along-mono c.args.cell e.low.y e.high.y c.requires o.low_fits.y_fits o.high_fits.y_fits o.y_order)

pub span_between-requires-clause-z_order : goal.span_between-requires-clause-z_order
span_between-requires-clause-z_order c =
    let e = c.args.at.now in let o = e.ordered in
    rw (c.lowest-first.ensures, c.highest-last.ensures) (place_along-mono c.args.cell e.low.z e.high.z c.requires o.low_fits.z_fits o.high_fits.z_fits o.z_order)
