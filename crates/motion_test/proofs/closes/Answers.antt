use Rattle.grid_base.proofs.SeparationLaws.{Closes-never_meet}
use Rattle.motion_test.specs.Pairs.{positions_of}
use Rattle.motion_test.proofs.closes.Goals as goal

pub opens_at-requires-clause-s_fits : goal.opens_at-requires-clause-s_fits
opens_at-requires-clause-s_fits c = rw c.positions.ensures c.requires.end_fits

pub opens_at-requires-clause-t_fits : goal.opens_at-requires-clause-t_fits
opens_at-requires-clause-t_fits c = rw c.positions-2.ensures c.requires.start_fits

pub returns-clause-clear : goal.returns-clause-clear
returns-clause-clear c =
    let exact = rw (c.positions.ensures, c.positions-2.ensures) at c.opens_at.ensures in
    λ yes. Closes-never_meet c.args.depth (positions_of c.args.p.now.start) (positions_of c.args.p.now.end) (exact.0 yes)
