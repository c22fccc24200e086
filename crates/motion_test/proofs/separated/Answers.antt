use Rattle.grid_base.proofs.SeparationLaws.{AreSeparated-never_meet}
use Rattle.motion_test.specs.Pairs.{positions_of}
use Rattle.motion_test.proofs.separated.Goals as goal

pub separated_at-requires-clause-s_fits : goal.separated_at-requires-clause-s_fits
separated_at-requires-clause-s_fits c = rw c.positions.ensures c.requires.start_fits

pub separated_at-requires-clause-t_fits : goal.separated_at-requires-clause-t_fits
separated_at-requires-clause-t_fits c = rw c.positions-2.ensures c.requires.end_fits

pub returns-clause-clear : goal.returns-clause-clear
returns-clause-clear c =
    let exact = rw (c.positions.ensures, c.positions-2.ensures) at c.separated_at.ensures in
    λ yes. AreSeparated-never_meet c.args.depth (positions_of c.args.p.now.start) (positions_of c.args.p.now.end) (exact.0 yes)
