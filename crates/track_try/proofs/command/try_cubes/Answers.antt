use Rattle.std.proofs.lemmas.Result.{err_from_is_err_and}
use Rattle.track_try.proofs.OfCubes.{nothing_of_summary, put_quietly}
use Rattle.track_try.proofs.command.try_cubes.Goals as goal

pub returns-in_err-text-clause-stopped : goal.returns-in_err-text-clause-stopped
returns-in_err-text-clause-stopped g c =
    let p = err_from_is_err_and c.from_residual.result c.from_residual.ensures.1 in
    rw p.1 (nothing_of_summary c.args.n c.args.key (g.O.Outside.around c.args.outside.now).world.holds.written)

pub returns-clause-quiet : goal.returns-clause-quiet
returns-clause-quiet g c = put_quietly _ _ _ c.put.result c.put.ensures
