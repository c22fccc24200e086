use Rattle.std.proofs.lemmas.Result.{IfOk-weaker}
use Rattle.pair_paths.proofs.Listed.{listed_known}
use Rattle.pair_paths.proofs.known.paths_of.Goals as goal

pub returns-clause-known : goal.returns-clause-known
returns-clause-known g c = IfOk-weaker c.paths_among.result _ _ (listed_known (g.P.Paths.motion c.args.paths.now) c.as_slice.result.now) c.paths_among.ensures
