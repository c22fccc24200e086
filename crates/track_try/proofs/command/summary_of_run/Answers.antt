use Rattle.track_try.proofs.OfCubes.{good_mesh, good_steps, few_steps, other_steps, summed}
use Rattle.track_try.proofs.command.summary_of_run.Goals as goal

pub run-requires-clause-good : goal.run-requires-clause-good
run-requires-clause-good g c = good_mesh c.args.n (g.S.Surface.mesh c.args.mesh) c.requires.row c.requires.mesh

pub run-requires-clause-ranges : goal.run-requires-clause-ranges
run-requires-clause-ranges g c = good_steps c.args.n c.args.key c.args.steps.now c.requires.row c.requires.steps

pub run-requires-clause-count : goal.run-requires-clause-count
run-requires-clause-count g c = few_steps c.args.n c.args.key c.args.steps.now c.requires.row c.requires.steps

pub run-requires-clause-none_fits : goal.run-requires-clause-none_fits
run-requires-clause-none_fits g c = other_steps c.args.n c.args.key c.args.steps.now c.requires.steps

pub returns : goal.returns
returns g c = summed c.args.n c.args.key _ _ _ _ c.summary_bytes.result c.requires.mesh c.requires.steps c.in_ok-engine.ensures c.summary_bytes.ensures
