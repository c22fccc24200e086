use Rattle.std.proofs.Common.{Ok, ap}
use Rattle.track_prove.proofs.Lines.{may_be_tried, went, fits_true}
use Rattle.track_prove.proofs.taken_lines.take_clear.Goals as goal

pub take-requires-clause-tried : goal.take-requires-clause-tried
take-requires-clause-tried c = may_be_tried c.args.run.now c.args.line.now c.requires.valid

pub returns-then-branch-clause-goes : goal.returns-then-branch-clause-goes
returns-then-branch-clause-goes c = λ e.
    let fits = fits_true c.args.run.now c.args.line.now c.in_ok-take.field-0 c.in_ok-take.ensures.fits c.if-branch.true in
    went c.fitting_lines_are_safe.ensures.line c.clear_motions_are_clear_steps.ensures c.args.run.now c.args.line.now c.take.new.self c.requires.valid fits (c.requires.clear.clear fits) (c.in_ok-take.ensures.taken (ap Ok c.if-branch.true))
