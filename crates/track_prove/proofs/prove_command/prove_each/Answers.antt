use Rattle.std.proofs.Common.{◌∙◌, ap, refl, arith, Ok}
use Rattle.track_prove.specs.declared.report.Report.TheVariants.{Text}
use Rattle.track_prove.proofs.ProvedLines.{proving_none, proving_unspent, proving_few, proving_unfit, proving_bad, proving_more, proving_no_line, proving_done}
use Rattle.track_prove.proofs.prove_command.prove_each.Goals as goal

pub loop-line-init : goal.loop-line-init
loop-line-init g c = (
  proving_none c.args.run.now.replay.mesh c.args.lines.now c.args.run.now c.args.proofs.now c.requires.fresh c.requires.valid c.requires.none,
  refl,
)

pub overflow_add-number : goal.overflow_add-number
overflow_add-number g c = omega (arith, proving_few _ _ _ _ _ _ c.loop-line.invariant.0, c.requires.few)

pub prove_line-requires-clause-unspent : goal.prove_line-requires-clause-unspent
prove_line-requires-clause-unspent g c = proving_unspent _ _ _ _ _ _ c.loop-line.invariant.0

pub prove_line-requires-clause-valid : goal.prove_line-requires-clause-valid
prove_line-requires-clause-valid g c = c.loop-line.invariant.0.judging.valid

pub returns-in-Unfit-clause-proves : goal.returns-in-Unfit-clause-proves
returns-in-Unfit-clause-proves g c =
    proving_unfit c.args.run.now.replay.mesh c.args.lines.now c.loop-line.lines c.in-Some.line c.take_first.new.self (rw c.in-Some.is at c.in_ok-line.ensures) c.loop-line.run c.loop-line.number c.loop-line.proofs c.loop-line.invariant.0
    c.in_ok-outcome.outcome c.in_ok-outcome.ensures.told c.in-Unfit.is

pub returns-in-Bad-clause-proves : goal.returns-in-Bad-clause-proves
returns-in-Bad-clause-proves g c =
    proving_bad c.args.run.now.replay.mesh c.args.lines.now c.loop-line.lines c.in-Some.line c.take_first.new.self (rw c.in-Some.is at c.in_ok-line.ensures) c.loop-line.run c.loop-line.number c.loop-line.proofs c.loop-line.invariant.0
    c.in_ok-outcome.outcome c.in_ok-outcome.ensures.told c.in-Bad.verdict c.in-Bad.is

pub loop-line-preserved : goal.loop-line-preserved
loop-line-preserved g c = (
  proving_more c.args.run.now.replay.mesh c.args.lines.now c.loop-line.lines c.in-Some.line c.take_first.new.self (rw c.in-Some.is at c.in_ok-line.ensures) c.loop-line.run c.loop-line.number c.loop-line.proofs c.loop-line.invariant.0
      c.in_ok-outcome.outcome c.in_ok-outcome.ensures.told c.in-Fits.is c.prove_line.new.run c.prove_line.new.proofs (c.in_ok-outcome.ensures.goes (ap Ok c.in-Fits.is)) (c.in_ok-outcome.ensures.proofs (ap Ok c.in-Fits.is)),
  c.hear.ensures ∙ c.loop-line.invariant.1,
)

pub returns-then-number-eq0-clause-proves : goal.returns-then-number-eq0-clause-proves
returns-then-number-eq0-clause-proves g c = proving_no_line c.args.run.now.replay.mesh c.args.lines.now c.loop-line.lines (rw c.in_default.is at c.in_ok-line.ensures).0 c.loop-line.run c.loop-line.number c.loop-line.proofs c.loop-line.invariant.0 c.if-number-eq0.true

pub returns-clause-proves : goal.returns-clause-proves
returns-clause-proves g c = proving_done c.args.run.now.replay.mesh c.args.lines.now c.loop-line.lines (rw c.in_default.is at c.in_ok-line.ensures).0 c.loop-line.run c.loop-line.number c.loop-line.proofs c.loop-line.invariant.0 c.if-number-eq0.false (Text c.in_ok-text.text) c.in_ok-text.ensures
