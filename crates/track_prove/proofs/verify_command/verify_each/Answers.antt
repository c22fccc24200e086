use Rattle.std.proofs.Common.{◌∙◌, ap, refl, arith, Ok}
use Rattle.track_prove.proofs.VerifiedLines.{verifying_none, verifying_unspent, verifying_few, verifying_unfit, verifying_bad, verifying_count, verifying_more, verifying_no_line, verifying_beyond, verifying_end}
use Rattle.track_prove.proofs.verify_command.verify_each.Goals as goal

pub loop-line-init : goal.loop-line-init
loop-line-init g c = (
  verifying_none c.args.run.now.replay.mesh c.args.lines.now c.args.due.now c.args.run.now c.requires.fresh c.requires.valid c.requires.order,
  refl,
)

pub overflow_add-number : goal.overflow_add-number
overflow_add-number g c = omega (arith, verifying_few _ _ _ _ _ _ _ _ c.loop-line.invariant.0, c.requires.few)

pub verify_line-requires-clause-unspent : goal.verify_line-requires-clause-unspent
verify_line-requires-clause-unspent g c = verifying_unspent _ _ _ _ _ _ _ _ c.loop-line.invariant.0

pub verify_line-requires-clause-valid : goal.verify_line-requires-clause-valid
verify_line-requires-clause-valid g c = c.loop-line.invariant.0.judging.valid

pub returns-in-Unfit-clause-verifies : goal.returns-in-Unfit-clause-verifies
returns-in-Unfit-clause-verifies g c =
    verifying_unfit c.args.run.now.replay.mesh c.args.lines.now c.args.due.now c.loop-line.lines c.in-Some.line c.take_first.new.self (rw c.in-Some.is at c.in_ok-line.ensures) c.loop-line.run c.loop-line.number c.loop-line.motions c.loop-line.due c.loop-line.invariant.0
    c.in_ok-outcome.outcome c.in_ok-outcome.ensures.told c.in-Unfit.is

pub returns-in-Bad-clause-verifies : goal.returns-in-Bad-clause-verifies
returns-in-Bad-clause-verifies g c =
    verifying_bad c.args.run.now.replay.mesh c.args.lines.now c.args.due.now c.loop-line.lines c.in-Some.line c.take_first.new.self (rw c.in-Some.is at c.in_ok-line.ensures) c.loop-line.run c.loop-line.number c.loop-line.motions c.loop-line.due c.loop-line.invariant.0
    c.in_ok-outcome.outcome c.in_ok-outcome.ensures.told c.in-Bad.verdict c.in-Bad.is

pub overflow_add-motions : goal.overflow_add-motions
overflow_add-motions g c =
    omega (
      arith,
      verifying_count c.args.run.now.replay.mesh c.args.lines.now c.args.due.now c.loop-line.lines c.in-Some.line c.take_first.new.self (rw c.in-Some.is at c.in_ok-line.ensures) c.loop-line.run c.loop-line.number c.loop-line.motions c.loop-line.due c.loop-line.invariant.0
          c.in_ok-outcome.outcome c.in_ok-outcome.ensures.told c.pass.new.self c.in_ok-motions.field-0 c.in_ok-motions.ensures,
      verifying_few _ _ _ _ _ _ _ _ c.loop-line.invariant.0,
      c.requires.few,
    )

pub loop-line-preserved : goal.loop-line-preserved
loop-line-preserved g c = (
  verifying_more c.args.run.now.replay.mesh c.args.lines.now c.args.due.now c.loop-line.lines c.in-Some.line c.take_first.new.self (rw c.in-Some.is at c.in_ok-line.ensures) c.loop-line.run c.loop-line.number c.loop-line.motions c.loop-line.due c.loop-line.invariant.0
      c.in_ok-outcome.outcome c.in_ok-outcome.ensures.told c.in-Fits.is c.verify_line.new.run c.pass.new.self c.in_ok-motions.field-0 (c.in_ok-outcome.ensures.goes (ap Ok c.in-Fits.is)) c.in_ok-motions.ensures,
  c.hear.ensures ∙ c.loop-line.invariant.1,
)

pub returns-then-number-eq0-clause-verifies : goal.returns-then-number-eq0-clause-verifies
returns-then-number-eq0-clause-verifies g c = verifying_no_line c.args.run.now.replay.mesh c.args.lines.now c.args.due.now c.loop-line.lines (rw c.in_default.is at c.in_ok-line.ensures).0 c.loop-line.run c.loop-line.number c.loop-line.motions c.loop-line.due c.loop-line.invariant.0 c.if-number-eq0.true

pub returns-in-Some-first_line-clause-verifies : goal.returns-in-Some-first_line-clause-verifies
returns-in-Some-first_line-clause-verifies g c = verifying_beyond c.args.run.now.replay.mesh c.args.lines.now c.args.due.now c.loop-line.lines (rw c.in_default.is at c.in_ok-line.ensures).0 c.loop-line.run c.loop-line.number c.loop-line.motions c.loop-line.due c.loop-line.invariant.0 c.if-number-eq0.false c.in-Some-first_line.line c.in-Some-first_line.ensures

pub returns-in-None-clause-verifies : goal.returns-in-None-clause-verifies
returns-in-None-clause-verifies g c =
    verifying_end c.args.run.now.replay.mesh c.args.lines.now c.args.due.now c.loop-line.lines (rw c.in_default.is at c.in_ok-line.ensures).0 c.loop-line.run c.loop-line.number c.loop-line.motions c.loop-line.due c.loop-line.invariant.0 c.if-number-eq0.false
    c.in-None.ensures c.verified_report.result c.verified_report.ensures
