use Rattle.std.proofs.Common.{subst}
use Rattle.std.proofs.lemmas.Result.{err_from_is_err_and}
use Rattle.track_input.specs.Named.{log_names}
use Rattle.track_log.specs.Preparing.{IsPrepared}
use Rattle.track_measure.proofs.Whole.{measures_stopped, measures_refused, measures_taken}
use Rattle.track_measure.proofs.command.measure.Goals as goal

pub returns-in_err-why-clause-headline : goal.returns-in_err-why-clause-headline
returns-in_err-why-clause-headline g c =
    let p = err_from_is_err_and c.from_residual.result c.from_residual.ensures.1 in
    rw (p.1, p.2) (measures_stopped (log_names c.args.files) (g.O.Outside.around c.args.outside.now) (g.O.Outside.around c.prepare_log.new.outside) _ c.in_err-why.ensures.looks)

pub returns-in-No-clause-headline : goal.returns-in-No-clause-headline
returns-in-No-clause-headline g c =
    measures_refused (log_names c.args.files) (g.O.Outside.around c.args.outside.now) (g.O.Outside.around c.prepare_log.new.outside) (g.O.Outside.around c.refuse.new.outside) _ c.in_ok-why.ensures.looks c.in_ok-why.field-0 c.in_ok-why.ensures.prepares c.refuse.result
    c.in-No.why c.in-No.is c.refuse.ensures.tells c.refuse.ensures.ending

pub measure_lines-requires-clause-valid : goal.measure_lines-requires-clause-valid
measure_lines-requires-clause-valid g c = (subst IsPrepared c.in-Yes.is c.in_ok-why.ensures.prepares.ready).0

pub measure_lines-requires-clause-few : goal.measure_lines-requires-clause-few
measure_lines-requires-clause-few g c = (subst IsPrepared c.in-Yes.is c.in_ok-why.ensures.prepares.ready).1

pub returns-in-Yes-clause-headline : goal.returns-in-Yes-clause-headline
returns-in-Yes-clause-headline g c =
    measures_taken (log_names c.args.files) (g.O.Outside.around c.args.outside.now) (g.O.Outside.around c.prepare_log.new.outside) (g.O.Outside.around c.measure_lines.new.outside) _ c.in_ok-why.ensures.looks c.in_ok-why.field-0 c.in_ok-why.ensures.prepares c.measure_lines.result
    c.in-Yes.mesh c.in-Yes.lines c.in-Yes.is c.measure_lines.ensures
