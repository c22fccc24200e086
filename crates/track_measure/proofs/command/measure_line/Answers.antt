use Rattle.std.proofs.Common.{Ok, ap}
use Rattle.std.proofs.lemmas.Result.{err_from_is_err_and}
use Rattle.track_measure.proofs.LinesTold.{line_part}
use Rattle.track_measure.proofs.command.measure_line.Goals as goal

pub returns-in_err-tell_line-clause-measures : goal.returns-in_err-tell_line-clause-measures
returns-in_err-tell_line-clause-measures g c =
    let p = err_from_is_err_and c.from_residual-in_err-tell_line.result c.from_residual-in_err-tell_line.ensures.1 in
    let yes = c.if-not-branch.false in
    rw (p.1, p.2) (line_part c.args.number c.args.run.now c.args.line.now c.in_ok-take_tested.field-0 c.in_ok-take_tested.ensures.fits yes c.take_tested.new.run (c.in_ok-take_tested.ensures.taken (ap Ok yes)) c.args.shape.now c.requires.shape
    (g.O.Outside.around c.args.outside.now) (g.O.Outside.around c.tell_line.new.outside) _ c.in_err-tell_line.ensures)
