use Rattle.std.proofs.Common.{Ok, Err, refl, ap, ◌∙◌, arith}
use Rattle.std.proofs.lemmas.Result.{err_from_is_err_and}
use Rattle.track_log.proofs.ToldTexts.{tells_whole, tells_stopped}
use Rattle.track_measure.specs.MeasureLines.{shape_of}
use Rattle.track_measure.proofs.Ends.{told_since, measuring_none, measured_nothing, unspent, few, forgotten_here, stops_here, refused_here, more_here, no_line_here, end_told}
use Rattle.track_measure.proofs.command.measure_each.Goals as goal

pub returns-in_err-shape : goal.returns-in_err-shape
returns-in_err-shape g c =
    let p = err_from_is_err_and c.from_residual.result c.from_residual.ensures.1 in
    rw (p.1, p.2) (measured_nothing c.args.run.now.replay.mesh c.args.lines.now (g.O.Outside.around c.args.outside.now))

pub returns-in_err-line : goal.returns-in_err-line
returns-in_err-line g c =
    let p = err_from_is_err_and c.from_residual-in_err-line.result c.from_residual-in_err-line.ensures.1 in
    rw (p.1, p.2) (forgotten_here c.args.run.now.replay.mesh c.args.lines.now c.loop-line.lines c.loop-line.run c.loop-line.shape c.loop-line.number
    (g.O.Outside.around c.args.outside.now) (g.O.Outside.around c.loop-line.outside) c.loop-line.invariant)

pub loop-line-init : goal.loop-line-init
loop-line-init g c =
    measuring_none c.args.run.now.replay.mesh c.args.lines.now c.args.run.now c.in_ok-shape.shape (g.O.Outside.around c.args.outside.now) c.requires.fresh c.requires.valid
    (c.in_ok-shape.ensures ∙ ap shape_of c.mesh.ensures)

pub overflow_add-number : goal.overflow_add-number
overflow_add-number g c = omega (arith, few _ _ _ _ _ _ _ _ c.loop-line.invariant, c.requires.few)

pub measure_line-requires-clause-unspent : goal.measure_line-requires-clause-unspent
measure_line-requires-clause-unspent g c = unspent _ _ _ _ _ _ _ _ c.loop-line.invariant

pub measure_line-requires-clause-valid : goal.measure_line-requires-clause-valid
measure_line-requires-clause-valid g c = c.loop-line.invariant.valid

pub measure_line-requires-clause-shape : goal.measure_line-requires-clause-shape
measure_line-requires-clause-shape g c = c.loop-line.invariant.shape_is

pub returns-in_err-fits : goal.returns-in_err-fits
returns-in_err-fits g c =
    let p = err_from_is_err_and c.from_residual-in_err-fits.result c.from_residual-in_err-fits.ensures.1 in
    rw (p.1, p.2) (stops_here c.args.run.now.replay.mesh c.args.lines.now c.loop-line.lines c.loop-line.run c.loop-line.shape c.loop-line.number
    (g.O.Outside.around c.args.outside.now) (g.O.Outside.around c.loop-line.outside) c.loop-line.invariant c.in-Some.line c.take_first.new.self (rw c.in-Some.is at c.in_ok-line.ensures) (g.O.Outside.around c.measure_line.new.outside) _ (told_since _ c.loop-line.run c.in-Some.line (g.O.Outside.around c.loop-line.outside) (g.O.Outside.around c.hear.new.self) (g.O.Outside.around c.measure_line.new.outside) _ c.hear.ensures c.in_err-fits.ensures.measures))

pub returns-then-not-fits : goal.returns-then-not-fits
returns-then-not-fits g c =
    refused_here c.args.run.now.replay.mesh c.args.lines.now c.loop-line.lines c.loop-line.run c.loop-line.shape c.loop-line.number
    (g.O.Outside.around c.args.outside.now) (g.O.Outside.around c.loop-line.outside) c.loop-line.invariant c.in-Some.line c.take_first.new.self (rw c.in-Some.is at c.in_ok-line.ensures) (g.O.Outside.around c.measure_line.new.outside) c.in_ok-fits.fits c.if-not-fits.true (told_since _ c.loop-line.run c.in-Some.line (g.O.Outside.around c.loop-line.outside) (g.O.Outside.around c.hear.new.self) (g.O.Outside.around c.measure_line.new.outside) _ c.hear.ensures c.in_ok-fits.ensures.measures)
    (g.O.Outside.around c.refuse.new.outside) c.refuse.result c.refuse.ensures.tells c.refuse.ensures.ending

pub loop-line-preserved : goal.loop-line-preserved
loop-line-preserved g c =
    let yes = c.if-not-fits.false in
    more_here c.args.run.now.replay.mesh c.args.lines.now c.loop-line.lines c.loop-line.run c.loop-line.shape c.loop-line.number
    (g.O.Outside.around c.args.outside.now) (g.O.Outside.around c.loop-line.outside) c.loop-line.invariant c.in-Some.line c.take_first.new.self (rw c.in-Some.is at c.in_ok-line.ensures) (g.O.Outside.around c.measure_line.new.outside) c.in_ok-fits.fits yes (told_since _ c.loop-line.run c.in-Some.line (g.O.Outside.around c.loop-line.outside) (g.O.Outside.around c.hear.new.self) (g.O.Outside.around c.measure_line.new.outside) _ c.hear.ensures c.in_ok-fits.ensures.measures)
    c.measure_line.new.run c.measure_line.new.shape (c.in_ok-fits.ensures.taken (ap Ok yes)) (c.in_ok-fits.ensures.valid (ap Ok yes)) (c.in_ok-fits.ensures.shape (ap Ok yes))

pub returns-then-number-eq0 : goal.returns-then-number-eq0
returns-then-number-eq0 g c =
    no_line_here c.args.run.now.replay.mesh c.args.lines.now c.loop-line.lines c.loop-line.run c.loop-line.shape c.loop-line.number
    (g.O.Outside.around c.args.outside.now) (g.O.Outside.around c.loop-line.outside) c.loop-line.invariant (rw c.in_default.is at c.in_ok-line.ensures).0 (g.O.Outside.around c.refuse-then-number-eq0.new.outside) c.if-number-eq0.true c.refuse-then-number-eq0.result c.refuse-then-number-eq0.ensures.tells c.refuse-then-number-eq0.ensures.ending

pub returns-in_err-tell : goal.returns-in_err-tell
returns-in_err-tell g c =
    let p = err_from_is_err_and c.from_residual-in_err-tell.result c.from_residual-in_err-tell.ensures.1 in
    rw (p.1, p.2) (end_told c.args.run.now.replay.mesh c.args.lines.now c.loop-line.lines c.loop-line.run c.loop-line.shape c.loop-line.number
    (g.O.Outside.around c.args.outside.now) (g.O.Outside.around c.loop-line.outside) c.loop-line.invariant (rw c.in_default.is at c.in_ok-line.ensures).0 (g.O.Outside.around c.tell.new.outside) c.if-number-eq0.false (Err _) (tells_stopped _ _ _ _ c.in_err-tell.ensures) tt)

pub returns : goal.returns
returns g c =
    end_told c.args.run.now.replay.mesh c.args.lines.now c.loop-line.lines c.loop-line.run c.loop-line.shape c.loop-line.number
    (g.O.Outside.around c.args.outside.now) (g.O.Outside.around c.loop-line.outside) c.loop-line.invariant (rw c.in_default.is at c.in_ok-line.ensures).0 (g.O.Outside.around c.tell.new.outside) c.if-number-eq0.false _ (tells_whole _ _ _ _ _ c.in_ok-tell.ensures) refl
