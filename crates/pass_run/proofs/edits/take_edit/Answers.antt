use Rattle.std.proofs.Common.{refl}
use Rattle.std.proofs.lemmas.Result.{err_from_is_err_and}
use Rattle.outside_io.proofs.Outsides.{nothing_stopped, nothing_whole}
use Rattle.pass_run.specs.Results.{exact_answer}
use Rattle.pass_run.proofs.Edited.{part_here, said_here, stopped_behind}
use Rattle.pass_run.proofs.Stages.{wanting}
use Rattle.pass_run.proofs.edits.take_edit.Goals as goal

pub returns-in_err-line-clause-takes : goal.returns-in_err-line-clause-takes
returns-in_err-line-clause-takes g c =
    let p = err_from_is_err_and c.from_residual.result c.from_residual.ensures.1 in
    rw (p.1, p.2) (wanting _ _ _ c.in_err-line.ensures.left refl c.in_err-line.ensures.closed c.in_err-line.ensures.clear c.in_err-line.ensures.marks)

pub returns-in_err-tell-clause-takes : goal.returns-in_err-tell-clause-takes
returns-in_err-tell-clause-takes g c =
    let p = err_from_is_err_and c.from_residual-in_err-tell.result c.from_residual-in_err-tell.ensures.1 in
    let said = c.in_err-tell.ensures in
    let line = c.in_ok-line.ensures in
    rw (p.1, p.2) (part_here c.args.what.now (exact_answer c.args.depth (g.S.Surface.mesh c.args.mesh.now) c.args.what.now) c.in_ok-line.line _ _ _ line.line line.mesh said.part
    (record { closed = line.closed; clear = line.clear; marks = line.marks; nothing_stored = nothing_stopped _ _ _ said.says.nothing_stored }))

pub returns-in_err-push-clause-takes : goal.returns-in_err-push-clause-takes
returns-in_err-push-clause-takes g c =
    let p = err_from_is_err_and c.from_residual-in_err-push.result c.from_residual-in_err-push.ensures.1 in
    let said = c.in_ok-tell.ensures.says in
    let line = c.in_ok-line.ensures in
    rw (p.1, p.2) (stopped_behind _ _ _ c.count_of-count.result
    (said_here c.args.what.now (exact_answer c.args.depth (g.S.Surface.mesh c.args.mesh.now) c.args.what.now) c.in_ok-line.line _ _ c.count_of-count.result line.line line.mesh said.written c.count_of-count.ensures.done c.count_of-count.ensures.refused
    (record { closed = line.closed; clear = line.clear; marks = line.marks; nothing_stored = nothing_whole _ _ _ _ said.nothing_stored })))
