use Rattle.std.proofs.Common.{◌≡◌, Some, refl}
use Rattle.std.proofs.lemmas.Result.{err_from_is_err_and}
use Rattle.outside_io.proofs.Outsides.{nothing_stopped, nothing_whole}
use Rattle.pass_run.specs.Results.{exact_answer, line_asked}
use Rattle.pass_run.proofs.Calling.{one_asked, asked_leads}
use Rattle.pass_run.proofs.Stages.{wanting, one_said, one_in_part}
use Rattle.pass_run.proofs.passes.take_one.Goals as goal

pub returns-in_err-tell-in-Ok-Some-clause-takes : goal.returns-in_err-tell-in-Ok-Some-clause-takes
returns-in_err-tell-in-Ok-Some-clause-takes g c =
    let p = err_from_is_err_and c.from_residual.result c.from_residual.ensures.1 in
    let m = g.S.Surface.mesh c.args.mesh.now in
    let answer = exact_answer c.args.depth m in
    let is : line_asked answer c.args.call ≡ Some c.in-Ok-Some.line = (let e = c.in-Ok-Some.ensures.line in let f = c.in-Ok-Some.field-0-is in cc) in
    let one = one_asked answer c.args.call c.in-Ok-Some.line is in
    let leads = asked_leads answer m _ c.args.call c.in-Ok-Some.ensures.mesh in
    let said = c.in_err-tell-in-Ok-Some.ensures in
    rw (p.1, p.2) (one_in_part _ c.in-Ok-Some.line _ _ _ one leads said.part
    (record { closed = c.in-Ok-Some.ensures.closed; clear = c.in-Ok-Some.ensures.clear; marks = c.in-Ok-Some.ensures.marks; nothing_stored = nothing_stopped _ _ _ said.says.nothing_stored }))

pub returns-in_ok-tell-in-Ok-Some-clause-takes : goal.returns-in_ok-tell-in-Ok-Some-clause-takes
returns-in_ok-tell-in-Ok-Some-clause-takes g c =
    let m = g.S.Surface.mesh c.args.mesh.now in
    let answer = exact_answer c.args.depth m in
    let is : line_asked answer c.args.call ≡ Some c.in-Ok-Some.line = (let e = c.in-Ok-Some.ensures.line in let f = c.in-Ok-Some.field-0-is in cc) in
    let one = one_asked answer c.args.call c.in-Ok-Some.line is in
    let leads = asked_leads answer m _ c.args.call c.in-Ok-Some.ensures.mesh in
    let said = c.in_ok-tell-in-Ok-Some.ensures.says in
    one_said _ c.in-Ok-Some.line _ _ c.count_of.result one leads said.written c.count_of.ensures.done c.count_of.ensures.refused
    (record { closed = c.in-Ok-Some.ensures.closed; clear = c.in-Ok-Some.ensures.clear; marks = c.in-Ok-Some.ensures.marks; nothing_stored = nothing_whole _ _ _ _ said.nothing_stored })

pub returns-in-Err-clause-takes : goal.returns-in-Err-clause-takes
returns-in-Err-clause-takes g c = wanting _ _ _ c.in-Err.ensures.mesh refl c.in-Err.ensures.closed c.in-Err.ensures.clear c.in-Err.ensures.marks
