use Rattle.std.proofs.lemmas.Result.{err_from_is_err_and}
use Rattle.track_engine.specs.Answered.{known}
use Rattle.track_engine.specs.Targets.{target_of}
use Rattle.track_run.proofs.TopLemmas.{tested_meets, tested_nothing}
use Rattle.track_run.proofs.top.test_and_begin.Goals as goal

pub returns-in_err-first_meeting-clause-follows : goal.returns-in_err-first_meeting-clause-follows
returns-in_err-first_meeting-clause-follows g c =
    let p = err_from_is_err_and c.from_residual.result c.from_residual.ensures.1 in
    rw p.1 (tested_nothing (known g.F.Fn c.args.terms.now.fields.now g.G.Fn c.args.terms.now.sizing.now) (target_of c.args.terms.now.to) (g.S.Surface.mesh c.args.mesh) c.args.steps.now _ p.0)

pub returns-in-Some-clause-follows : goal.returns-in-Some-clause-follows
returns-in-Some-clause-follows g c =
    tested_meets (known g.F.Fn c.args.terms.now.fields.now g.G.Fn c.args.terms.now.sizing.now) (target_of c.args.terms.now.to) (g.S.Surface.mesh c.args.mesh) c.args.steps.now _ _ c.in-Some.pair c.finish.result
    c.in_ok-first_meeting.field-0 c.in_ok-first_meeting.ensures.first c.in-Some.is c.finish.ensures.says c.finish.ensures.part c.finish.ensures.ending
