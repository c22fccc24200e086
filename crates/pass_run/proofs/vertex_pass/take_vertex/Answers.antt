use Rattle.std.proofs.Common.{refl}
use Rattle.std.proofs.lemmas.Result.{err_from_is_err_and}
use Rattle.edit_base.specs.declared.Asked.TheVariants as asked
use Rattle.pass_run.proofs.AskedTurns.{turn_asked}
use Rattle.pass_run.proofs.Stages.{nothing_yet}
use Rattle.pass_run.proofs.vertex_pass.take_vertex.Goals as goal

pub returns-in_err-call-clause-takes : goal.returns-in_err-call-clause-takes
returns-in_err-call-clause-takes g c =
    let p = err_from_is_err_and c.from_residual.result c.from_residual.ensures.1 in
    rw (p.1, p.2) (nothing_yet _ _ c.requires.closed c.requires.clear)

pub returns-clause-takes : goal.returns-clause-takes
returns-clause-takes g c = turn_asked c.args.terms (asked.Pinch c.args.v) _ _ _ (asked.Pinch c.args.v) c.in_ok-call.call refl c.in_ok-call.ensures c.take_one.ensures.takes
