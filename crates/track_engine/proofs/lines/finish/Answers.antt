use Rattle.std.proofs.Common.{◌∷◌, []}
use Rattle.std.proofs.lemmas.Result.{err_from_is_err_and}
use Rattle.log_write.proofs.SaidLines.{says_stopped, says_whole}
use Rattle.track_engine.proofs.lines.finish.Goals as goal

pub returns-in_err-tell-clause-says : goal.returns-in_err-tell-clause-says
returns-in_err-tell-clause-says g c =
    let p = err_from_is_err_and c.from_residual.result c.from_residual.ensures.1 in
    rw (p.1, p.2) (says_stopped (c.args.last ∷ []) _ _ _ c.in_err-tell.ensures.says)

pub returns-in_err-tell-clause-part : goal.returns-in_err-tell-clause-part
returns-in_err-tell-clause-part g c =
    let p = err_from_is_err_and c.from_residual.result c.from_residual.ensures.1 in
    rw p.1 c.in_err-tell.ensures.part

pub returns-clause-says : goal.returns-clause-says
returns-clause-says g c = says_whole (c.args.last ∷ []) _ _ _ _ c.in_ok-tell.ensures.says
