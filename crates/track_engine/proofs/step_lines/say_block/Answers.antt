use Rattle.std.proofs.Common.{◌∷◌, []}
use Rattle.std.proofs.lemmas.Result.{err_from_is_err_and}
use Rattle.log_text.specs.declared.LogLine.TheVariants.{Block}
use Rattle.log_write.proofs.SaidLines.{says_nothing}
use Rattle.track_engine.proofs.step_lines.say_block.Goals as goal

pub returns-in_err-ids : goal.returns-in_err-ids
returns-in_err-ids g c =
    let p = err_from_is_err_and c.from_residual.result c.from_residual.ensures.1 in
    rw (p.1, p.2) (says_nothing (Block c.args.ids.now ∷ []) (g.O.Outside.around c.args.outside.now))
