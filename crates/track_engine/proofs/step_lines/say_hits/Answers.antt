use Rattle.std.proofs.lemmas.Result.{err_from_is_err_and}
use Rattle.log_text.specs.declared.LogLine.TheVariants.{Hit}
use Rattle.log_write.proofs.SaidLines.{so_far_none}
use Rattle.track_engine.specs.Effects.{hit_lines}
use Rattle.track_engine.proofs.Saying.{lines_more, lines_part, lines_all}
use Rattle.track_engine.proofs.step_lines.say_hits.Goals as goal

pub loop-pair-init : goal.loop-pair-init
loop-pair-init g c = so_far_none _ (hit_lines c.args.pairs.now)

pub returns-in_err-tell : goal.returns-in_err-tell
returns-in_err-tell g c =
    let p = err_from_is_err_and c.from_residual.result c.from_residual.ensures.1 in
    rw (p.1, p.2) (lines_part (λ p. Hit p) _ _ _ c.args.pairs.now c.loop-pair.pair-index c.pair-item.result _ c.loop-pair-test.true c.pair-item.is _ c.loop-pair.invariant c.in_err-tell.ensures.says)

pub loop-pair-preserved : goal.loop-pair-preserved
loop-pair-preserved g c = lines_more (λ p. Hit p) _ _ _ c.args.pairs.now c.loop-pair.pair-index c.pair-item.result _ c.loop-pair-test.true c.pair-item.is _ c.loop-pair.invariant c.in_ok-tell.ensures.says

pub returns : goal.returns
returns g c = lines_all (λ p. Hit p) _ _ c.args.pairs.now c.loop-pair.pair-index _ c.loop-pair-test.false c.loop-pair.invariant
