use Rattle.std.proofs.Common.{List, ℕ, [], ◌∷◌, Ok, Err, subst}
use Rattle.std.proofs.lemmas.Result.{err_from_is_err_and}
use Rattle.log_text.specs.declared.LogLine.TheVariants.{Block}
use Rattle.log_write.specs.Written.{Says}
use Rattle.log_write.proofs.SaidLines.{so_far_none}
use Rattle.track_engine.specs.Effects.{block_lines}
use Rattle.track_engine.proofs.Saying.{lines_more, lines_part, lines_all}
use Rattle.track_engine.proofs.step_lines.say_blocks.Goals as goal

pub loop-block-init : goal.loop-block-init
loop-block-init g c = so_far_none _ (block_lines c.args.blocks.now)

pub returns-in_err-say_block : goal.returns-in_err-say_block
returns-in_err-say_block g c =
    let p = err_from_is_err_and c.from_residual.result c.from_residual.ensures.1 in
    let P : List ℕ → Type 0 = λ ids. Says {T = Unit {0}} (Block ids ∷ []) (g.O.Outside.around c.loop-block.outside) (g.O.Outside.around c.say_block.new.outside) (Err c.in_err-say_block.field-0.0) in
    rw (p.1, p.2) (lines_part (λ ids. Block ids) _ _ _ c.args.blocks.now c.loop-block.block-index c.block-item.result _ c.loop-block-test.true c.block-item.is _ c.loop-block.invariant (subst P c.as_slice.ensures c.in_err-say_block.ensures))

pub loop-block-preserved : goal.loop-block-preserved
loop-block-preserved g c =
    let P : List ℕ → Type 0 = λ ids. Says {T = Unit {0}} (Block ids ∷ []) (g.O.Outside.around c.loop-block.outside) (g.O.Outside.around c.say_block.new.outside) (Ok c.in_ok-say_block.field-0) in
    lines_more (λ ids. Block ids) _ _ _ c.args.blocks.now c.loop-block.block-index c.block-item.result _ c.loop-block-test.true c.block-item.is _ c.loop-block.invariant (subst P c.as_slice.ensures c.in_ok-say_block.ensures)

pub returns : goal.returns
returns g c = lines_all (λ ids. Block ids) _ _ c.args.blocks.now c.loop-block.block-index _ c.loop-block-test.false c.loop-block.invariant
