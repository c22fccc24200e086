use Rattle.std.proofs.lemmas.Result.{err_from_is_err_and}
use Rattle.log_write.proofs.SaidLines.{so_far_none}
use Rattle.track_engine.specs.Effects.{move_lines}
use Rattle.track_engine.proofs.Saying.{moves_more, moves_part, moves_all}
use Rattle.track_engine.proofs.step_lines.say_moves.Goals as goal

pub loop-s-init : goal.loop-s-init
loop-s-init g c = so_far_none _ (move_lines c.args.asked.now)

pub returns-in_err-say_move : goal.returns-in_err-say_move
returns-in_err-say_move g c =
    let p = err_from_is_err_and c.from_residual.result c.from_residual.ensures.1 in
    rw (p.1, p.2) (moves_part _ _ _ c.args.asked.now c.loop-s.s-index c.s-item.result _ c.loop-s-test.true c.s-item.is _ c.loop-s.invariant c.in_err-say_move.ensures)

pub loop-s-preserved : goal.loop-s-preserved
loop-s-preserved g c = moves_more _ _ _ c.args.asked.now c.loop-s.s-index c.s-item.result _ c.loop-s-test.true c.s-item.is _ c.loop-s.invariant c.in_ok-say_move.ensures

pub returns : goal.returns
returns g c = moves_all _ _ c.args.asked.now c.loop-s.s-index _ c.loop-s-test.false c.loop-s.invariant
