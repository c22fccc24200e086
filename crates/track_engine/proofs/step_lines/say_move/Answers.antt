use Rattle.std.proofs.Common.{sym}
use Rattle.track_engine.proofs.Saying.{none_said, move_said}
use Rattle.track_engine.proofs.step_lines.say_move.Goals as goal

pub returns-then-not-moves : goal.returns-then-not-moves
returns-then-not-moves g c = none_said _ c.args.s.now (sym c.if-not-moves.ensures)

pub returns : goal.returns
returns g c = move_said _ _ c.args.s.now c.tell.result (sym c.if-not-moves.ensures) c.tell.ensures.says
