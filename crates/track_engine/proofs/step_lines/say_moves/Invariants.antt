use Rattle.std.proofs.Common.{drop}
use Rattle.track_engine.specs.Effects.{move_lines}
use Rattle.log_write.proofs.SaidLines.{SaysSoFar}
use Rattle.track_engine.proofs.step_lines.say_moves.Given as goal

-- some lines are told, and with those to come they are all
abbrev pub invariant-loop-s : goal.invariant-loop-s
invariant-loop-s g l = SaysSoFar (g.O.Outside.around l.fn.outside) (g.O.Outside.around l.outside) (move_lines (drop l.s-index l.asked)) (move_lines l.asked)
