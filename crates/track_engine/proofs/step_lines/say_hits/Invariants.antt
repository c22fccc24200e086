use Rattle.std.proofs.Common.{drop}
use Rattle.track_engine.specs.Effects.{hit_lines}
use Rattle.log_write.proofs.SaidLines.{SaysSoFar}
use Rattle.track_engine.proofs.step_lines.say_hits.Given as goal

-- some lines are told, and with those to come they are all
abbrev pub invariant-loop-pair : goal.invariant-loop-pair
invariant-loop-pair g l = SaysSoFar (g.O.Outside.around l.fn.outside) (g.O.Outside.around l.outside) (hit_lines (drop l.pair-index l.pairs)) (hit_lines l.pairs)
