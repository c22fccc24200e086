use Rattle.std.proofs.Common.{drop}
use Rattle.track_held.specs.Heads.{solid_lines}
use Rattle.log_write.proofs.SaidLines.{SaysSoFar}
use Rattle.track_held.proofs.log_head.tell_solids.Given as goal

-- some lines are told, and with those to come they are all
abbrev pub invariant-loop-v : goal.invariant-loop-v
invariant-loop-v g l = SaysSoFar (g.O.Outside.around l.fn.outside) (g.O.Outside.around l.outside) (solid_lines (drop l.v-index l.vertices)) (solid_lines l.vertices)
