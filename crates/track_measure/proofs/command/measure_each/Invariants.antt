use Rattle.std.proofs.Common.{length}
use Rattle.track_measure.proofs.Ends.{Measuring}
use Rattle.track_measure.proofs.command.measure_each.Given as goal

-- what the lines so far told is written
abbrev pub invariant-loop-line : goal.invariant-loop-line
invariant-loop-line g l = Measuring l.fn.run.replay.mesh l.fn.lines l.lines l.run l.shape l.number (g.O.Outside.around l.fn.outside) (g.O.Outside.around l.outside)

abbrev pub decreases-loop-line : goal.decreases-loop-line
decreases-loop-line g l = length l.lines
