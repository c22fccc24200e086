use Rattle.std.proofs.Common.{◌≡◌, length}
use Rattle.track_prove.proofs.ProvedLines.{Proving}
use Rattle.track_prove.proofs.prove_command.prove_each.Given as goal

-- the lines so far stand, and each of their motions has its certificate; and outside nothing has changed
abbrev pub invariant-loop-line : goal.invariant-loop-line
invariant-loop-line g l = (Proving l.fn.run.replay.mesh l.fn.lines l.lines l.run l.number l.proofs) × (g.O.Outside.around l.outside ≡ g.O.Outside.around l.fn.outside)

abbrev pub decreases-loop-line : goal.decreases-loop-line
decreases-loop-line g l = length l.lines
