use Rattle.std.proofs.Common.{◌≡◌, length}
use Rattle.track_prove.proofs.VerifiedLines.{Verifying}
use Rattle.track_prove.proofs.verify_command.verify_each.Given as goal

-- the lines so far stand, each by its certificate, and the others are left; and outside nothing has changed
abbrev pub invariant-loop-line : goal.invariant-loop-line
invariant-loop-line g l = (Verifying l.fn.run.replay.mesh l.fn.lines l.fn.due l.lines l.run l.number l.motions l.due) × (g.O.Outside.around l.outside ≡ g.O.Outside.around l.fn.outside)

abbrev pub decreases-loop-line : goal.decreases-loop-line
decreases-loop-line g l = length l.lines
