use Rattle.std.proofs.Common.{◌≡◌, length}
use Rattle.edit_collapse.specs.Tried.{cancelled_in}
use Rattle.edit_collapse.proofs.cancellation.cancel_opposites.Given as goal

abbrev pub invariant-loop-rest : goal.invariant-loop-rest
invariant-loop-rest l = cancelled_in l.rest l.left ≡ cancelled_in (length l.fn.faces) l.fn.faces

abbrev pub decreases-loop-rest : goal.decreases-loop-rest
decreases-loop-rest l = l.rest
