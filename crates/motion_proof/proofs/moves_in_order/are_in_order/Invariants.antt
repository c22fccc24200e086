use Rattle.std.proofs.Common.{ℕ, ◌+◌, ◌<◌, get_or}
use Rattle.edit_base.specs.declared.Move.{Move}
use Rattle.motion_proof.proofs.moves_in_order.are_in_order.Given as goal

-- each id so far is below the next
abbrev pub invariant-loop-i : goal.invariant-loop-i
invariant-loop-i l = (k : ℕ) (d : Move) → k + 1 < l.i → (get_or l.moves k d).v < (get_or l.moves (k + 1) d).v
