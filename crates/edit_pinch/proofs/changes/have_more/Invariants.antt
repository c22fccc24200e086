use Rattle.std.proofs.Common.{◌≡◌, drop, length, map, sum, nat_lt}
use Rattle.edit_pinch.proofs.changes.have_more.Given as goal

-- those that are left have more than is left where all have more than there is room for
abbrev pub invariant-loop-fan : goal.invariant-loop-fan
invariant-loop-fan l = nat_lt l.left (sum (map length (drop l.fan-index l.fans))) ≡ nat_lt l.fn.room (sum (map length l.fans))
