use Rattle.std.proofs.Common.{◌≡◌, take}
use Rattle.step_choose.proofs.list_source.are_same.Given as goal

-- those so far are the same
abbrev pub invariant-loop-i : goal.invariant-loop-i
invariant-loop-i l = take l.i l.a ≡ take l.i l.b
