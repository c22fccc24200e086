use Rattle.std.proofs.Common.{◌≡◌, drop, length, nat_le}
use Rattle.std.specs.List.{filter}
use Rattle.step_near.specs.Few.{is_shifted, are_few}
use Rattle.step_near.proofs.few.are_few.Given as goal

-- of those to come at most so many as are left are not zero, where all are few
abbrev pub invariant-loop-s : goal.invariant-loop-s
invariant-loop-s l = nat_le (length (filter is_shifted (drop l.s-index l.asked))) l.left ≡ are_few l.asked
