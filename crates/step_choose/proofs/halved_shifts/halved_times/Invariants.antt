use Rattle.std.proofs.Common.{◌≡◌, ◌++◌, drop}
use Rattle.step_choose.specs.Choice.{halved_times}
use Rattle.step_choose.proofs.halved_shifts.halved_times.Given as goal

-- the shifts so far and those to come are all
abbrev pub invariant-loop-s : goal.invariant-loop-s
invariant-loop-s l = l.shifts ++ halved_times l.times (drop l.s-index l.asked) ≡ halved_times l.times l.asked
