use Rattle.std.proofs.Common.{◌≡◌, ◌++◌, drop}
use Rattle.step_choose.specs.Choice.{all_at_rest}
use Rattle.step_choose.proofs.halved_shifts.all_at_rest.Given as goal

-- the shifts so far and those to come are all
abbrev pub invariant-loop-s : goal.invariant-loop-s
invariant-loop-s l = l.shifts ++ all_at_rest (drop l.s-index l.asked) ≡ all_at_rest l.asked
