use Rattle.std.proofs.Common.{◌≡◌, ◌++◌, map, drop}
use Rattle.log_run.specs.Steps.{still_at}
use Rattle.log_run.proofs.step_lines.all_still.Given as goal

-- the shifts so far and those to come are all
abbrev pub invariant-loop-v : goal.invariant-loop-v
invariant-loop-v l = l.shifts ++ map still_at (drop l.v-index l.ids) ≡ map still_at l.ids
