use Rattle.std.proofs.Common.{◌≡◌, ◌++◌, map, drop}
use Rattle.track_held.specs.Renumbered.{ranked_shift}
use Rattle.track_held.proofs.renumbering.ranked_shifts.Given as goal

-- the shifts so far and those to come are all
abbrev pub invariant-loop-s : goal.invariant-loop-s
invariant-loop-s l = l.shifts ++ map (ranked_shift l.ids) (drop l.s-index l.asked) ≡ map (ranked_shift l.ids) l.asked
