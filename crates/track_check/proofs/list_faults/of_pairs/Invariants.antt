use Rattle.std.proofs.Common.{◌≡◌, ◌++◌, map, drop}
use Rattle.track_check.specs.Check.{pair_as_fault}
use Rattle.track_check.proofs.list_faults.of_pairs.Given as goal

-- the faults so far and those to come are all
abbrev pub invariant-loop-pair : goal.invariant-loop-pair
invariant-loop-pair l = l.faults.items ++ map pair_as_fault (drop l.pair-index l.found) ≡ map pair_as_fault l.found
