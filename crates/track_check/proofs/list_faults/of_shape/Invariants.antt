use Rattle.std.proofs.Common.{◌≡◌, ◌++◌, map, drop}
use Rattle.track_check.specs.Check.{shape_as_fault}
use Rattle.track_check.proofs.list_faults.of_shape.Given as goal

-- the faults so far and those to come are all
abbrev pub invariant-loop-fault : goal.invariant-loop-fault
invariant-loop-fault l = l.faults.items ++ map shape_as_fault (drop l.fault-index l.found) ≡ map shape_as_fault l.found
