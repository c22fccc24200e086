use Rattle.std.proofs.Common.{◌≡◌, ◌++◌, drop}
use Rattle.std.specs.List.{flat_map}
use Rattle.track_check.specs.Check.{fault_line}
use Rattle.track_check.proofs.report.put_faults.Given as goal

-- the lines so far and those to come are all
abbrev pub invariant-loop-fault : goal.invariant-loop-fault
invariant-loop-fault l = l.into.items ++ flat_map fault_line (drop l.fault-index l.faults) ≡ l.initial.into.items ++ flat_map fault_line l.faults
