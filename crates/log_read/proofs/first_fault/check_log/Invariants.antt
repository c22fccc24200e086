use Rattle.std.proofs.Common.{length}
use Rattle.std.specs.Prelude.{◌==◌}
use Rattle.std.specs.List.{slice_split}
use Rattle.log_read.proofs.LinesAhead.{Checking}
use Rattle.log_read.proofs.first_fault.check_log.Given as goal

-- the lines so far and the parts that are left give what the whole text gives
abbrev pub invariant-lines : goal.invariant-lines
invariant-lines l = Checking l.scale l.version l.bytes l.number l.rest

abbrev pub decreases-lines : goal.decreases-lines
decreases-lines l = length (slice_split (λ b. b == 10) l.rest)
