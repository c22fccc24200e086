use Rattle.std.proofs.Common.{length}
use Rattle.std.specs.Prelude.{◌==◌}
use Rattle.std.specs.List.{slice_split}
use Rattle.log_read.proofs.LogParts.{PartsLeft}
use Rattle.log_read.proofs.parser.read_log.Given as goal

abbrev pub invariant-lines : goal.invariant-lines
invariant-lines l = PartsLeft l.scale l.version l.bytes l.log l.number l.rest

abbrev pub decreases-lines : goal.decreases-lines
decreases-lines l = length (slice_split (λ b. b == 10) l.rest)
