use Rattle.std.proofs.Common.{length}
use Rattle.std.specs.Prelude.{◌==◌}
use Rattle.std.specs.List.{slice_split}
use Rattle.proof_text.specs.Views.{state_view}
use Rattle.proof_text.proofs.CertificatesAhead.{Checking}
use Rattle.proof_text.proofs.first_fault.check_proof.Given as goal

-- what has been read and the parts that are left give what the whole text gives
abbrev pub invariant-lines : goal.invariant-lines
invariant-lines l = Checking l.bytes (state_view l.state) l.number l.rest

abbrev pub decreases-lines : goal.decreases-lines
decreases-lines l = length (slice_split (λ b. b == 10) l.rest)
