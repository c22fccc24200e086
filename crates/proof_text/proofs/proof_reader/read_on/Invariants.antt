use Rattle.std.proofs.Common.{length}
use Rattle.std.specs.Prelude.{◌==◌}
use Rattle.std.specs.List.{slice_split}
use Rattle.proof_text.specs.Views.{state_view}
use Rattle.proof_text.proofs.CertificatesAhead.{Reading}
use Rattle.proof_text.proofs.proof_reader.read_on.Given as goal

-- no certificate is whole yet, and the parts that are left give what was left at first
abbrev pub invariant-lines : goal.invariant-lines
invariant-lines l = Reading l.text (state_view l.fn.state) l.at l.found (state_view l.state) l.rest

abbrev pub decreases-lines : goal.decreases-lines
decreases-lines l = length (slice_split (λ b. b == 10) l.rest)
