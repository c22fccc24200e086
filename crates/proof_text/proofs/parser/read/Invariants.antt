use Rattle.std.proofs.Common.{length}
use Rattle.std.specs.Prelude.{◌==◌}
use Rattle.std.specs.List.{slice_split}
use Rattle.proof_text.specs.Order.{so_far}
use Rattle.proof_text.specs.Views.{proofs_view, state_view}
use Rattle.proof_text.proofs.TextParts.{PartsLeft}
use Rattle.proof_text.proofs.parser.read.Given as goal

abbrev pub invariant-lines : goal.invariant-lines
invariant-lines l = PartsLeft l.bytes (so_far (proofs_view l.motions) (state_view l.state)) l.number l.rest

abbrev pub decreases-lines : goal.decreases-lines
decreases-lines l = length (slice_split (λ b. b == 10) l.rest)
