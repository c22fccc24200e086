use Rattle.std.proofs.Common.{drop}
use Rattle.proof_text.specs.Lines.{proofs_lines}
use Rattle.proof_text.specs.Views.{proofs_view}
use Rattle.proof_text.proofs.Putting.{LinesLeft}
use Rattle.proof_text.proofs.printer.put_proofs.Given as goal

abbrev pub invariant-loop-proof : goal.invariant-loop-proof
invariant-loop-proof l = LinesLeft l.initial.into.items (proofs_lines (proofs_view l.proofs)) (proofs_lines (proofs_view (drop l.proof-index l.proofs))) l.into.items
