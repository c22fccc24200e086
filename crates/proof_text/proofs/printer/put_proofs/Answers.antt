use Rattle.proof_text.specs.Lines.{proof_lines}
use Rattle.proof_text.specs.Views.{proof_view}
use Rattle.proof_text.proofs.Putting.{LinesLeft-first, LinesLeft-more, LinesLeft-end, proofs_drop}
use Rattle.proof_text.proofs.printer.put_proofs.Goals as goal

pub loop-proof-init : goal.loop-proof-init
loop-proof-init c = LinesLeft-first _ _

pub loop-proof-preserved : goal.loop-proof-preserved
loop-proof-preserved c = LinesLeft-more _ _ (proof_lines (proof_view c.proof-item.result)) _ _ _ _ c.loop-proof.invariant (proofs_drop c.args.proofs.now c.loop-proof.proof-index c.proof-item.result c.proof-item.is c.loop-proof-test.true) c.in_ok-put_proof.ensures

pub returns : goal.returns
returns c = LinesLeft-end c.args.into.now.items c.args.proofs.now c.loop-proof.proof-index c.loop-proof.into.items c.loop-proof-test.false c.loop-proof.invariant
