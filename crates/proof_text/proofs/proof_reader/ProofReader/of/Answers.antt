use Rattle.std.proofs.Common.{ℕ, List, ap, sym, subst, length}
use Rattle.proof_text.specs.Ahead.{HasProofs}
use Rattle.proof_text.specs.Order.{proofs_of}
use Rattle.proof_text.proofs.CertificatesAhead.{ended_ahead, good_ahead}
use Rattle.proof_text.proofs.proof_reader.ProofReader.of.Goals as goal

pub invariant_of-result : goal.invariant_of-result
invariant_of-result c = ended_ahead c.new.result.items 0 (ap length (sym c.new.ensures.items))

pub returns-clause-good : goal.returns-clause-good
returns-clause-good c = good_ahead c.new-2.result.items c.args.text.items c.new-2.ensures.items (subst (λ (t : List ℕ). HasProofs (proofs_of t)) c.deref-2.ensures.value c.in_ok-check_proof.ensures)
