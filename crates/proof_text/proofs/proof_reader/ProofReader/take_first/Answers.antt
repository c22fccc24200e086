use Rattle.std.proofs.Common.{arith, ap, length}
use Rattle.proof_text.proofs.CertificatesAhead.{ended_ahead}
use Rattle.proof_text.proofs.proof_reader.ProofReader.take_first.Goals as goal

pub invariant_of-self : goal.invariant_of-self
invariant_of-self c = rw (c.replace-state.ensures.after, c.replace-at.ensures.after) (ended_ahead c.self.inside.text.items c.len-end.result (omega (arith, c.len-end.ensures, c.deref.ensures.len, ap length c.deref.ensures.value)))
