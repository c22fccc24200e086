use Rattle.proof_text.specs.Views.{proofs_view}
use Rattle.proof_text.proofs.Putting.{whole_text}
use Rattle.proof_text.proofs.printer.print_proof.Goals as goal

pub returns : goal.returns
returns c = whole_text c.put_words.new.into.items c.put_proofs.new.into.items c.put_words-2.new.into.items (proofs_view c.args.proofs.now) (rw c.new-text.ensures.items at c.in_ok-put_words.ensures) (rw c.as_slice.ensures at c.in_ok-put_proofs.ensures) c.in_ok-put_words-2.ensures
