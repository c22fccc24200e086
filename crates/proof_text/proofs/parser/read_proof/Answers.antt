use Rattle.proof_text.proofs.TextLaws.{what_is_read_is_good}
use Rattle.proof_text.proofs.parser.read_proof.Goals as goal

pub returns-clause-good : goal.returns-clause-good
returns-clause-good c = what_is_read_is_good c.args.bytes.now c.read.result c.read.ensures
