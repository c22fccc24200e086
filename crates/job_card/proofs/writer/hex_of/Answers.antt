use Rattle.std.proofs.Common.{rules, arith}
use Rattle.job_card.proofs.writer.hex_of.Goals as goal

pub returns-clause-good : goal.returns-clause-good
returns-clause-good c = record { long = search rules; bytes = λ i. let f = c.fits-digest i in omega arith }
