use Rattle.job_card.proofs.Lines.{SoFar}
use Rattle.job_card.proofs.parser.read_lines.Given as goal

abbrev pub invariant-lines : goal.invariant-lines
invariant-lines l = SoFar l.fn.text l.k l.card l.rest
