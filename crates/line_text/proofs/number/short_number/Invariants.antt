use Rattle.line_text.proofs.Digits.{DigitsSoFar}
use Rattle.line_text.proofs.number.short_number.Given as goal

abbrev pub invariant-loop-b : goal.invariant-loop-b
invariant-loop-b l = DigitsSoFar l.word l.b-index l.n
