use Rattle.line_text.proofs.Fronts.{FrontSoFar}
use Rattle.line_text.proofs.front_number.front_number.Given as goal

abbrev pub invariant-loop-i : goal.invariant-loop-i
invariant-loop-i l = FrontSoFar l.text l.i l.n
