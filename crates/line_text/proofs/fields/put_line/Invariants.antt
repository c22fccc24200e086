use Rattle.line_text.proofs.WordPuts.{Put}
use Rattle.line_text.proofs.fields.put_line.Given as goal

abbrev pub invariant-loop-i : goal.invariant-loop-i
invariant-loop-i l = Put l.initial.into.items l.fields l.i l.into.items
