use Rattle.std.proofs.Common.{◌≡◌, ◌+◌, length}
use Rattle.line_text.specs.Remaining.{words_left}
use Rattle.obj_text.proofs.parser.has_more_than.Given as goal

abbrev pub invariant-loop : goal.invariant-loop
invariant-loop l = l.counter + length (words_left l.words) ≡ length (words_left l.initial.words)
