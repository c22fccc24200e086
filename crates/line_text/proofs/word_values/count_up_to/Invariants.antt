use Rattle.std.proofs.Common.{◌≡◌, ◌+◌, length}
use Rattle.line_text.specs.Remaining.{words_left}
use Rattle.line_text.proofs.word_values.count_up_to.Given as goal

abbrev pub invariant-loop-k : goal.invariant-loop-k
invariant-loop-k l = l.k + length (words_left l.words) ≡ length (words_left l.initial.words)
