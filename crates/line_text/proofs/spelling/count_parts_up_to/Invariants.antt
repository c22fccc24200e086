use Rattle.std.proofs.Common.{◌≡◌, ◌+◌, length}
use Rattle.line_text.specs.Remaining.{parts_left}
use Rattle.line_text.proofs.spelling.count_parts_up_to.Given as goal

abbrev pub invariant-loop-k : goal.invariant-loop-k
invariant-loop-k l = l.k + length (parts_left l.words) ≡ length (parts_left l.initial.words)
