use Rattle.std.proofs.Common.{◌≡◌, drop}
use Rattle.line_text.specs.Remaining.{parts_left}
use Rattle.log_read.proofs.edit_values.words_after.Given as goal

abbrev pub invariant-loop-left : goal.invariant-loop-left
invariant-loop-left l = drop l.left (parts_left l.words) ≡ drop l.count (parts_left l.initial.words)

abbrev pub decreases-loop-left : goal.decreases-loop-left
decreases-loop-left l = l.left
