use Rattle.std.proofs.Common.{◌≡◌, length}
use Rattle.line_text.specs.Remaining.{parts_left}
use Rattle.log_read.specs.EditLines.{four_by_four}
use Rattle.log_read.proofs.listed.four_by_four.Given as goal

abbrev pub invariant-loop-words : goal.invariant-loop-words
invariant-loop-words l = four_by_four (parts_left l.words) ≡ four_by_four (parts_left l.initial.words)

abbrev pub decreases-loop-words : goal.decreases-loop-words
decreases-loop-words l = length (parts_left l.words)
