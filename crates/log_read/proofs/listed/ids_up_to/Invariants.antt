use Rattle.std.proofs.Common.{◌≡◌, ◌+◌, ◌≤◌, []}
use Rattle.line_text.specs.Remaining.{parts_left}
use Rattle.log_read.specs.EditLines.{ids_add}
use Rattle.log_read.proofs.listed.ids_up_to.Given as goal

abbrev pub invariant-loop-word : goal.invariant-loop-word
invariant-loop-word l =
    (ids_add l.most l.ids l.low (parts_left l.word-iterator) ≡ ids_add l.most [] 1 (parts_left l.words))
    × (l.low ≤ l.most + 1)
