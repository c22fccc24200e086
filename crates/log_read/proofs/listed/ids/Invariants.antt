use Rattle.std.proofs.Common.{◌≡◌, ◌+◌, ◌≤◌, []}
use Rattle.grid_base.specs.declared.TheConstants.{ID_MAX}
use Rattle.line_text.specs.Remaining.{parts_left}
use Rattle.log_read.specs.EditLines.{ids_add}
use Rattle.log_read.proofs.listed.ids.Given as goal

abbrev pub invariant-loop-word : goal.invariant-loop-word
invariant-loop-word l =
    (ids_add ID_MAX l.ids l.low (parts_left l.word-iterator) ≡ ids_add ID_MAX [] 1 (parts_left l.words))
    × (l.low ≤ ID_MAX + 1)
