use Rattle.std.proofs.Common.{◌≡◌, ◌+◌, ◌≤◌, [], length}
use Rattle.grid_base.specs.declared.TheConstants.{TEXT_MAX}
use Rattle.line_text.specs.Texts.{numbered_lines}
use Rattle.line_text.specs.Remaining.{lines_left}
use Rattle.step_text.specs.Steps.{so_far, lines_add}
use Rattle.step_text.proofs.parser.read_steps.Given as goal

abbrev pub invariant-loop-line : goal.invariant-loop-line
invariant-loop-line l =
    (lines_add (so_far l.directives l.groups.items) (lines_left l.line-iterator) ≡ lines_add (so_far [] []) (numbered_lines 1 l.bytes))
    × (length l.directives + length (lines_left l.line-iterator) ≤ TEXT_MAX)
