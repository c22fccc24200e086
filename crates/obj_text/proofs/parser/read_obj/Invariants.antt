use Rattle.std.proofs.Common.{◌≡◌, ◌+◌, ◌≤◌, length}
use Rattle.grid_base.specs.declared.TheConstants.{TEXT_MAX}
use Rattle.line_text.specs.Remaining.{lines_left}
use Rattle.obj_text.specs.Obj.{lines_add, lists_of}
use Rattle.obj_text.specs.Views.{lists_view}
use Rattle.obj_text.proofs.parser.read_obj.Given as goal

abbrev pub invariant-loop-line : goal.invariant-loop-line
invariant-loop-line l = (lines_add l.decimals (lists_view l.lists) (lines_left l.line-iterator) ≡ lists_of l.decimals l.bytes) × (length l.lists.points + length (lines_left l.line-iterator) ≤ TEXT_MAX)
