-- A value of the code as the OFF grammar sees it.
use Rattle.std.specs.Prelude.{ℕ, Result}
use Rattle.line_text.specs.declared.fault.TextWhy.{TextWhy}
use Rattle.line_text.specs.declared.fault.ReadFault.{ReadFault}
use Rattle.line_text.specs.Faults.{Leaves, at_line}
use Rattle.obj_text.specs.Views.{lists_view}
use Rattle.other_text.specs.declared.off_parser.ParserState.{ParserState}
use Rattle.other_text.specs.Off.{Progress}

-- how far the text was read
abbrev pub progress_of : ParserState → Progress
progress_of r = record {
  wanted = r.wanted;
  points_left = r.points_left;
  faces_left = r.faces_left;
  lists = lists_view r.lists;
}

-- what a function left is what a line makes of how far the text was read before
abbrev pub GoesOn : {X : Type 0} → ParserState → ParserState → Result X ReadFault → ℕ →
    (Progress → Result Progress TextWhy) → Type 0
GoesOn old new result line adds =
    Leaves (progress_of new) result (at_line line (adds (progress_of old)))
