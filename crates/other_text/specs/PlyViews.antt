-- A value of the code as the PLY grammar sees it.
use Rattle.std.specs.Prelude.{ℕ, ◌+◌, length, Result}
use Rattle.line_text.specs.declared.fault.TextWhy.{TextWhy}
use Rattle.line_text.specs.declared.fault.ReadFault.{ReadFault}
use Rattle.line_text.specs.Faults.{Leaves, at_line}
use Rattle.obj_text.specs.Views.{lists_view}
use Rattle.other_text.specs.declared.ply_parser.ParserState.{ParserState}
use Rattle.other_text.specs.Ply.{Progress}

-- how far the text was read
abbrev pub progress_of : ParserState → Progress
progress_of r = record {
  wanted = r.wanted;
  roles = r.roles;
  x_stands = r.x_stands;
  y_stands = r.y_stands;
  z_stands = r.z_stands;
  extra = r.extra;
  points_left = r.points_left;
  faces_left = r.faces_left;
  lists = lists_view r.lists;
}

-- what a function left is what a line makes of how far the text was read before
abbrev pub GoesOn : {X : Type 0} → ParserState → ParserState → Result X ReadFault → ℕ →
    (Progress → Result Progress TextWhy) → Type 0
GoesOn old new result line adds =
    Leaves (progress_of new) result (at_line line (adds (progress_of old)))

-- how many properties the head named
abbrev pub properties_of : ParserState → ℕ
properties_of r = length r.roles + r.extra
