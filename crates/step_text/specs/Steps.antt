-- The grammar of steps: the directives that the lines give, or the first line outside it.
use Rattle.std.specs.Prelude.{ℕ, ◌-◌, ◌==◌, if◌then◌else◌, nat_lt, List, [], ◌∷◌, ◌++◌}
use Rattle.std.specs.Prelude.{length, take, Option, Some, None, Result, Ok, Err, codes}
use Rattle.std.specs.Str.{bytes_eq}
use Rattle.grid_base.specs.declared.TheConstants.{SHIFT_MAX, DEPTH_MAX, HALVINGS_MAX, ID_MAX, LENGTH_MAX}
use Rattle.grid_base.specs.declared.grid.Shift.{Shift}
use Rattle.grid_base.specs.Points.{shift_by}
use Rattle.line_text.specs.declared.TextWhy.{TextWhy}
use Rattle.line_text.specs.declared.TextWhy.TheVariants.{Short, Range, Unknown, Nesting}
use Rattle.line_text.specs.declared.TextFault.{TextFault}
use Rattle.line_text.specs.Faults.{◌>>=◌, at_line}
use Rattle.line_text.specs.Texts.{words_of, numbered_lines}
use Rattle.edit_base.specs.declared.PassKind.TheVariants as pass
use Rattle.mesh_plain.specs.FieldNames.{field_name_of}
use Rattle.step_text.specs.declared.TheConstants.{GROUPS_MAX, PASSES_MAX}
use Rattle.step_text.specs.declared.directive.Directive.{Directive}
use Rattle.step_text.specs.declared.directive.Directive.TheVariants.{SetDepth, SetPasses, SetZones, SetHalvings}
use Rattle.step_text.specs.declared.directive.Directive.TheVariants.{ShiftOne, ShiftAll, Drive, Solid, Step}
use Rattle.step_text.specs.declared.directive.Directive.TheVariants.{Pass, Fit, Save, Group, Close}
use Rattle.step_text.specs.declared.directive.Placed.{Placed}
use Rattle.line_text.specs.Fields.{count_is, number_at, signed_at}

-- one of the settings, and its value
unfoldable pub set_of : List (List ℕ) → Result Directive TextWhy
set_of [] = Err Short
set_of (name ∷ words) =
    if bytes_eq name (codes "depth") then (do
      counted ← count_is 1 words
      depth ← number_at 0 DEPTH_MAX words
      Ok (SetDepth depth.0))
    else if bytes_eq name (codes "passes") then (do
      counted ← count_is 1 words
      passes ← number_at 0 PASSES_MAX words
      Ok (SetPasses passes.0))
    else if bytes_eq name (codes "zones") then (do
      counted ← count_is 1 words
      zones ← number_at 0 1 words
      Ok (SetZones (zones.0 == 1)))
    else if bytes_eq name (codes "halvings") then (do
      counted ← count_is 1 words
      halvings ← number_at 0 HALVINGS_MAX words
      Ok (SetHalvings halvings.0))
    else Err Unknown

-- three whole words within the limit
unfoldable pub shift_at : List (List ℕ) → Result Shift TextWhy
shift_at words = do
  x ← signed_at SHIFT_MAX words
  y ← signed_at SHIFT_MAX x.1
  z ← signed_at SHIFT_MAX y.1
  Ok (shift_by (record { x = x.0; y = y.0; z = z.0 }))

-- an id and the shift of its vertex
unfoldable pub shift_one_of : List (List ℕ) → Result Directive TextWhy
shift_one_of words = do
  v ← number_at 1 ID_MAX words
  by ← shift_at v.1
  Ok (ShiftOne v.0 by)

-- `all`, or the id of a vertex, and the shift
unfoldable pub shift_of : List (List ℕ) → Result Directive TextWhy
shift_of [] = Err Short
shift_of (who ∷ words) = do
  counted ← count_is 3 words
  (if bytes_eq who (codes "all") then (shift_at words >>= λ by. Ok (ShiftAll by))
      else shift_one_of (who ∷ words))

-- a drive by the field of this name, if it is one
abbrev pub drive_or_range : Option (List ℕ) → Result Directive TextWhy
drive_or_range (Some name) = Ok (Drive name)
drive_or_range None = Err Range

-- the name of a field
unfoldable pub drive_of : List (List ℕ) → Result Directive TextWhy
drive_of [] = Err Short
drive_of (word ∷ words) = do
  counted ← count_is 0 words
  drive_or_range (field_name_of word)

-- the id of a vertex
unfoldable pub solid_of : List (List ℕ) → Result Directive TextWhy
solid_of words = do
  counted ← count_is 1 words
  v ← number_at 1 ID_MAX words
  Ok (Solid v.0)

-- the length that a pass goes by
unfoldable pub length_of : List (List ℕ) → Result ℕ TextWhy
length_of words = do
  counted ← count_is 1 words
  length ← number_at 0 LENGTH_MAX words
  Ok length.0

-- a directive with no further word
unfoldable pub without_more_words : Directive → List (List ℕ) → Result Directive TextWhy
without_more_words directive words = do
  counted ← count_is 0 words
  Ok directive

-- what the first word and those after it ask for
unfoldable pub directive_of : List ℕ → List (List ℕ) → Result Directive TextWhy
directive_of first words =
    if bytes_eq first (codes "set") then set_of words
    else if bytes_eq first (codes "shift") then shift_of words
    else if bytes_eq first (codes "drive") then drive_of words
    else if bytes_eq first (codes "solid") then solid_of words
    else if bytes_eq first (codes "step") then without_more_words Step words
    else if bytes_eq first (codes "split")
    then (length_of words >>= λ over. Ok (Pass (pass.Split over)))
    else if bytes_eq first (codes "collapse")
    then (length_of words >>= λ under. Ok (Pass (pass.Collapse under)))
    else if bytes_eq first (codes "flip") then without_more_words (Pass pass.Flip) words
    else if bytes_eq first (codes "zip")
    then (length_of words >>= λ within. Ok (Pass (pass.Zip within)))
    else if bytes_eq first (codes "pinch") then without_more_words (Pass pass.Pinch) words
    else if bytes_eq first (codes "fit") then without_more_words Fit words
    else if bytes_eq first (codes "save") then without_more_words Save words
    else if bytes_eq first (codes "group") then without_more_words Group words
    else if bytes_eq first (codes "close") then without_more_words Close words
    else Err Unknown

-- ---- groups and lines

-- the directives so far, and the lines of the groups that are open after them, outermost first
pub record SoFar : Type 0 where
  pub directives : List Placed
  pub groups : List ℕ

-- the two together
abbrev pub so_far : List Placed → List ℕ → SoFar
so_far directives groups = record { directives = directives; groups = groups }

-- the groups that are open after a directive of this line: a group may not lie too
-- deep, and a close needs an open one
abbrev pub groups_behind : ℕ → Directive → List ℕ → Result (List ℕ) TextWhy
groups_behind line Group groups =
    if nat_lt (length groups) GROUPS_MAX then Ok (groups ++ line ∷ []) else Err Nesting
groups_behind line Close groups =
    if length groups == 0 then Err Nesting else Ok (take (length groups - 1) groups)
groups_behind line _ groups = Ok groups

-- what there is so far and the directive of a line of these words; a line with no word gives none
unfoldable pub words_add : ℕ → SoFar → List (List ℕ) → Result SoFar TextWhy
words_add line before [] = Ok before
words_add line before (first ∷ words) = do
  what ← directive_of first words
  groups ← groups_behind line what before.groups
  Ok (so_far (before.directives ++ record { line = line; what = what } ∷ []) groups)

-- what there is so far and then each line in turn, up to the first fault
abbrev pub lines_add : SoFar → List (ℕ × List ℕ) → Result SoFar TextFault
lines_add before [] = Ok before
lines_add before (line ∷ lines) =
    at_line line.0 (words_add line.0 before (words_of line.1)) >>= λ more. lines_add more lines

-- the directives where each group is closed; the fault of others is at
-- the line of their outermost group
abbrev pub closed_or_nesting : List Placed → List ℕ → Result (List Placed) TextFault
closed_or_nesting directives [] = Ok directives
closed_or_nesting directives (outermost ∷ inner) = Err (record { line = outermost; why = Nesting })

-- the directives of a text, or its first line outside the grammar
abbrev pub steps_of : List ℕ → Result (List Placed) TextFault
steps_of bytes =
    lines_add (so_far [] []) (numbered_lines 1 bytes)
    >>= λ s. closed_or_nesting s.directives s.groups
