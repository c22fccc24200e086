-- Edits that are asked for one after another: what they answer, their lines, and the mesh that
-- they leave.
use Rattle.std.specs.Prelude.{◌≡◌, ℕ, ◌&&◌, Bool, true, false, List, [], ◌∷◌, Option, Some, None, if◌then◌else◌}
use Rattle.grid_base.specs.declared.Positions.{Positions}
use Rattle.grid_decided.specs.Decided.{meets_exactly}
use Rattle.mesh_base.specs.Mesh.{Mesh}
use Rattle.edit_base.specs.declared.Asked.{Asked}
use Rattle.edit_base.specs.declared.Edit.{Edit}
use Rattle.edit_base.specs.declared.Edit.TheVariants as edit
use Rattle.edit_base.specs.Clauses.{mesh_after}
use Rattle.edit_any.specs.Dispatch.{edited}
use Rattle.log_text.specs.declared.LogLine.{LogLine}
use Rattle.log_text.specs.declared.LogLine.TheVariants as line
use Rattle.pass_run.specs.declared.edits.EditTerms.{EditTerms}
use Rattle.pass_run.specs.PassLines.{PassRules, line_of, answer_by, lines_from, mesh_after_all}

-- at its turn each is asked, whatever the mesh
abbrev pub itself : Mesh → Asked → Option Asked
itself m what = Some what

-- the rules of edits that are asked for
abbrev pub edit_rules : (Positions → Bool) → ℕ → Bool → PassRules
edit_rules meets depth grouped =
    record { meets = meets; choice = itself; depth = depth; grouped = grouped }

-- those that go by these terms, with the exact test
abbrev pub edits_exactly : EditTerms → PassRules
edits_exactly terms = edit_rules meets_exactly terms.depth terms.grouped

-- ---- what they answer

-- whether an answer is a reason against the edit
abbrev pub is_no : Edit → Bool
is_no (edit.Done change) = false
is_no (edit.No why) = true

-- What edits answer, from a mesh on, each in the mesh that the one before it leaves. In a group the
-- first that is not done is the last that is asked.
abbrev pub answers_from : PassRules → Mesh → List Asked → List Edit
answers_from rules m [] = []
answers_from rules m (what ∷ rest) =
    let answer = answer_by rules m what in
    answer
    ∷ (if rules.grouped && is_no answer then []
    else answers_from rules (mesh_after edited m answer) rest)

-- ---- by the exact test

-- the lines of edits that are asked for, from a mesh on
abbrev pub edit_lines : EditTerms → List Asked → Mesh → List LogLine
edit_lines terms asked m = lines_from (edits_exactly terms) m asked

-- what they answer
abbrev pub edit_answers : EditTerms → List Asked → Mesh → List Edit
edit_answers terms asked m = answers_from (edits_exactly terms) m asked

-- and the mesh that they leave
abbrev pub edit_mesh : EditTerms → List Asked → Mesh → Mesh
edit_mesh terms asked m = mesh_after_all (edits_exactly terms) m asked

-- ---- their lines

-- what a line tells that came of an edit; nothing, where it tells of none
abbrev pub answer_in : LogLine → Option Edit
answer_in (line.Did change) = Some (edit.Done change)
answer_in (line.No what why) = Some (edit.No why)
answer_in _ = None

-- the line of each of these edits, as far as there are answers
abbrev pub lines_told : List Asked → List Edit → List LogLine
lines_told [] answers = []
lines_told (what ∷ rest) [] = []
lines_told (what ∷ rest) (answer ∷ answers) = line_of what answer ∷ lines_told rest answers

-- each answer has its line, in order, and there is no other line
abbrev pub EditsAreTold : Type 0
EditsAreTold =
    (meets : Positions → Bool) (depth : ℕ) (grouped : Bool) (m : Mesh) (asked : List Asked) →
    let rules = edit_rules meets depth grouped in
    lines_from rules m asked ≡ lines_told asked (answers_from rules m asked)
