-- The lines of a pass, and the mesh that it leaves.
use Rattle.std.specs.Prelude.{ℕ, ◌&&◌, Bool, true, false, List, [], ◌∷◌, ◌++◌, length, Option, Some, None, if◌then◌else◌}
use Rattle.std.specs.List.{filter, list_any}
use Rattle.grid_base.specs.declared.Positions.{Positions}
use Rattle.grid_decided.specs.Decided.{meets_exactly}
use Rattle.mesh_base.specs.Mesh.{Mesh}
use Rattle.edit_base.specs.declared.Asked.{Asked}
use Rattle.edit_base.specs.declared.Edit.{Edit}
use Rattle.edit_base.specs.declared.PassKind.{PassKind}
use Rattle.edit_base.specs.declared.Edit.TheVariants as edit
use Rattle.edit_any.specs.Dispatch.{answer_to, edited}
use Rattle.edit_base.specs.Clauses.{mesh_after}
use Rattle.log_text.specs.declared.LogLine.{LogLine}
use Rattle.log_text.specs.declared.LogLine.TheVariants as line
use Rattle.pass_run.specs.declared.terms.PassTerms.{PassTerms}
use Rattle.pass_run.specs.Candidates.{candidates, choice_in}

-- By what a pass answers: a test that tells whether five positions meet, what is asked at a
-- candidate's turn in a mesh, if anything, the number of time halvings of the written test, and
-- whether the first `no` line ends the pass.
pub record PassRules : Type 0 where
  pub meets : Positions → Bool
  pub choice : Mesh → Asked → Option Asked
  pub depth : ℕ
  pub grouped : Bool

-- those of a pass that goes by these terms, with a test
abbrev pub rules_of : (Positions → Bool) → PassTerms → PassRules
rules_of meets terms = record {
  meets = meets;
  choice = choice_in terms.kind;
  depth = terms.depth;
  grouped = terms.grouped;
}

-- the same with the exact test
abbrev pub exactly : PassTerms → PassRules
exactly terms = rules_of meets_exactly terms

-- ---- lines

-- the line of an answer
abbrev pub line_of : Asked → Edit → LogLine
line_of what (edit.Done change) = line.Did change
line_of what (edit.No why) = line.No what why

-- whether a line is of a done edit
abbrev pub is_done : LogLine → Bool
is_done (line.Did change) = true
is_done _ = false

-- whether a line is of a refused edit
abbrev pub is_refused : LogLine → Bool
is_refused (line.No what why) = true
is_refused _ = false

-- how many of the lines are of done edits
abbrev pub done_in : List LogLine → ℕ
done_in lines = length (filter is_done lines)

-- how many of the lines are of edits that were asked for and refused
abbrev pub refused_in : List LogLine → ℕ
refused_in lines = length (filter is_refused lines)

-- whether these lines end a pass
abbrev pub ends : Bool → List LogLine → Bool
ends grouped lines = grouped && list_any is_refused lines

-- ---- what is asked, if anything

-- the lines of what is asked: that of its answer, or none where nothing is
abbrev pub lines_asked : (Asked → Edit) → Option Asked → List LogLine
lines_asked answer (Some what) = line_of what (answer what) ∷ []
lines_asked answer None = []

-- the mesh that it leaves
abbrev pub mesh_asked : (Asked → Edit) → Mesh → Option Asked → Mesh
mesh_asked answer m (Some what) = mesh_after edited m (answer what)
mesh_asked answer m None = m

-- ---- a candidate, at its turn

-- what an edit answers
abbrev pub answer_by : PassRules → Mesh → Asked → Edit
answer_by rules m what = answer_to rules.meets m rules.depth what

-- the lines of what is asked at the turn
abbrev pub lines_of : PassRules → Mesh → Asked → List LogLine
lines_of rules m what = lines_asked (answer_by rules m) (rules.choice m what)

-- the mesh that it leaves
abbrev pub mesh_from : PassRules → Mesh → Asked → Mesh
mesh_from rules m what = mesh_asked (answer_by rules m) m (rules.choice m what)

-- ---- all candidates

-- the lines, from a mesh on, of candidates, each of which finds the
-- mesh that the one before it leaves
abbrev pub lines_from : PassRules → Mesh → List Asked → List LogLine
lines_from rules m [] = []
lines_from rules m (what ∷ rest) =
    let lines = lines_of rules m what in
    lines
    ++ (if ends rules.grouped lines then [] else lines_from rules (mesh_from rules m what) rest)

-- the mesh after all of them
abbrev pub mesh_after_all : PassRules → Mesh → List Asked → Mesh
mesh_after_all rules m [] = m
mesh_after_all rules m (what ∷ rest) =
    let next = mesh_from rules m what in
    if ends rules.grouped (lines_of rules m what) then next else mesh_after_all rules next rest

-- ---- a pass

-- all its lines
abbrev pub pass_lines : (Positions → Bool) → PassTerms → Mesh → List LogLine
pass_lines meets terms m =
    line.Pass terms.kind ∷ lines_from (rules_of meets terms) m (candidates m terms.kind)

-- the mesh after it
abbrev pub mesh_after_pass : (Positions → Bool) → PassTerms → Mesh → Mesh
mesh_after_pass meets terms m = mesh_after_all (rules_of meets terms) m (candidates m terms.kind)

-- by the exact test: all its lines
abbrev pub exact_lines : PassTerms → Mesh → List LogLine
exact_lines terms m = pass_lines meets_exactly terms m

-- and the mesh after it
abbrev pub exact_mesh : PassTerms → Mesh → Mesh
exact_mesh terms m = mesh_after_pass meets_exactly terms m

-- what a pass goes by, of its parts
abbrev pub terms_of : PassKind → ℕ → Bool → PassTerms
terms_of kind depth grouped = record { kind = kind; depth = depth; grouped = grouped }

-- by the exact test: the lines of a pass
abbrev pub lines_due : PassKind → ℕ → Bool → Mesh → List LogLine
lines_due kind depth grouped m = exact_lines (terms_of kind depth grouped) m

-- the mesh after it
abbrev pub mesh_due : PassKind → ℕ → Bool → Mesh → Mesh
mesh_due kind depth grouped m = exact_mesh (terms_of kind depth grouped) m

-- how many of its edits are done
abbrev pub done_due : PassKind → ℕ → Bool → Mesh → ℕ
done_due kind depth grouped m = done_in (lines_due kind depth grouped m)

-- and how many are refused
abbrev pub refused_due : PassKind → ℕ → Bool → Mesh → ℕ
refused_due kind depth grouped m = refused_in (lines_due kind depth grouped m)
