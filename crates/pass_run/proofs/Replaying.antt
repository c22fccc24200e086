-- The lines of a pass are lines that a pass may have.
use Rattle.std.proofs.Common.{Bool, true, false, cond, List, [], ◌∷◌, Option, Some, None}
use Rattle.grid_base.specs.declared.Positions.{Positions}
use Rattle.mesh_base.specs.Mesh.{Mesh}
use Rattle.edit_base.specs.declared.Asked.{Asked}
use Rattle.edit_base.specs.declared.Edit.{Edit}
use Rattle.edit_base.specs.declared.Edit.TheVariants as edit
use Rattle.log_replay.specs.OfPass.{IsOfPass, AreOfPass}
use Rattle.log_replay.proofs.Replaying.{of_pass_then}
use Rattle.pass_run.specs.declared.terms.PassTerms.{PassTerms}
use Rattle.pass_run.specs.Candidates.{candidates}
use Rattle.pass_run.specs.PassLines.{PassRules, rules_of, line_of, answer_by, lines_asked, lines_of, mesh_from, ends, lines_from, pass_lines}

line_is : (what : Asked) (answer : Edit) → IsOfPass (line_of what answer)
line_is what (edit.Done change) = tt
line_is what (edit.No why) = tt

module _ (rules : PassRules) where
  one_is : (m : Mesh) (what : Asked) → AreOfPass (lines_of rules m what)
  one_is m what = by_call (rules.choice m what)
    where
      by_call : (call : Option Asked) → AreOfPass (lines_asked (answer_by rules m) call)
      by_call (Some other) = (line_is other (answer_by rules m other), tt)
      by_call None = tt

  pub lines_are : (m : Mesh) (all : List Asked) → AreOfPass (lines_from rules m all)
  lines_are m [] = tt
  lines_are m (what ∷ rest) =
      of_pass_then (lines_of rules m what) _ (one_is m what) (by_test (ends rules.grouped (lines_of rules m what)) (lines_are (mesh_from rules m what) rest))
    where
      by_test : (b : Bool) → AreOfPass (lines_from rules (mesh_from rules m what) rest) → AreOfPass (cond b [] (lines_from rules (mesh_from rules m what) rest))
      by_test true h = tt
      by_test false h = h

pub pass_is : (meets : Positions → Bool) (terms : PassTerms) (m : Mesh) → AreOfPass (pass_lines meets terms m)
pass_is meets terms m = (tt, lines_are (rules_of meets terms) m (candidates m terms.kind))
