-- The edits of a pass can be done again.
use Rattle.std.proofs.Common.{◌≡◌, ℕ, ◌≤◌, Bool, true, false, cond, List, [], ◌∷◌, ◌++◌, Option, Some, None, refl, sym, subst}
use Rattle.grid_base.specs.declared.Positions.{Positions}
use Rattle.grid_base.specs.declared.TheConstants.{DEPTH_MAX}
use Rattle.grid_base.specs.SeparationTests.{IsExact}
use Rattle.grid_decided.specs.Decided.{meets_exactly, meets_exactly-is_exact}
use Rattle.mesh_base.specs.Mesh.{Mesh}
use Rattle.mesh_base.proofs.Tests.{both_ways}
use Rattle.edit_base.specs.declared.Asked.{Asked}
use Rattle.edit_base.specs.declared.answers.Change.{Change}
use Rattle.edit_base.specs.declared.Edit.{Edit}
use Rattle.edit_base.specs.declared.Edit.TheVariants.{Done, No}
use Rattle.edit_any.specs.Dispatch.{answer_to}
use Rattle.edit_any.specs.Answered.{asked_of, IsAnswered}
use Rattle.edit_any.proofs.Answered.{edits_stay_done, changes_tell_the_edit}
use Rattle.log_text.specs.declared.LogLine.{LogLine}
use Rattle.log_replay.specs.Replay.{Replay}
use Rattle.log_replay.specs.Again.{LineIsAgain, LinesAreAgain}
use Rattle.log_replay.proofs.Replaying.{each_then}
use Rattle.pass_run.specs.Again.{PassesAreAgain}
use Rattle.pass_run.specs.Candidates.{candidates}
use Rattle.pass_run.specs.PassLines.{PassRules, rules_of, line_of, answer_by, lines_asked, lines_of, mesh_from, ends, lines_from}
use Rattle.pass_run.proofs.Asking.{asked_makes}

-- ---- one edit
module _ (meets : Positions → Bool) (exact : IsExact meets) where
  -- two exact tests answer alike
  same_test : meets ≡ meets_exactly
  same_test = λ i f. both_ways (meets f) (meets_exactly f) (λ e. (meets_exactly-is_exact f).1 ((exact f).0 e)) (λ e. (exact f).1 ((meets_exactly-is_exact f).0 e)) i

  pub answered_again : (m : Mesh) (what : Asked) (change : Change) (depth : ℕ) → depth ≤ DEPTH_MAX → answer_to meets m depth what ≡ Done change → IsAnswered m change
  answered_again m what change depth most done =
      let P : (Positions → Bool) → Type 0 = λ test. answer_to test m DEPTH_MAX (asked_of change) ≡ Done change in
      subst P same_test (edits_stay_done meets m (asked_of change) change depth DEPTH_MAX most (changes_tell_the_edit meets m what change depth done))

  answer_again : (r : Replay) (what : Asked) (depth : ℕ) → depth ≤ DEPTH_MAX → (edit : Edit) → answer_to meets r.mesh depth what ≡ edit → LinesAreAgain r (line_of what edit ∷ [])
  answer_again r what depth most (Done change) e = (answered_again r.mesh what change depth most e, tt)
  answer_again r what depth most (No why) e = (tt, tt)

-- ---- all that is asked
module _ (rules : PassRules) (exact : IsExact rules.meets) (most : rules.depth ≤ DEPTH_MAX) where
  -- at its time
  one_again : (r : Replay) (what : Asked) → LinesAreAgain r (lines_of rules r.mesh what)
  one_again r what = by_call (rules.choice r.mesh what)
    where
      by_call : (call : Option Asked) → LinesAreAgain r (lines_asked (answer_by rules r.mesh) call)
      by_call (Some other) = answer_again rules.meets exact r other rules.depth most (answer_by rules r.mesh other) refl
      by_call None = tt

  pub all_again : (r : Replay) (all : List Asked) → LinesAreAgain r (lines_from rules r.mesh all)
  all_again r [] = tt
  all_again r (what ∷ rest) = by_test (ends rules.grouped here) (all_again (record r { mesh = next }) rest)
    where
      here : List LogLine
      here = lines_of rules r.mesh what

      next : Mesh
      next = mesh_from rules r.mesh what

      by_test : (b : Bool) → LinesAreAgain (record r { mesh = next }) (lines_from rules next rest) → LinesAreAgain r (here ++ cond b [] (lines_from rules next rest))
      by_test true later = each_then LineIsAgain r here [] (one_again r what) tt
      by_test false later =
          let P : Replay → Type 0 = λ s. LinesAreAgain s (lines_from rules next rest) in
          each_then LineIsAgain r here (lines_from rules next rest) (one_again r what) (subst P (sym (asked_makes rules r what)) later)

pub passes_again : PassesAreAgain
passes_again meets exact r terms most = (tt, all_again (rules_of meets terms) exact most r (candidates r.mesh terms.kind))
