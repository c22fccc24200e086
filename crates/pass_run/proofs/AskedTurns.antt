-- The turns of what a pass asks: of one of which nothing is due there is no line.
use Rattle.std.proofs.Common.{◌≡◌, ℕ, ◌+◌, ◌<◌, ◌≤◌, Bool, true, false, cond, ◌&&◌, List, [], ◌∷◌, ◌++◌, map, length, drop, get_or, Option, Some, None, Result, refl, sym, ap, subst, ◌∙◌}
use Rattle.mesh_base.specs.Mesh.{Mesh}
use Rattle.edit_base.specs.declared.Asked.{Asked}
use Rattle.log_text.specs.declared.LogLine.{LogLine}
use Rattle.log_replay.specs.Replay.{at_mesh, mesh_after_lines}
use Rattle.outside_io.specs.declared.stop.Stop.{Stop}
use Rattle.pass_run.specs.Candidates.{is_due, choice_in}
use Rattle.pass_run.specs.PassLines.{PassRules, exactly, answer_by, lines_asked, mesh_asked, lines_of, ends, lines_from}
use Rattle.pass_run.specs.declared.passes.PassCount.{PassCount}
use Rattle.pass_run.specs.declared.terms.PassTerms.{PassTerms}
use Rattle.pass_run.specs.Results.{Stage, PassResult, exact_answer}
use Rattle.pass_run.proofs.Asking.{asked_makes, next_one, none_left}
use Rattle.pass_run.proofs.Stages.{SoFar}

-- where nothing is asked there is no line
skipped : (rules : PassRules) (m : Mesh) (what : Asked) (rest : List Asked) → rules.choice m what ≡ None → lines_from rules m (what ∷ rest) ≡ lines_from rules m rest
skipped rules m what rest none = ap (λ (call : Option Asked). let here = lines_asked (answer_by rules m) call in here ++ cond (ends rules.grouped here) [] (lines_from rules (mesh_asked (answer_by rules m) m call) rest)) none ∙ nothing rules.grouped
  where
    nothing : (b : Bool) → cond (b && false) [] (lines_from rules m rest) ≡ lines_from rules m rest
    nothing true = refl
    nothing false = refl

-- ---- the lines of what is left
module _ {X : Type 0} (ask : X → Asked) (terms : PassTerms) where
  abbrev pub asked_left : Mesh → List X → List LogLine
  asked_left m xs = lines_from (exactly terms) m (map ask xs)

  module _ (items : List X) (i : ℕ) (x : X) (inside : i < length items) (at : x ≡ get_or items i x) where
    abbrev rest : List X
    rest = drop (i + 1) items

    left_skipped : (m : Mesh) → is_due m terms.kind (ask x) ≡ false → asked_left m (drop i items) ≡ asked_left m rest
    left_skipped m none =
        ap (asked_left m) (next_one items i x inside at)
        ∙ skipped (exactly terms) m (ask x) (map ask rest) (ap (λ b. cond b (Some (ask x)) None) none)

    -- those of one and then of the rest
    pub left_taken : (m : Mesh) → (let here = lines_of (exactly terms) m (ask x) in
        asked_left m (drop i items) ≡ here ++ cond (ends terms.grouped here) [] (asked_left (mesh_after_lines m here) rest))
    left_taken m =
        let here = lines_of (exactly terms) m (ask x) in
        ap (asked_left m) (next_one items i x inside at)
        ∙ ap (λ n. here ++ cond (ends terms.grouped here) [] (asked_left n rest)) (sym (ap (λ r. r.mesh) (asked_makes (exactly terms) (at_mesh m) (ask x))))

    pub so_far_skipped : (from now : Stage) (all : List LogLine) (count : PassCount) → is_due now.mesh terms.kind (ask x) ≡ false
        → SoFar from now terms.grouped (asked_left now.mesh (drop i items)) all count → SoFar from now terms.grouped (asked_left now.mesh rest) all count
    so_far_skipped from now all count none s = subst (λ left. SoFar from now terms.grouped left all count) (left_skipped now.mesh none) s

  -- where none is left
  pub none_asked_left : (m : Mesh) (items : List X) (i : ℕ) → length items ≤ i → asked_left m (drop i items) ≡ []
  none_asked_left m items i over = ap (asked_left m) (none_left items i over)

-- ---- a turn: what is chosen is asked
pub turn_asked : (terms : PassTerms) (what : Asked) (old new : Stage) (r : Result PassCount Stop) (asked : Asked) (call : Option Asked) → asked ≡ what → call ≡ choice_in terms.kind old.mesh asked
    → PassResult (lines_asked (exact_answer terms.depth old.mesh) call) old new r → PassResult (lines_of (exactly terms) old.mesh what) old new r
turn_asked terms what old new r asked call is chosen h = subst (λ o. PassResult (lines_asked (exact_answer terms.depth old.mesh) o) old new r) (chosen ∙ ap (choice_in terms.kind old.mesh) is) h
