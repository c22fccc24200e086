-- What is chosen at the turns of a kind of pass is what its rules choose.
use Rattle.std.proofs.Common.{◌≡◌, Bool, true, false, cond, is_ok, List, [], ◌∷◌, ◌++◌, Option, Result, Ok, Err, refl, ap, sym, subst, ◌∙◌, append_assoc, append-nil}
use Rattle.std.proofs.lemmas.Bool.{false≢true}
use Rattle.mesh_base.specs.Mesh.{Mesh}
use Rattle.edit_base.specs.declared.Asked.{Asked}
use Rattle.log_text.specs.declared.LogLine.{LogLine}
use Rattle.outside_io.specs.declared.stop.Stop.{Stop}
use Rattle.pass_run.specs.declared.passes.PassCount.{PassCount}
use Rattle.pass_run.specs.declared.terms.PassTerms.{PassTerms}
use Rattle.pass_run.specs.Candidates.{choice_in}
use Rattle.pass_run.specs.PassLines.{PassRules, exactly, answer_by, lines_asked, mesh_asked, ends, lines_from}
use Rattle.pass_run.specs.Results.{Stage, written_at, PassResult, exact_answer}
use Rattle.pass_run.specs.Said.{SaidInPart}
use Rattle.pass_run.specs.Turns.{lines_at_turns, AreChosen, TakesTurns}
use Rattle.pass_run.proofs.SaidLines.{said_part_more}

-- these lines are all, or the first of them
pub record IsFirstPart (whole : Bool) (part all : List LogLine) : Type 0 where
  pub more : List LogLine
  pub is : part ++ more ≡ all
  pub none : whole ≡ true → more ≡ []

-- where a first part was said, a first part of all was
pub part_result : (part all : List LogLine) (old new : Stage) (result : Result PassCount Stop) → IsFirstPart (is_ok result) part all → PassResult part old new result → PassResult all old new result
part_result part all old new (Ok count) p r =
    subst (λ l. PassResult l old new (Ok count)) (sym (append-nil part) ∙ ap (λ l. part ++ l) (sym (p.none refl)) ∙ p.is) r
part_result part all old new (Err stop) p r = record {
  said = subst (λ l. SaidInPart old.mesh new.mesh (written_at old) (written_at new) l) p.is (said_part_more old.mesh new.mesh (written_at old) (written_at new) part p.more r.said);
  done = tt;
  refused = tt;
  keeps = r.keeps;
}

module _ (rules : PassRules) (whole : Bool) where
  -- what these rules choose
  abbrev Chosen : Mesh → Asked → Option Asked → Type 0
  Chosen m what call = call ≡ rules.choice m what

  -- one after another
  pub chosen_lines : (m : Mesh) (candidates : List Asked) (calls : List (Option Asked)) → AreChosen Chosen (answer_by rules) rules.grouped whole m candidates calls
      → IsFirstPart whole (lines_at_turns (answer_by rules) rules.grouped m calls) (lines_from rules m candidates)
  chosen_lines m [] [] h = record { more = []; is = refl; none = λ e. refl }
  chosen_lines m [] (call ∷ calls) h = absurd h
  chosen_lines m (what ∷ rest) [] h = record { more = lines_from rules m (what ∷ rest); is = refl; none = λ e. absurd (false≢true (sym h ∙ e)) }
  chosen_lines m (what ∷ rest) (call ∷ calls) h = by_test (ends rules.grouped here) refl (λ e. chosen_lines next rest calls (h.1 e))
    where
      here : List LogLine
      here = lines_asked (answer_by rules m) call

      next : Mesh
      next = mesh_asked (answer_by rules m) m call

      later : List LogLine
      later = lines_at_turns (answer_by rules) rules.grouped next calls

      all_is : here ++ cond (ends rules.grouped here) [] (lines_from rules next rest) ≡ lines_from rules m (what ∷ rest)
      all_is = ap (λ (c : Option Asked). let l = lines_asked (answer_by rules m) c in l ++ cond (ends rules.grouped l) [] (lines_from rules (mesh_asked (answer_by rules m) m c) rest)) h.0

      by_test : (b : Bool) → ends rules.grouped here ≡ b → (ends rules.grouped here ≡ false → IsFirstPart whole later (lines_from rules next rest)) → IsFirstPart whole (here ++ cond (ends rules.grouped here) [] later) (lines_from rules m (what ∷ rest))
      by_test true e on = record {
        more = [];
        is = append-nil (here ++ cond (ends rules.grouped here) [] later) ∙ ap (λ b. here ++ cond b [] later) e ∙ sym (ap (λ b. here ++ cond b [] (lines_from rules next rest)) e) ∙ all_is;
        none = λ w. refl;
      }
      by_test false e on =
          let p = on e in
          record {
            more = p.more;
            is = ap (λ b. (here ++ cond b [] later) ++ p.more) e ∙ append_assoc here later p.more ∙ ap (λ l. here ++ l) p.is ∙ sym (ap (λ b. here ++ cond b [] (lines_from rules next rest)) e) ∙ all_is;
            none = p.none;
          }

-- the turns of the candidates of a kind of pass
pub kind_turns : (terms : PassTerms) (candidates : List Asked) (old new : Stage) (result : Result PassCount Stop)
    → TakesTurns (λ m what call. call ≡ choice_in terms.kind m what) (exact_answer terms.depth) terms.grouped candidates old new result → PassResult (lines_from (exactly terms) old.mesh candidates) old new result
kind_turns terms candidates old new result t =
    part_result (lines_at_turns (exact_answer terms.depth) terms.grouped old.mesh t.calls) (lines_from (exactly terms) old.mesh candidates) old new result
    (chosen_lines (exactly terms) (is_ok result) old.mesh candidates t.calls t.chosen) t.takes
