-- Candidates, each in turn.
use Rattle.std.proofs.Common.{◌≡◌, ℕ, ◌+◌, ◌<◌, ◌≤◌, ◌&&◌, Bool, true, false, cond, nat_lt, List, [], ◌∷◌, ◌++◌, length, get_or, drop, Option, Ok, Err, refl, ap, sym, subst, ◌∙◌, append_assoc, arith}
use Rattle.std.specs.Bool.{⊤}
use Rattle.std.proofs.lemmas.Bool.{false≢true}
use Rattle.std.proofs.lemmas.Bool.Decides.{nat_tests}
use Rattle.mesh_base.specs.Mesh.{Mesh}
use Rattle.mesh_base.specs.Sides.{IsClosed}
use Rattle.mesh_base.specs.Placements.{IsClearMesh}
use Rattle.edit_base.specs.declared.Asked.{Asked}
use Rattle.edit_base.specs.declared.Edit.{Edit}
use Rattle.log_text.specs.declared.LogLine.{LogLine}
use Rattle.log_replay.specs.Replay.{at_mesh, mesh_after_lines}
use Rattle.outside_io.specs.declared.stop.Stop.{Stop}
use Rattle.outside_io.specs.declared.stop.Stop.TheVariants.{NoMemory}
use Rattle.pass_run.specs.declared.passes.PassCount.{PassCount}
use Rattle.pass_run.specs.PassLines.{lines_asked, mesh_asked, ends, refused_in}
use Rattle.pass_run.specs.Results.{Stage, PassResult}
use Rattle.pass_run.specs.Turns.{lines_at_turns, AreChosen, TakesTurns}
use Rattle.pass_run.proofs.Asking.{call_makes, next_one, none_left, leads_there}
use Rattle.pass_run.proofs.SaidLines.{ends_by_count}
use Rattle.pass_run.proofs.Stages.{SoFar, so_far_none, so_far_over, so_far_all, so_far_wanting, step_done, step_in_part}

-- ---- whether a pass is over
pub not_over_yet : (grouped : Bool) (n : ℕ) → n ≡ 0 → (grouped && nat_lt 0 n) ≡ false
not_over_yet true n e = ap (nat_lt 0) e
not_over_yet false n e = refl

none_refused : (n : ℕ) → nat_lt 0 n ≡ false → n ≡ 0
none_refused n e = grind (arith, nat_tests)

-- where it was not over, it is where the next lines end it
pub over_is : (grouped : Bool) (before more : ℕ) (lines : List LogLine) → (grouped && nat_lt 0 before) ≡ false → more ≡ refused_in lines → (grouped && nat_lt 0 (before + more)) ≡ ends grouped lines
over_is true before more lines was is = ap (nat_lt 0) (none_before (none_refused before was) ∙ is) ∙ sym (ends_by_count true lines)
  where
    none_before : before ≡ 0 → before + more ≡ more
    none_before e = omega arith
over_is false before more lines was is = refl

module _ (may_choose : Mesh → Asked → Option Asked → Type 0) (answer : Mesh → Asked → Edit) (grouped : Bool) where
  abbrev lines : Mesh → List (Option Asked) → List LogLine
  lines m calls = lines_at_turns answer grouped m calls

  abbrev here_lines : Mesh → Option Asked → List LogLine
  here_lines m call = lines_asked (answer m) call

  -- what is chosen at the turns that are left, unless the pass is over
  abbrev pub Left : Bool → Bool → Mesh → List Asked → List (Option Asked) → Type 0
  Left true whole m candidates later = ⊤
  Left false whole m candidates later = AreChosen may_choose answer grouped whole m candidates later

  -- a pass is cut off here
  pub cut_off : (m : Mesh) (candidates : List Asked) → AreChosen may_choose answer grouped false m candidates []
  cut_off m [] = tt
  cut_off m (what ∷ rest) = refl

  -- The candidates before the ith have had their turns. Whatever is chosen later, the lines written and those of what is left are all.
  pub record IsTaking (from now : Stage) (candidates : List Asked) (i : ℕ) (count : PassCount) : Type 0 where
    pub calls : List (Option Asked)
    pub so_far : (later : List (Option Asked)) → SoFar from now grouped (lines_at_turns answer grouped now.mesh later) (lines_at_turns answer grouped from.mesh (calls ++ later)) count
    pub goes : (whole : Bool) (later : List (Option Asked)) → Left (grouped && nat_lt 0 count.refused) whole now.mesh (drop i candidates) later → AreChosen may_choose answer grouped whole from.mesh candidates (calls ++ later)

  pub taking_first : (s : Stage) (candidates : List Asked) (count : PassCount) → IsClosed s.mesh → IsClearMesh s.mesh → count.done ≡ 0 → count.refused ≡ 0 → IsTaking s s candidates 0 count
  taking_first s candidates count closed clear done refused = record {
    calls = [];
    so_far = λ later. so_far_none s grouped (lines s.mesh later) (lines s.mesh later) count refl closed clear done refused;
    goes = λ whole later h. subst (λ t. Left t whole s.mesh candidates later) (not_over_yet grouped count.refused refused) h;
  }

  -- the lines of what is asked, and then those of what is left
  call_split : (m : Mesh) (call : Option Asked) (later : List (Option Asked)) → lines_at_turns answer grouped m (call ∷ later)
      ≡ lines_asked (answer m) call ++ cond (ends grouped (lines_asked (answer m) call)) [] (lines_at_turns answer grouped (mesh_after_lines m (lines_asked (answer m) call)) later)
  call_split m call later = ap (λ n. here_lines m call ++ cond (ends grouped (here_lines m call)) [] (lines n later)) (sym (ap (λ r. r.mesh) (call_makes (answer m) (at_mesh m) call)))

  module _ (from now : Stage) (candidates : List Asked) (i : ℕ) (count : PassCount) (s : IsTaking from now candidates i count) where
    -- the pass is over
    pub taking_over : (grouped && nat_lt 0 count.refused) ≡ true → TakesTurns may_choose answer grouped candidates from now (Ok count)
    taking_over over = record {
      calls = s.calls ++ [];
      chosen = s.goes true [] (subst (λ t. Left t true now.mesh (drop i candidates) []) (sym over) tt);
      takes = so_far_over from now grouped (lines now.mesh []) (lines from.mesh (s.calls ++ [])) count (s.so_far []) over;
    }

    -- all candidates have had their turns
    pub taking_all : length candidates ≤ i → TakesTurns may_choose answer grouped candidates from now (Ok count)
    taking_all end = record {
      calls = s.calls ++ [];
      chosen = s.goes true [] (by_test (grouped && nat_lt 0 count.refused));
      takes = so_far_all from now grouped (lines now.mesh []) (lines from.mesh (s.calls ++ [])) count (s.so_far []) refl;
    }
      where
        by_test : (b : Bool) → Left b true now.mesh (drop i candidates) []
        by_test true = tt
        by_test false = subst (λ rest. AreChosen may_choose answer grouped true now.mesh rest []) (sym (none_left candidates i end)) tt

    -- memory is wanting where the next is chosen
    pub taking_wanting : TakesTurns may_choose answer grouped candidates from now (Err NoMemory)
    taking_wanting = record {
      calls = s.calls ++ [];
      chosen = s.goes false [] (by_test (grouped && nat_lt 0 count.refused));
      takes = so_far_wanting from now grouped (lines now.mesh []) (lines from.mesh (s.calls ++ [])) count (s.so_far []);
    }
      where
        by_test : (b : Bool) → Left b false now.mesh (drop i candidates) []
        by_test true = tt
        by_test false = cut_off now.mesh (drop i candidates)

  -- one more
  module _ (from now next : Stage) (candidates : List Asked) (i : ℕ) (count : PassCount) (s : IsTaking from now candidates i count) (what : Asked) (low : i < length candidates) (at : what ≡ get_or candidates i what)
      (going : (grouped && nat_lt 0 count.refused) ≡ false) (call : Option Asked) (choice : may_choose now.mesh what call) where
    abbrev new : List LogLine
    new = lines_asked (answer now.mesh) call

    abbrev end : Mesh
    end = mesh_asked (answer now.mesh) now.mesh call

    -- this and then the others are chosen
    here : (whole : Bool) (later : List (Option Asked)) → (ends grouped new ≡ false → AreChosen may_choose answer grouped whole end (drop (i + 1) candidates) later)
        → AreChosen may_choose answer grouped whole from.mesh candidates (s.calls ++ (call ∷ later))
    here whole later h =
        s.goes whole (call ∷ later) (subst (λ t. Left t whole now.mesh (drop i candidates) (call ∷ later)) (sym going)
        (subst (λ left. AreChosen may_choose answer grouped whole now.mesh left (call ∷ later)) (sym (next_one candidates i what low at)) (choice, h)))

    regroup : (later : List (Option Asked)) → (s.calls ++ call ∷ []) ++ later ≡ s.calls ++ (call ∷ later)
    regroup later = append_assoc s.calls (call ∷ []) later

    pub taking_on : (more counted : PassCount) → counted.done ≡ count.done + more.done → counted.refused ≡ count.refused + more.refused → PassResult (lines_asked (answer now.mesh) call) now next (Ok more) → IsTaking from next candidates (i + 1) counted
    taking_on more counted done refused r = record {
      calls = s.calls ++ call ∷ [];
      so_far = λ later.
          subst (λ l. SoFar from next grouped (lines next.mesh later) (lines from.mesh l) counted) (sym (regroup later))
          (step_done from now next grouped (lines now.mesh (call ∷ later)) new (lines from.mesh (s.calls ++ (call ∷ later))) (λ m. lines m later) count
          (call_split now.mesh call later) (s.so_far (call ∷ later)) going more counted r done refused);
      goes = λ whole later h. subst (λ l. AreChosen may_choose answer grouped whole from.mesh candidates l) (sym (regroup later)) (by_test whole later (ends grouped new) refl (subst (λ t. Left t whole next.mesh (drop (i + 1) candidates) later) over_now h));
    }
      where
        same : next.mesh ≡ end
        same = leads_there now.mesh end new next.mesh (call_makes (answer now.mesh) (at_mesh now.mesh) call) r.said.0

        over_now : (grouped && nat_lt 0 counted.refused) ≡ ends grouped new
        over_now = ap (λ n. grouped && nat_lt 0 n) refused ∙ over_is grouped count.refused more.refused new going r.refused

        by_test : (whole : Bool) (later : List (Option Asked)) (b : Bool) → ends grouped new ≡ b → Left b whole next.mesh (drop (i + 1) candidates) later → AreChosen may_choose answer grouped whole from.mesh candidates (s.calls ++ (call ∷ later))
        by_test whole later true is h = here whole later (λ e. absurd (false≢true (sym e ∙ is)))
        by_test whole later false is h = here whole later (λ e. subst (λ m. AreChosen may_choose answer grouped whole m (drop (i + 1) candidates) later) same h)

    -- it stops there
    pub taking_in_part : (stop : Stop) → PassResult (lines_asked (answer now.mesh) call) now next (Err stop) → TakesTurns may_choose answer grouped candidates from next (Err stop)
    taking_in_part stop r = record {
      calls = s.calls ++ (call ∷ []);
      chosen = here false [] (λ e. cut_off end (drop (i + 1) candidates));
      takes = step_in_part from now next grouped (lines now.mesh (call ∷ [])) new (lines from.mesh (s.calls ++ (call ∷ []))) (λ m. lines m []) count
          (call_split now.mesh call []) (s.so_far (call ∷ [])) going stop r;
    }
