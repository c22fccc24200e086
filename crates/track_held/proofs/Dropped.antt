-- What came of a dropped component: all of its vertices are gone, or all is as it was.
use Rattle.std.proofs.Common.{◌≡◌, ◌≢◌, ℕ, zero, suc, Bool, true, false, cond, not, ◌&&◌, ◌||◌, nat_lt, is_some, List, [], ◌∷◌, ◌++◌, Option, Some, None, Result, Ok, Err, IfOk, refl, sym, ap, subst, ◌∙◌}
use Rattle.std.proofs.lemmas.Bool.{false≢true}
use Rattle.std.specs.List.{filter, list_any}
use Rattle.grid_decided.specs.Decided.{meets_exactly}
use Rattle.mesh_base.specs.Mesh.{Mesh}
use Rattle.edit_base.specs.declared.Asked.{Asked}
use Rattle.edit_base.specs.declared.Change.{Change}
use Rattle.edit_base.specs.declared.Change.TheVariants as change
use Rattle.edit_base.specs.declared.Edit.{Edit}
use Rattle.edit_base.specs.declared.Edit.TheVariants.{Done, No}
use Rattle.edit_base.specs.declared.Why.{Why}
use Rattle.edit_base.specs.declared.Why.TheVariants as why
use Rattle.edit_base.specs.Clauses.{mesh_after}
use Rattle.edit_any.specs.Dispatch.{edited}
use Rattle.edit_drop.specs.Drop.{answer_at, after_one, after_each, any_live, drop_collapses, drop_mesh, drop_why}
use Rattle.edit_drop.specs.Laws.{is_done, AreDone, NoneIsLeft, CollapsesAreDoneAgain}
use Rattle.edit_drop.proofs.Again.{none_is_left, done_again}
use Rattle.log_text.specs.declared.LogLine.{LogLine}
use Rattle.mesh_measure.specs.Components.{component_vertices}
use Rattle.outside_io.specs.declared.stop.Stop.{Stop}
use Rattle.pass_run.specs.Edits.{edit_rules, is_no, answers_from}
use Rattle.pass_run.specs.PassLines.{PassRules, line_of, is_refused, refused_in, ends, lines_from, mesh_after_all}
use Rattle.track_engine.specs.State.{State}
use Rattle.track_engine.specs.Parts.{Writes}
use Rattle.track_engine.specs.Effects.{Effect, Proceeds, opened, kept_whole, edited_lines, edited_mesh, edited_answers, after_edits}
use Rattle.track_held.specs.declared.given_edits.ToldAnswer.{ToldAnswer}
use Rattle.track_held.specs.Editing.{answer_told, change_told, why_told, reason_at}
use Rattle.track_held.specs.Folding.{untold, is_refused as any_refused, crowded_after, are_clean, last_told, unless_crowded, group_told, group_effect, unless_why, told_unless_why}
use Rattle.track_held.specs.Dropping.{drop_effect, drop_told}
use Rattle.track_held.proofs.Grouped.{Text, done_state}

-- ---- edits of which each is done, in a group
module _ (depth : ℕ) where
  abbrev rules : PassRules
  rules = edit_rules meets_exactly depth true

  abbrev lines : Mesh → List Asked → List LogLine
  lines m asked = lines_from (edit_rules meets_exactly depth true) m asked

  one_refuses_none : (what : Asked) (rest : List Asked) (answer : Edit) (next : Mesh) → is_done answer ≡ true → refused_in (lines next rest) ≡ 0
      → refused_in ((line_of what answer ∷ []) ++ cond (ends true (line_of what answer ∷ [])) [] (lines next rest)) ≡ 0
  one_refuses_none what rest (Done change) next is then = then
  one_refuses_none what rest (No reason) next is then = absurd (false≢true is)

  pub none_refused : (m : Mesh) (asked : List Asked) → AreDone depth m asked → refused_in (lines m asked) ≡ 0
  none_refused m [] done = refl
  none_refused m (what ∷ rest) done =
      one_refuses_none what rest (answer_at depth m what) (after_one depth m what) done.0 (none_refused (after_one depth m what) rest done.1)

  one_leads : (what : Asked) (rest : List Asked) (answer : Edit) (next end : Mesh) → is_done answer ≡ true → mesh_after_all rules next rest ≡ end
      → cond (ends true (line_of what answer ∷ [])) next (mesh_after_all rules next rest) ≡ end
  one_leads what rest (Done change) next end is then = then
  one_leads what rest (No reason) next end is then = absurd (false≢true is)

  pub done_lead : (m : Mesh) (asked : List Asked) → AreDone depth m asked → mesh_after_all (edit_rules meets_exactly depth true) m asked ≡ after_each depth m asked
  done_lead m [] done = refl
  done_lead m (what ∷ rest) done =
      one_leads what rest (answer_at depth m what) (after_one depth m what) (after_each depth (after_one depth m what) rest) done.0 (done_lead (after_one depth m what) rest done.1)

  -- the last answer is none of a refused edit
  change_is_done : (c : Change) → (change_told c).why ≡ 0
  change_is_done (change.Split a b w at) = refl
  change_is_done (change.Flip a b) = refl
  change_is_done (change.Collapse a b at) = refl
  change_is_done (change.Zip a b e f turn) = refl
  change_is_done (change.Pinch v at copies) = refl

  one_told : (told : ToldAnswer) (answer : Edit) (rest : List Edit) → is_done answer ≡ true → ((next : ToldAnswer) → next.why ≡ 0 → (last_told next rest).why ≡ 0)
      → (last_told told (answer ∷ cond (true && is_no answer) [] rest)).why ≡ 0
  one_told told (Done c) rest is then = then (change_told c) (change_is_done c)
  one_told told (No reason) rest is then = absurd (false≢true is)

  pub last_is_done : (m : Mesh) (asked : List Asked) → AreDone depth m asked → (told : ToldAnswer) → told.why ≡ 0 → (last_told told (answers_from (edit_rules meets_exactly depth true) m asked)).why ≡ 0
  last_is_done m [] done told is = is
  last_is_done m (what ∷ rest) done told is =
      one_told told (answer_at depth m what) (answers_from rules (after_one depth m what) rest) done.0 (last_is_done (after_one depth m what) rest done.1)

-- ---- the collapses of a drop, in the group that is opened for them
module _ (v : ℕ) (s : State) where
  abbrev depth : ℕ
  depth = s.set.depth

  abbrev collapses : List Asked
  collapses = drop_collapses s.set.depth s.mesh v

  none_is_refused : any_refused (drop_collapses s.set.depth s.mesh v) (opened s) ≡ false
  unfolding edited_lines
  none_is_refused = ap (λ n. nat_lt 0 n) (none_refused s.set.depth s.mesh (drop_collapses s.set.depth s.mesh v) (done_again s.set.depth s.mesh v).done)

  mesh_there : edited_mesh (drop_collapses s.set.depth s.mesh v) (opened s) ≡ drop_mesh s.set.depth s.mesh v
  unfolding edited_mesh
  mesh_there =
      let again = done_again s.set.depth s.mesh v in
      done_lead s.set.depth s.mesh (drop_collapses s.set.depth s.mesh v) again.done ∙ again.mesh

  last_there : (last_told (reason_at 0 0 0 0) (edited_answers (drop_collapses s.set.depth s.mesh v) (opened s))).why ≡ 0
  unfolding edited_answers
  last_there = last_is_done s.set.depth s.mesh (drop_collapses s.set.depth s.mesh v) (done_again s.set.depth s.mesh v).done (reason_at 0 0 0 0) refl

  abbrev last : ToldAnswer
  last = last_told (reason_at 0 0 0 0) (edited_answers (drop_collapses s.set.depth s.mesh v) (opened s))

  abbrev kept : State
  kept = kept_whole s.groups (after_edits (drop_collapses s.set.depth s.mesh v) (opened s))

  clean_at_zero : (refused : Bool) (crowded : Option ℕ) → refused ≡ false → (cond refused last (unless_crowded v crowded last)).why ≡ 0 → (not refused && not (is_some crowded)) ≡ true
  clean_at_zero false None none is = refl
  clean_at_zero false (Some w) none is = absurd cc
  clean_at_zero true crowded none is = absurd (false≢true (sym none))

  unclean_else : (refused : Bool) (crowded : Option ℕ) → refused ≡ false → (cond refused last (unless_crowded v crowded last)).why ≢ 0 → (not refused && not (is_some crowded)) ≡ false
  unclean_else false None none not = absurd (not last_there)
  unclean_else false (Some w) none not = refl
  unclean_else true crowded none not = absurd (false≢true (sym none))

  is_reason : (reason : Why) → (why_told reason).why ≢ 0
  is_reason why.NoEdge is = absurd cc
  is_reason why.Crowded is = absurd cc
  is_reason why.Edge is = absurd cc
  is_reason why.Shared is = absurd cc
  is_reason why.Full is = absurd cc
  is_reason why.Doubled is = absurd cc
  is_reason why.OneFan is = absurd cc
  is_reason (why.Hit pair) is = absurd cc
  is_reason why.Solid is = absurd cc

  module _ (t : State) (old new : Text) where
    group_state : Writes (group_effect (drop_collapses s.set.depth s.mesh v) v s) t old new (Ok None) → t ≡ cond (are_clean (drop_collapses s.set.depth s.mesh v) v (opened s)) kept s
    group_state writes = done_state _ _ t old new writes

    -- all its vertices are gone, where no reason is told
    pub drop_gone : Writes (drop_effect v s) t old new (Ok None) → (drop_told v s).why ≡ 0 → any_live t.mesh (component_vertices s.mesh v) ≡ false
    drop_gone = by_why (drop_why s.set.depth s.mesh v) refl
      where
        by_why : (reason : Option Why) → drop_why s.set.depth s.mesh v ≡ reason → Writes (unless_why reason (group_effect (drop_collapses s.set.depth s.mesh v) v s) s) t old new (Ok None)
            → (told_unless_why reason (group_told (drop_collapses s.set.depth s.mesh v) v (opened s))).why ≡ 0 → any_live t.mesh (component_vertices s.mesh v) ≡ false
        by_why None none writes is =
            let clean = clean_at_zero _ (crowded_after (drop_collapses s.set.depth s.mesh v) v (opened s)) none_is_refused is in
            let after : t ≡ kept = group_state writes ∙ ap (λ b. cond b kept s) clean in
            ap (λ (u : State). any_live u.mesh (component_vertices s.mesh v)) after
            ∙ ap (λ (m : Mesh). any_live m (component_vertices s.mesh v)) mesh_there
            ∙ none_is_left s.set.depth s.mesh v none
        by_why (Some reason) e writes is = absurd (is_reason reason is)

    -- or all is as it was
    pub drop_left : Writes (drop_effect v s) t old new (Ok None) → (drop_told v s).why ≢ 0 → t ≡ s
    drop_left = by_why (drop_why s.set.depth s.mesh v)
      where
        by_why : (reason : Option Why) → Writes (unless_why reason (group_effect (drop_collapses s.set.depth s.mesh v) v s) s) t old new (Ok None)
            → (told_unless_why reason (group_told (drop_collapses s.set.depth s.mesh v) v (opened s))).why ≢ 0 → t ≡ s
        by_why None writes not =
            let unclean = unclean_else _ (crowded_after (drop_collapses s.set.depth s.mesh v) v (opened s)) none_is_refused not in
            group_state writes ∙ ap (λ b. cond b kept s) unclean
        by_why (Some reason) writes not = done_state [] s t old new writes

-- ---- what a drop is, by what is found of its component
module _ (v : ℕ) (s : State) where
  pub drop_is_group : drop_why s.set.depth s.mesh v ≡ None → group_effect (drop_collapses s.set.depth s.mesh v) v s ≡ drop_effect v s
  drop_is_group none = ap (λ o. unless_why o (group_effect (drop_collapses s.set.depth s.mesh v) v s) s) (sym none)

  pub drop_tells_group : drop_why s.set.depth s.mesh v ≡ None → group_told (drop_collapses s.set.depth s.mesh v) v (opened s) ≡ drop_told v s
  drop_tells_group none = ap (λ o. told_unless_why o (group_told (drop_collapses s.set.depth s.mesh v) v (opened s))) (sym none)

  pub no_drop_is_nothing : (reason : Why) → drop_why s.set.depth s.mesh v ≡ Some reason → Proceeds [] s ≡ drop_effect v s
  no_drop_is_nothing reason is = ap (λ o. unless_why o (group_effect (drop_collapses s.set.depth s.mesh v) v s) s) (sym is)

  pub no_drop_tells_why : (reason : Why) → drop_why s.set.depth s.mesh v ≡ Some reason → why_told reason ≡ drop_told v s
  no_drop_tells_why reason is = ap (λ o. told_unless_why o (group_told (drop_collapses s.set.depth s.mesh v) v (opened s))) (sym is)

  -- the collapses are those that were found, in the state in which they were
  module _ (asked : List Asked) (now : State) (same : now ≡ s) (found : asked ≡ drop_collapses s.set.depth s.mesh v) (none : drop_why s.set.depth s.mesh v ≡ None) where
    pub asked_is_drop : group_effect asked v now ≡ drop_effect v s
    asked_is_drop = ap (λ (l : List Asked). group_effect l v now) found ∙ ap (λ (u : State). group_effect (drop_collapses s.set.depth s.mesh v) v u) same ∙ drop_is_group none

    pub asked_tells_drop : group_told asked v (opened now) ≡ drop_told v s
    asked_tells_drop = ap (λ (l : List Asked). group_told l v (opened now)) found ∙ ap (λ (u : State). group_told (drop_collapses s.set.depth s.mesh v) v (opened u)) same ∙ drop_tells_group none

  -- what a call that writes so and tells so says of the vertices, and of the state
  pub gone_by : (t : State) (old new : Text) (r : Result ToldAnswer Stop) → Writes (drop_effect v s) t old new (untold r) → IfOk r (λ told. told ≡ drop_told v s) → IfOk r (λ told. told.why ≡ 0 → any_live t.mesh (component_vertices s.mesh v) ≡ false)
  gone_by t old new (Ok told) writes is = λ zero. drop_gone v s t old new writes (sym (ap (λ (x : ToldAnswer). x.why) is) ∙ zero)
  gone_by t old new (Err stop) writes is = tt

  pub left_by : (t : State) (old new : Text) (r : Result ToldAnswer Stop) → Writes (drop_effect v s) t old new (untold r) → IfOk r (λ told. told ≡ drop_told v s) → IfOk r (λ told. told.why ≢ 0 → t ≡ s)
  left_by t old new (Ok told) writes is = λ not. drop_left v s t old new writes (λ zero. not (ap (λ (x : ToldAnswer). x.why) is ∙ zero))
  left_by t old new (Err stop) writes is = tt
