-- The collapses that are done are done again, without those that were tried and refused between them.
use Rattle.std.proofs.Common.{◌≡◌, ℕ, Bool, true, false, cond, List, [], ◌∷◌, ◌++◌, Option, Some, None, refl, sym, ap, subst, ◌∙◌, append-nil}
use Rattle.std.specs.Option.{option_or}
use Rattle.mesh_base.specs.Mesh.{Mesh}
use Rattle.edit_base.specs.declared.Asked.{Asked}
use Rattle.edit_base.specs.declared.Edit.{Edit}
use Rattle.edit_base.specs.declared.Edit.TheVariants.{Done, No}
use Rattle.edit_base.specs.declared.Why.{Why}
use Rattle.edit_base.specs.Clauses.{mesh_after}
use Rattle.edit_base.specs.Reasons.{reason_if}
use Rattle.edit_any.specs.Dispatch.{edited}
use Rattle.mesh_measure.specs.Components.{component_vertices}
use Rattle.edit_drop.specs.Drop.{answer_at, after_one, if_done, after_each, done_of, after_round, done_in_round, does_some, after_rounds, done_in_rounds, any_live, any_solid, first_why, collapses_among, why_left, drop_mesh, drop_why}
use Rattle.edit_drop.specs.Laws.{is_done, AreDone, NoneIsLeft, AreDoneAgain, CollapsesAreDoneAgain}

-- ---- no reason is there
no_first : (one two : Option Why) → option_or one two ≡ None → two ≡ None
no_first None two h = h
no_first (Some why) two h = absurd cc

no_second : (one two : Option Why) → option_or one two ≡ None → one ≡ None
no_second None two h = refl
no_second (Some why) two h = absurd cc

not_held : (b : Bool) (why : Why) → reason_if b why ≡ None → b ≡ false
not_held false why h = refl
not_held true why h = absurd cc

pub none_is_left : NoneIsLeft
none_is_left depth m v none =
    let vs = component_vertices m v in
    let end = drop_mesh depth m v in
    not_held (any_live end vs) (first_why depth end (collapses_among end vs)) (no_second (why_left depth vs end) None (no_first _ _ (no_first _ _ none)))

module _ (depth : ℕ) where
  -- ---- some and then others
  pub after_both : (m : Mesh) (xs ys : List Asked) → after_each depth m (xs ++ ys) ≡ after_each depth (after_each depth m xs) ys
  after_both m [] ys = refl
  after_both m (x ∷ xs) ys = after_both (after_one depth m x) xs ys

  pub both_done : (m : Mesh) (xs ys : List Asked) → AreDone depth m xs → AreDone depth (after_each depth m xs) ys → AreDone depth m (xs ++ ys)
  both_done m [] ys here then = then
  both_done m (x ∷ xs) ys here then = (here.0, both_done (after_one depth m x) xs ys here.1 then)

  -- these are done, and leave this mesh
  abbrev pub Leads : Mesh → List Asked → Mesh → Type 0
  Leads m xs end = AreDone depth m xs × (after_each depth m xs ≡ end)

  pub leads_both : (m next end : Mesh) (xs ys : List Asked) → Leads m xs next → Leads next ys end → Leads m (xs ++ ys) end
  leads_both m next end xs ys here then =
      let there : Leads (after_each depth m xs) ys end = subst (λ n. Leads n ys end) (sym here.1) then in
      (both_done m xs ys here.0 there.0, after_both m xs ys ∙ there.1)

  -- ---- edits that are tried
  pub tried_again : (m : Mesh) (asked : List Asked) → Leads m (done_of depth m asked) (after_each depth m asked)
  tried_again m [] = (tt, refl)
  tried_again m (what ∷ rest) = by_answer (answer_at depth m what) refl (tried_again next rest)
    where
      next : Mesh
      next = after_one depth m what

      then : List Asked
      then = done_of depth next rest

      end : Mesh
      end = after_each depth next rest

      by_answer : (answer : Edit) → answer_at depth m what ≡ answer → Leads next then end → Leads m (if_done what (answer_at depth m what) ++ then) end
      by_answer (Done change) is leads = subst (λ a. Leads m (if_done what a ++ then) end) (sym is) ((ap is_done is, leads.0), leads.1)
      by_answer (No why) is leads =
          let stays : next ≡ m = ap (mesh_after edited m) is in
          subst (λ a. Leads m (if_done what a ++ then) end) (sym is) (subst (λ n. Leads n then end) stays leads)

  -- ---- rounds
  pub rounds_again : (turns vs : List ℕ) (m : Mesh) → Leads m (done_in_rounds turns depth vs m) (after_rounds turns depth vs m)
  rounds_again [] vs m = (tt, refl)
  rounds_again (turn ∷ turns) vs m = by_test (does_some depth vs m) (rounds_again turns vs next)
    where
      next : Mesh
      next = after_round depth vs m

      here : List Asked
      here = done_in_round depth vs m

      leads : Leads m here next
      leads = tried_again m (collapses_among m vs)

      by_test : (b : Bool) → Leads next (done_in_rounds turns depth vs next) (after_rounds turns depth vs next)
          → Leads m (here ++ cond b (done_in_rounds turns depth vs next) []) (cond b (after_rounds turns depth vs next) next)
      by_test true then = leads_both m next (after_rounds turns depth vs next) here (done_in_rounds turns depth vs next) leads then
      by_test false then = leads_both m next next here [] leads (tt, refl)

pub done_again : CollapsesAreDoneAgain
done_again depth m v =
    let vs = component_vertices m v in
    let leads = rounds_again depth vs vs m in
    record { done = leads.0; mesh = leads.1 }
