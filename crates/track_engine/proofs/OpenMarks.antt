-- The meshes of open groups stay while their marks hold.
use Rattle.std.proofs.Common.{◌≡◌, ℕ, zero, suc, Bool, true, false, cond, not, List, [], ◌∷◌, map, length, take, slice_get, Some, None, refl, ap, sym, ◌∙◌, subst}
use Rattle.std.specs.Option.{unwrap_or, option_map}
use Rattle.mesh_base.specs.declared.Mark.{Mark}
use Rattle.mesh_base.specs.Mesh.{Mesh}
use Rattle.mesh_base.specs.Given.{mesh_of}
use Rattle.mesh_base.specs.Shifts.{Shifts}
use Rattle.mesh_base.specs.Kept.{BeginsWith, MarkHolds, StandsFor}
use Rattle.mesh_base.proofs.MarksHold.{slice_get-take, begins_itself, begins_along, holds_along}
use Rattle.step_text.specs.declared.Directive.TheVariants as directive
use Rattle.log_text.specs.declared.LogLine.TheVariants.{Close}
use Rattle.track_engine.specs.declared.open_group.OpenGroup.{OpenGroup}
use Rattle.track_engine.specs.declared.run_state.RunState.{RunState}
use Rattle.track_engine.specs.Groups.{is_open_in, failed_if}
use Rattle.track_engine.specs.State.{Group, State, asked_in, is_open, kept_for, group_of, groups_of, state_of}
use Rattle.track_engine.specs.Effects.{Proceeds, close_effect, fail_if, opened, kept_whole, taken_back}
use Rattle.track_engine.specs.Invariant.{MarksHold, left_by}

-- ---- fronts of lists of kept meshes

-- a list begins with each of its fronts
pub front_begins : (n : ℕ) (kept : List Mesh) → BeginsWith kept (take n kept)
front_begins zero kept = refl
front_begins (suc n) [] = refl
front_begins (suc n) (m ∷ kept) = ap (λ (l : List Mesh). m ∷ l) (front_begins n kept)

-- a list that begins with another has a front that begins with a front of it
pub fronts_begin : (n : ℕ) (new old : List Mesh) → BeginsWith new old → BeginsWith (take n new) (take n old)
fronts_begin zero new old h = refl
fronts_begin (suc n) new [] h = refl
fronts_begin (suc n) [] (m ∷ old) h = absurd cc
fronts_begin (suc n) (k ∷ new) (m ∷ old) h =
    let first : k ≡ m = cc in
    let rest : take (length old) new ≡ old = cc in
    ap (λ (x : Mesh). x ∷ take (length (take n old)) (take n new)) first ∙ ap (λ (l : List Mesh). m ∷ l) (fronts_begin n new old rest)

-- ---- marks

-- a mark that holds is one of the same mesh where the list begins with the list before
kept_along : (beyond : ℕ) (new old : List Mesh) (mark : Mark) → BeginsWith new old → MarkHolds beyond old mark → kept_for new mark ≡ kept_for old mark
kept_along beyond new old mark h is =
    ap (λ o. unwrap_or o (mesh_of [] [])) (sym (slice_get-take (length old) mark.place new is.kept_there) ∙ ap (λ (kept : List Mesh). slice_get kept mark.place) h)

pub groups_along : (beyond : ℕ) (new old : List Mesh) (groups : List OpenGroup) → BeginsWith new old → MarksHold beyond old groups → groups_of new groups ≡ groups_of old groups
groups_along beyond new old [] h is = refl
groups_along beyond new old (g ∷ outer) h is =
    let n : ℕ = g.mark.under in
    let within : BeginsWith old (take n old) = front_begins n old in
    ap (λ (m : Mesh). let first : Group = record { mesh = m; asked = asked_in m g.asked; failed = g.failed } in first ∷ groups_of new outer) (kept_along beyond new old g.mark h is.0)
    ∙ ap (λ (l : List Group). group_of old g ∷ l)
    (groups_along beyond new (take n old) outer (begins_along new old (take n old) h within) is.1 ∙ sym (groups_along beyond old (take n old) outer within is.1))

pub marks_along : (beyond : ℕ) (new old : List Mesh) (groups : List OpenGroup) → BeginsWith new old → MarksHold beyond old groups → MarksHold beyond new groups
marks_along beyond new old [] h is = tt
marks_along beyond new old (g ∷ outer) h is =
    (holds_along beyond new old g.mark h is.0, marks_along beyond (take g.mark.under new) (take g.mark.under old) outer (fronts_begin g.mark.under new old h) is.1)

-- ---- groups that fail

pub groups_failed : (kept : List Mesh) (b : Bool) (groups : List OpenGroup) → groups_of kept (failed_if b groups) ≡ fail_if b (groups_of kept groups)
groups_failed kept b [] = refl
groups_failed kept b (g ∷ outer) = refl

pub marks_failed : (beyond : ℕ) (kept : List Mesh) (b : Bool) (groups : List OpenGroup) → MarksHold beyond kept groups → MarksHold beyond kept (failed_if b groups)
marks_failed beyond kept b [] is = tt
marks_failed beyond kept b (g ∷ outer) is = is

-- both, after a directive that takes nothing back
pub groups_failed_along : (beyond : ℕ) (new old : List Mesh) (b : Bool) (groups : List OpenGroup) → BeginsWith new old → MarksHold beyond old groups
    → groups_of new (failed_if b groups) ≡ fail_if b (groups_of old groups)
groups_failed_along beyond new old b groups h is = groups_failed new b groups ∙ ap (fail_if b) (groups_along beyond new old groups h is)

pub marks_failed_along : (beyond : ℕ) (new old : List Mesh) (b : Bool) (groups : List OpenGroup) → BeginsWith new old → MarksHold beyond old groups → MarksHold beyond new (failed_if b groups)
marks_failed_along beyond new old b groups h is = marks_failed beyond new b groups (marks_along beyond new old groups h is)

pub is_open_of : (kept : List Mesh) (groups : List OpenGroup) → is_open (groups_of kept groups) ≡ is_open_in groups
is_open_of kept [] = refl
is_open_of kept (g ∷ outer) = refl

-- where none is open, nothing has to be kept
pub none_open : (beyond : ℕ) (kept : List Mesh) (groups : List OpenGroup) → is_open_in groups ≡ false → groups ≡ []
none_open beyond kept [] e = refl
none_open beyond kept (g ∷ outer) e = absurd cc

-- the meshes of open groups do not change
pub stack_failed : (b : Bool) (groups : List Group) → map (λ g. g.mesh) (fail_if b groups) ≡ map (λ g. g.mesh) groups
stack_failed b [] = refl
stack_failed b (g ∷ outer) = refl

-- ---- a group that is opened

module _ (beyond : ℕ) (m : Mesh) (old new : List Mesh) (run : RunState) (marks : MarksHold beyond old run.groups) (begins : BeginsWith new old) (group : OpenGroup) where
  pub opened_is : StandsFor new group.mark m → group.asked ≡ run.asked → group.failed ≡ false → opened (state_of m old run) ≡ state_of m new (record run { groups = group ∷ run.groups })
  opened_is stands asked failed =
      let mesh : kept_for new group.mark ≡ m = ap (λ o. unwrap_or o (mesh_of [] [])) stands in
      let first : ◌≡◌ {A = Group} (record { mesh = m; asked = asked_in m run.asked; failed = false }) (group_of new group) =
      λ i. record { mesh = sym mesh i; asked = asked_in (sym mesh i) (sym asked i); failed = sym failed i } in
      let rest = groups_along beyond new old run.groups begins marks in
      λ i. record { mesh = m; asked = asked_in m run.asked; set = run.set; steps = run.steps; saved = run.saved; groups = first i ∷ sym rest i }

  -- its mark holds, and when the mesh goes back to it, those of the groups around it
  pub marks_opened : MarkHolds beyond new group.mark → group.mark.under ≡ length old → MarksHold beyond new (group ∷ run.groups)
  marks_opened holds under =
      let front : take group.mark.under new ≡ old = ap (λ n. take n new) under ∙ begins in
      let P : List Mesh → Type 0 = λ kept. MarksHold beyond kept run.groups in
      (holds, subst P (sym front) marks)

-- ---- a group that is closed

module _ (beyond : ℕ) (m : Mesh) (kept : List Mesh) (run : RunState) (group : OpenGroup) (outer : List OpenGroup) (is : run.groups ≡ group ∷ outer) (marks : MarksHold beyond kept run.groups) where
  these : MarksHold beyond kept (group ∷ outer)
  these = let P : List OpenGroup → Type 0 = λ groups. MarksHold beyond kept groups in subst P is marks

  pub mark_holds : MarkHolds beyond kept group.mark
  mark_holds = these.0

  -- it is kept
  pub marks_kept : MarksHold beyond kept outer
  marks_kept = marks_along beyond kept (take group.mark.under kept) outer (front_begins group.mark.under kept) these.1

  pub state_kept : state_of m kept (record run { groups = outer }) ≡ kept_whole (groups_of kept outer) (state_of m kept run)
  state_kept = refl

  -- it is taken back
  pub marks_back : (back : List Mesh) → BeginsWith back (take group.mark.under kept) → MarksHold beyond back outer
  marks_back back begins = marks_along beyond back (take group.mark.under kept) outer begins these.1

  pub state_back : (then : Mesh) (back : List Mesh) (asked : Shifts) → StandsFor kept group.mark then → asked ≡ group.asked → BeginsWith back (take group.mark.under kept)
      → state_of then back (record run { asked = asked; groups = outer }) ≡ taken_back (group_of kept group) (groups_of kept outer) (state_of m kept run)
  state_back then back asked stands same begins =
      let front : List Mesh = take group.mark.under kept in
      let mesh : then ≡ kept_for kept group.mark = sym (ap (λ o. unwrap_or o (mesh_of [] [])) stands) in
      let rest : groups_of back outer ≡ groups_of kept outer =
      groups_along beyond back front outer begins these.1 ∙ sym (groups_along beyond kept front outer (front_begins group.mark.under kept) these.1) in
      λ i. record { mesh = mesh i; asked = asked_in (mesh i) (same i); set = run.set; steps = run.steps; saved = run.saved; groups = rest i }

-- the kept meshes begin with those that are left
pub begins_left : (kept : List Mesh) (groups : List OpenGroup) → BeginsWith kept (left_by directive.Close groups kept)
begins_left kept [] = begins_itself kept
begins_left kept (group ∷ outer) = by_test group.failed
  where
    by_test : (b : Bool) → BeginsWith kept (cond b (take group.mark.under kept) kept)
    by_test true = front_begins group.mark.under kept
    by_test false = begins_itself kept

-- ---- what closing a group is

-- where none is open
pub none_closed : (kept : List Mesh) (groups : List OpenGroup) (s : State) → None ≡ option_map (λ g. g.failed) (slice_get groups 0) → close_effect (groups_of kept groups) s ≡ Proceeds [] s
none_closed kept [] s e = refl
none_closed kept (g ∷ outer) s e = absurd cc

-- the line of the one that is closed
pub close_line : (kept : List Mesh) (groups : List OpenGroup) (s : State) (failed : Bool) → Some failed ≡ option_map (λ g. g.failed) (slice_get groups 0)
    → (next : State) × (close_effect (groups_of kept groups) s ≡ Proceeds (Close (not failed) ∷ []) next)
close_line kept [] s failed e = absurd cc
close_line kept (g ∷ outer) s failed e =
    let same : failed ≡ g.failed = cc in
    let next : State = cond g.failed (taken_back (group_of kept g) (groups_of kept outer) s) (kept_whole (groups_of kept outer) s) in
    (next, ap (λ b. Proceeds (Close (not b) ∷ []) next) (sym same))

module _ (kept : List Mesh) (groups : List OpenGroup) (s : State) (failed : Bool) (group : OpenGroup) (outer : List OpenGroup) (is : groups ≡ group ∷ outer) (told : Some failed ≡ option_map (λ g. g.failed) (slice_get groups 0)) where
  flag_is : failed ≡ group.failed
  flag_is = let e : Some failed ≡ Some group.failed = told ∙ ap (λ (gs : List OpenGroup). option_map (λ g. g.failed) (slice_get gs 0)) is in cc

  close_is : close_effect (groups_of kept groups) s
      ≡ Proceeds (Close (not failed) ∷ []) (cond failed (taken_back (group_of kept group) (groups_of kept outer) s) (kept_whole (groups_of kept outer) s))
  close_is =
      ap (λ gs. close_effect (groups_of kept gs) s) is
      ∙ ap (λ b. Proceeds (Close (not b) ∷ []) (cond b (taken_back (group_of kept group) (groups_of kept outer) s) (kept_whole (groups_of kept outer) s))) (sym flag_is)

  -- it is taken back
  pub goes_back : failed ≡ true → close_effect (groups_of kept groups) s ≡ Proceeds (Close (not failed) ∷ []) (taken_back (group_of kept group) (groups_of kept outer) s)
  goes_back e = close_is ∙ ap (λ b. Proceeds (Close (not failed) ∷ []) (cond b (taken_back (group_of kept group) (groups_of kept outer) s) (kept_whole (groups_of kept outer) s))) e

  -- it is kept
  pub stays_open : failed ≡ false → close_effect (groups_of kept groups) s ≡ Proceeds (Close (not failed) ∷ []) (kept_whole (groups_of kept outer) s)
  stays_open e = close_is ∙ ap (λ b. Proceeds (Close (not failed) ∷ []) (cond b (taken_back (group_of kept group) (groups_of kept outer) s) (kept_whole (groups_of kept outer) s))) e

  -- the kept meshes that are left
  pub left_back : failed ≡ true → left_by directive.Close groups kept ≡ take group.mark.under kept
  left_back e = ap (λ gs. left_by directive.Close gs kept) is ∙ ap (λ b. cond b (take group.mark.under kept) kept) (sym flag_is ∙ e)
