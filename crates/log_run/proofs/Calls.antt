-- What the calls that take lines make of what is kept.
use Rattle.std.proofs.Common.{◌≡◌, ℕ, ◌<◌, Bool, true, false, not, List, [], ◌∷◌, ◌++◌, map, length, take, Result, Ok, Err, refl, sym, ap, subst, ◌∙◌, arith}
use Rattle.std.specs.Prelude.{◌↔◌, IsTrue, IfOk, slice_get, slice_set, Some}
use Rattle.std.specs.FinMap as finite
use Rattle.std.proofs.lemmas.Bool.{false≢true}
use Rattle.std.proofs.lemmas.List.{length-map}
use Rattle.grid_base.specs.declared.NoMemory.{NoMemory}
use Rattle.mesh_base.specs.declared.ShiftOf.{ShiftOf}
use Rattle.mesh_base.specs.declared.Mark.{Mark}
use Rattle.mesh_base.specs.declared.How.{How}
use Rattle.mesh_base.specs.Mesh.{Mesh, IsLiveVertex}
use Rattle.mesh_base.specs.Changes.{with_solid}
use Rattle.mesh_base.specs.Shifts.{Shifts, with_moves}
use Rattle.mesh_base.specs.Kept.{BeginsWith, MarkHolds, StandsFor}
use Rattle.edit_base.specs.declared.Change.{Change}
use Rattle.edit_any.specs.Dispatch.{edited}
use Rattle.step_text.specs.declared.TheConstants.{GROUPS_MAX}
use Rattle.mesh_ids.specs.NewIds.{MayTake, with_vertex_ids, with_face_ids}
use Rattle.log_text.specs.declared.LogLine.{LogLine}
use Rattle.log_text.specs.declared.NewIds.{NewIds}
use Rattle.log_text.specs.declared.LogLine.TheVariants as line
use Rattle.log_replay.specs.Replay.{Replay, closed}
use Rattle.log_run.specs.declared.replay_state.StepSoFar.{StepSoFar}
use Rattle.log_run.specs.declared.replay_state.ReplayState.{ReplayState}
use Rattle.log_run.specs.States.{LogState, with_line}
use Rattle.log_replay.specs.Moves.{MayMove}
use Rattle.edit_any.specs.Answered.{IsAnswered}
use Rattle.log_run.specs.Fits.{FitsFirst}
use Rattle.log_run.specs.Groups.{mesh_at, stack_of, MarksHold}
use Rattle.log_run.specs.Parts.{StepHolds, Holds, state_now, Takes}
use Rattle.log_run.proofs.OpenMarks.{stack_along, marks_along, stack_opened, marks_opened, marks_kept, mesh_back, marks_back, stack_back}
use Rattle.log_run.proofs.StepMoves.{holds_more}
use Rattle.log_run.proofs.Promised.{accepted}

-- where a replay stands, part by part
state_is : (m n : Mesh) (moves others : Shifts) (stack stacked : List Mesh) (begun : Bool) → n ≡ m → others ≡ moves → stacked ≡ stack
    → ◌≡◌ {A = LogState} (record { replay = record { mesh = n; moves = others; stack = stacked }; is_begun = begun; has_line = true; is_spent = false })
    (record { replay = record { mesh = m; moves = moves; stack = stack }; is_begun = begun; has_line = true; is_spent = false })
state_is m n moves others stack stacked begun mesh same groups =
    λ i. record { replay = record { mesh = mesh i; moves = same i; stack = groups i }; is_begun = begun; has_line = true; is_spent = false }

-- the first line changes nothing
pub first_stays : (m : Mesh) (kept : List Mesh) (at : ReplayState) (l : LogLine) → FitsFirst l → state_now m kept at ≡ with_line (state_now m kept at) l
first_stays m kept at (line.First version) fits = refl
first_stays m kept at l fits = absurd fits

-- where no step is begun, nothing is said of its lists
no_step : {P : Type 0} (begun : Bool) → begun ≡ false → begun ≡ true → P
no_step begun e h = absurd (false≢true (sym e ∙ h))

module _ (beyond : ℕ) (m : Mesh) (kept : List Mesh) (at : ReplayState) (holds : Holds beyond m kept at) where
  -- ---- a step that begins
  pub begun : at.begun ≡ false → (k : ℕ) (step : StepSoFar) → step.moves ≡ [] → StepHolds m step → Takes beyond (line.Step k) m kept at m kept (record { marks = at.marks; step = step; begun = true }) (Ok true)
  begun e k step none rests =
      accepted beyond (line.Step k) m kept at m kept (record { marks = at.marks; step = step; begun = true }) e
      (state_is m m [] step.moves (stack_of kept at.marks) (stack_of kept at.marks) true refl none refl)
      (record { marks = holds.marks; step = λ h. rests })

  -- ---- a move
  pub moved : at.begun ≡ true → (s : ShiftOf) (i : ℕ) (step : StepSoFar) → MayMove m at.step.moves s → slice_get (finite.keys m.points) i ≡ Some s.v
      → step ≡ record { moves = at.step.moves ++ s ∷ []; shifts = slice_set at.step.shifts i s; named = slice_set at.step.named i true }
      → Takes beyond (line.Move s) m kept at m kept (record { marks = at.marks; step = step; begun = at.begun }) (Ok true)
  moved e s i step may place put =
      let moves : step.moves ≡ at.step.moves ++ s ∷ [] = ap (λ (x : StepSoFar). x.moves) put in
      accepted beyond (line.Move s) m kept at m kept (record { marks = at.marks; step = step; begun = at.begun }) (e, may)
      (state_is m m (at.step.moves ++ s ∷ []) step.moves (stack_of kept at.marks) (stack_of kept at.marks) at.begun refl moves refl)
      (record {
        marks = holds.marks;
        step = λ h. holds_more m at.step step i s (holds.step e) may place moves (ap (λ (x : StepSoFar). x.shifts) put) (ap (λ (x : StepSoFar). x.named) put);
      })

  -- ---- a step that ends
  pub ended : at.begun ≡ true → (how : How) (n : Mesh) (left : List Mesh) → n ≡ with_moves m at.step.moves → MarksHold beyond left at.marks → stack_of left at.marks ≡ stack_of kept at.marks
      → (none : Shifts) → none ≡ []
      → Takes beyond (line.Moved how) m kept at n left (record { marks = at.marks; step = record { moves = none; shifts = at.step.shifts; named = at.step.named }; begun = false }) (Ok true)
  ended e how n left made marks stack none empty =
      accepted beyond (line.Moved how) m kept at n left (record { marks = at.marks; step = record { moves = none; shifts = at.step.shifts; named = at.step.named }; begun = false }) e
      (state_is (with_moves m at.step.moves) n [] none (stack_of kept at.marks) (stack_of left at.marks) false made empty stack)
      (record { marks = marks; step = λ h. no_step false refl h })

  -- ---- a vertex that is made solid
  pub solid : at.begun ≡ false → (v : ℕ) (n : Mesh) (left : List Mesh) → IsLiveVertex m v → n ≡ with_solid m v → MarksHold beyond left at.marks → stack_of left at.marks ≡ stack_of kept at.marks
      → Takes beyond (line.Solid v) m kept at n left at (Ok true)
  solid e v n left live made marks stack =
      accepted beyond (line.Solid v) m kept at n left at (e, live)
      (state_is (with_solid m v) n at.step.moves at.step.moves (stack_of kept at.marks) (stack_of left at.marks) at.begun made refl stack)
      (record { marks = marks; step = λ h. no_step at.begun e h })

  -- ---- vertices, or faces, that take new ids
  pub none_open : length at.marks ≡ 0 → at.marks ≡ []
  none_open = none at.marks
    where
      none : (marks : List Mark) → length marks ≡ 0 → marks ≡ []
      none [] e = refl
      none (mark ∷ marks) e = absurd (omega (arith, e))

  no_stack : at.marks ≡ [] → (left : List Mesh) → stack_of left at.marks ≡ stack_of kept at.marks
  no_stack none left = ap (stack_of left) none ∙ sym (ap (stack_of kept) none)

  no_marks : at.marks ≡ [] → (left : List Mesh) → MarksHold beyond left at.marks
  no_marks none left = let P : List Mark → Type 0 = λ l. MarksHold beyond left l in subst P (sym none) tt

  pub vertices_taken : at.begun ≡ false → at.marks ≡ [] → (new : NewIds) (n : Mesh) (left : List Mesh) → MayTake (finite.len m.points) new.ids new.next → n ≡ with_vertex_ids m new.ids new.next
      → Takes beyond (line.Vertices new) m kept at n left at (Ok true)
  vertices_taken e none new n left may made =
      accepted beyond (line.Vertices new) m kept at n left at (e, ap (stack_of kept) none, may)
      (state_is (with_vertex_ids m new.ids new.next) n at.step.moves at.step.moves (stack_of kept at.marks) (stack_of left at.marks) at.begun made refl (no_stack none left))
      (record { marks = no_marks none left; step = λ h. no_step at.begun e h })

  pub faces_taken : at.begun ≡ false → at.marks ≡ [] → (new : NewIds) (n : Mesh) (left : List Mesh) → MayTake (finite.len m.faces) new.ids new.next → n ≡ with_face_ids m new.ids new.next
      → Takes beyond (line.Faces new) m kept at n left at (Ok true)
  faces_taken e none new n left may made =
      accepted beyond (line.Faces new) m kept at n left at (e, ap (stack_of kept) none, may)
      (state_is (with_face_ids m new.ids new.next) n at.step.moves at.step.moves (stack_of kept at.marks) (stack_of left at.marks) at.begun made refl (no_stack none left))
      (record { marks = no_marks none left; step = λ h. no_step at.begun e h })

  -- ---- an edit
  pub edit_taken : at.begun ≡ false → (change : Change) (n : Mesh) (left : List Mesh) (result : Result Bool NoMemory) → IfOk result (λ told. IsTrue told ↔ IsAnswered m change) → (result ≡ Ok true → n ≡ edited m change)
      → MarksHold beyond left at.marks → stack_of left at.marks ≡ stack_of kept at.marks → Takes beyond (line.Did change) m kept at n left at result
  edit_taken e change n left (Ok told) is made marks stack = record {
    fits = (λ t. (e, is.0 t), λ f. is.1 f.1);
    taken = λ t. state_is (edited m change) n at.step.moves at.step.moves (stack_of kept at.marks) (stack_of left at.marks) at.begun (made t) refl stack;
    holds = λ t. record { marks = marks; step = λ h. no_step at.begun e h };
  }
  edit_taken e change n left (Err fault) is made marks stack = record { fits = tt; taken = λ t. cc; holds = λ t. cc }

  -- ---- a group that is opened
  few : (n : ℕ) → n ≡ length at.marks → n < GROUPS_MAX → length (stack_of kept at.marks) < GROUPS_MAX
  few n e h = subst (λ k. k < GROUPS_MAX) (e ∙ sym (length-map at.marks (mesh_at kept))) h

  pub opened : at.begun ≡ false → (count : ℕ) (n : Mesh) (left : List Mesh) (mark : Mark) (marks : List Mark) → count ≡ length at.marks → count < GROUPS_MAX
      → n ≡ m → BeginsWith left kept → MarkHolds beyond left mark → StandsFor left mark m → mark.under ≡ length kept → marks ≡ mark ∷ at.marks
      → Takes beyond line.Group m kept at n left (record { marks = marks; step = at.step; begun = at.begun }) (Ok true)
  opened e count n left mark marks counted small same begins there stands under pushed =
      accepted beyond line.Group m kept at n left (record { marks = marks; step = at.step; begun = at.begun }) (e, few count counted small)
      (state_is m n at.step.moves at.step.moves (m ∷ stack_of kept at.marks) (stack_of left marks) at.begun same refl
      (ap (stack_of left) pushed ∙ stack_opened beyond kept left at.marks holds.marks begins mark m stands))
      (record {
        marks = let P : List Mark → Type 0 = λ l. MarksHold beyond left l in subst P (sym pushed) (marks_opened beyond kept left at.marks holds.marks begins mark there under);
        step = λ h. no_step at.begun e h;
      })

  -- ---- a group that is closed
  module _ (free : at.begun ≡ false) (mark : Mark) (outer : List Mark) (is : at.marks ≡ mark ∷ outer) where
    these : MarksHold beyond kept (mark ∷ outer)
    these = let P : List Mark → Type 0 = λ l. MarksHold beyond kept l in subst P is holds.marks

    some_open : 0 < length (stack_of kept at.marks)
    some_open = let P : List Mark → Type 0 = λ l. 0 < length (stack_of kept l) in let h : 0 < length (stack_of kept (mark ∷ outer)) = omega arith in subst P (sym is) h

    -- the replay, by the group that is closed
    abbrev closed_by : Bool → List Mark → LogState
    closed_by b l = record { replay = closed b (stack_of kept l) (record { mesh = m; moves = at.step.moves; stack = stack_of kept at.marks }); is_begun = at.begun; has_line = true; is_spent = false }

    pub closed_kept : (keeps : Bool) → keeps ≡ true → Takes beyond (line.Close keeps) m kept at m kept (record { marks = outer; step = at.step; begun = at.begun }) (Ok true)
    closed_kept keeps e =
        accepted beyond (line.Close keeps) m kept at m kept (record { marks = outer; step = at.step; begun = at.begun }) (free, some_open)
        (λ i. closed_by (sym e i) (sym is i))
        (record { marks = marks_kept beyond kept mark outer these; step = λ h. no_step at.begun free h })

    pub closed_back : (keeps : Bool) → keeps ≡ false → (n : Mesh) (left : List Mesh) → StandsFor kept mark n → BeginsWith left (take mark.under kept)
        → Takes beyond (line.Close keeps) m kept at n left (record { marks = outer; step = at.step; begun = at.begun }) (Ok true)
    closed_back keeps e n left stands begins =
        accepted beyond (line.Close keeps) m kept at n left (record { marks = outer; step = at.step; begun = at.begun }) (free, some_open)
        (state_is (mesh_at kept mark) n at.step.moves at.step.moves (stack_of kept outer) (stack_of left outer) at.begun (mesh_back beyond kept mark outer these n stands) refl (stack_back beyond kept mark outer these left begins)
        ∙ (λ i. closed_by (sym e i) (sym is i)))
        (record { marks = marks_back beyond kept mark outer these left begins; step = λ h. no_step at.begun free h })
