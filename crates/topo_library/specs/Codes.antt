-- What the codes say of a tracker, and of what holds a tracker or none, which is called its holder:
-- of what it holds before a call and after it. `Calls` says it of the handle of a call.
use Rattle.std.specs.Prelude.{◌≡◌, ◌≢◌, ◌≤◌, ◌<◌, ◌↔◌, ◌⊎◌, ◌==◌, ℕ, Bool, true, Option, Some, None, Ok, Err}
use Rattle.std.specs.Prelude.{List, [], ◌∷◌, ◌++◌, length, drop, map, IsTrue}
use Rattle.std.specs.FinMap as finite
use Rattle.grid_base.specs.declared.TheConstants.{DEPTH_MAX, HALVINGS_MAX, VERTICES_MAX, FACES_MAX}
use Rattle.grid_base.specs.declared.Point.{Point}
use Rattle.mesh_base.specs.Mesh.{Mesh}
use Rattle.mesh_base.specs.Valid.{IsValidSurface}
use Rattle.mesh_base.specs.declared.UseWhy.{UseWhy}
use Rattle.edit_base.specs.declared.Asked.{Asked}
use Rattle.mesh_journal.specs.Journal.{mesh_in, kept_in}
use Rattle.mesh_sizing.specs.declared.sizing.Band.{Band}
use Rattle.mesh_rows.specs.declared.rows.MeshRows.{MeshRows}
use Rattle.mesh_base.specs.declared.limits.Scale.TheVariants.{Large}
use Rattle.mesh_rows.specs.Rows.{mesh_of_rows}
use Rattle.log_text.specs.declared.LogLine.{LogLine}
use Rattle.log_text.specs.Lines.{text_of_lines}
use Rattle.log_write.specs.Kept.{lines_where}
use Rattle.outside_io.specs.declared.stop.Stop.TheVariants.{NoMemory}
use Rattle.pass_run.specs.declared.passes.PassCount.{PassCount}
use Rattle.step_choose.specs.declared.TheConstants.{PASSES_MAX}
use Rattle.step_choose.specs.declared.Settings.{Settings}
use Rattle.step_text.specs.declared.Directive.{Directive}
use Rattle.track_engine.specs.Answers.{Nothing}
use Rattle.track_engine.specs.State.{State, unsaved, is_open}
use Rattle.track_engine.specs.Engines.{state_in}
use Rattle.track_engine.specs.Effects.{Effect, effect_of, edits_effect, edited_answers}
use Rattle.track_engine.specs.Invariant.{IsRunInvariant, HasRoom}
use Rattle.track_engine.specs.Parts.{Writes, FitTells}
use Rattle.track_held.specs.declared.given.GivenPoint.{GivenPoint}
use Rattle.track_held.specs.declared.given.GivenFace.{GivenFace}
use Rattle.track_held.specs.declared.given.NamedPoint.{NamedPoint}
use Rattle.track_held.specs.declared.new_tracker.MakeFault.{MakeFault}
use Rattle.track_held.specs.declared.numbered_tracker.NumberedFault.{NumberedFault}
use Rattle.track_held.specs.declared.given_edits.GivenEdit.{GivenEdit}
use Rattle.track_held.specs.declared.given_edits.ToldAnswer.{ToldAnswer}
use Rattle.track_held.specs.Asking.{CanBeAsked, shift_directive, CanAllBeAsked, shift_all_directive}
use Rattle.track_held.specs.Editing.{edits_asked, answer_told}
use Rattle.track_held.specs.Given.{given_mesh, make_fault}
use Rattle.track_held.specs.Held.{engine_in, keeps_lines, lines_in, log_in, goes_on}
use Rattle.track_held.specs.Numbered.{numbered_fault}
use Rattle.track_held.specs.Renumbered.{dense_state}
use Rattle.track_held.specs.Setting.{with_settings}
use Rattle.topo_library.specs.Faults.{make_place, numbered_place, use_place}
use Rattle.topo_library.specs.Tellings.{edits_told}
use Rattle.topo_library.specs.declared.results.TopoEdits.{TopoEdits}
use Rattle.topo_library.specs.declared.results.TopoCounted.{TopoCounted}
use Rattle.topo_library.specs.declared.fault.TopoFault.{TopoFault}
use Rattle.topo_library.specs.declared.tracker.Tracker.{Tracker}

-- where a tracker stands
abbrev pub tracker_state : Tracker → State
tracker_state t = state_in mesh_in kept_in (engine_in t.held)

-- the text of the lines that it has told since they were last taken or forgotten, where it keeps
-- them
abbrev pub tracker_log : Tracker → Option (List ℕ)
tracker_log t = log_in t.held

-- these lines
abbrev pub lines_told : Tracker → List LogLine
lines_told t = lines_in t.held

-- whether it keeps the lines that it tells
abbrev pub keeps : Tracker → Bool
keeps t = keeps_lines t.held

-- ---- a directive

-- no directive has stopped it, so that it takes the next
abbrev pub GoesOn : Tracker → Type 0
GoesOn t = goes_on t.held ≡ true

-- one more directive can be taken
abbrev pub HasRoomLeft : Tracker → Type 0
HasRoomLeft t = HasRoom 1 (engine_in t.held).run

-- What a code says of a call that does one directive with the tracker s, which then is t.
pub record HasDone (what : Directive) (s t : Tracker) (before after : TopoFault)
    (code : ℕ) : Type 0 where
  -- 0: its lines were told, and the tracker stands in the state after it
  pub done : code ≡ 0 →
      Writes (effect_of Nothing what (tracker_state s)) (tracker_state t)
      (tracker_log s) (tracker_log t) (Ok None)
  -- 1: there was no memory: nothing was told, or a part of its lines, and the tracker is stopped
  pub memory : code ≡ 1 →
      Writes (effect_of Nothing what (tracker_state s)) (tracker_state t)
      (tracker_log s) (tracker_log t) (Err NoMemory)
      × ¬ GoesOn t
  -- 2: it was refused, for the reason that the fault tells; the state and
  -- what was told are as they were
  pub refused : code ≡ 2 →
      (why : UseWhy) × (after ≡ use_place why)
      × Writes (effect_of Nothing what (tracker_state s)) (tracker_state t)
      (tracker_log s) (tracker_log t) (Ok (Some why))
      × (tracker_state t ≡ tracker_state s)
  -- 5 exactly where the tracker was stopped, and 6 exactly where no more
  -- directive can be taken: nothing is done
  pub stopped : code ≡ 5 ↔ ¬ GoesOn s
  pub spent : code ≡ 6 ↔ (GoesOn s × ¬ HasRoomLeft s)
  pub idle : (code ≡ 5) ⊎ (code ≡ 6) → t ≡ s
  -- only a refusal sets the fault
  pub fault : code ≢ 2 → after ≡ before
  -- only want of memory stops the tracker, and while it is not stopped its mesh is sound, closed
  -- and clear, and that of each open group
  pub goes_on : code ≢ 1 → goes_on t.held ≡ goes_on s.held
  pub kept : GoesOn t → IsRunInvariant (tracker_state t)
  -- no other code comes
  pub among : (code ≡ 0) ⊎ (code ≡ 1) ⊎ (code ≡ 2) ⊎ (code ≡ 5) ⊎ (code ≡ 6)

-- The same of a holder: 4 where it holds no tracker.
abbrev pub HolderHasDone : Directive → Option Tracker → Option Tracker → TopoFault → TopoFault → ℕ →
    Type 0
HolderHasDone what None new before after code = (code ≡ 4) × (new ≡ None) × (after ≡ before)
HolderHasDone what (Some s) new before after code =
    (t : Tracker) × (new ≡ Some t) × HasDone what s t before after code

-- 3, with what is held and the fault as they were
abbrev pub HolderIsBeyond : Option Tracker → Option Tracker → TopoFault → TopoFault → ℕ → Type 0
HolderIsBeyond old new before after code = (code ≡ 3) × (new ≡ old) × (after ≡ before)

-- What a call that does a directive tells beside its code: at 0 what the tracker s tells, and else
-- nothing.
pub record HasTold {X : Type 0} (tell : Tracker → X) (s : Tracker) (before after : X) (code : ℕ)
    : Type 0 where
  pub told : code ≡ 0 → after ≡ tell s
  pub left : code ≢ 0 → after ≡ before

-- the same of a holder
abbrev pub HolderHasTold : {X : Type 0} → (Tracker → X) → Option Tracker → X → X → ℕ → Type 0
HolderHasTold tell None before after code = after ≡ before
HolderHasTold tell (Some s) before after code = HasTold tell s before after code

-- ---- what is never refused

-- What a code says of a call that does with the tracker s what this effect says. The tracker then
-- is t.
pub record HasWritten (effect : Effect) (s t : Tracker) (code : ℕ) : Type 0 where
  -- 0: its lines were told, and the tracker stands in the state after it
  pub done : code ≡ 0 → Writes effect (tracker_state t) (tracker_log s) (tracker_log t) (Ok None)
  -- 1: there was no memory: nothing was told, or a part of its lines, and the tracker is stopped
  pub memory : code ≡ 1 →
      Writes effect (tracker_state t) (tracker_log s) (tracker_log t) (Err NoMemory) × ¬ GoesOn t
  -- the rest as of a directive
  pub stopped : code ≡ 5 ↔ ¬ GoesOn s
  pub spent : code ≡ 6 ↔ (GoesOn s × ¬ HasRoomLeft s)
  pub idle : (code ≡ 5) ⊎ (code ≡ 6) → t ≡ s
  pub goes_on : code ≢ 1 → goes_on t.held ≡ goes_on s.held
  pub kept : GoesOn t → IsRunInvariant (tracker_state t)
  pub among : (code ≡ 0) ⊎ (code ≡ 1) ⊎ (code ≡ 5) ⊎ (code ≡ 6)

-- the same of a holder, by what the effect is in the state where its tracker stands
abbrev pub HolderHasWritten : (State → Effect) → Option Tracker → Option Tracker → ℕ → Type 0
HolderHasWritten effect None new code = (code ≡ 4) × (new ≡ None)
HolderHasWritten effect (Some s) new code =
    (t : Tracker) × (new ≡ Some t) × HasWritten (effect (tracker_state s)) s t code

-- ---- edits that are asked for

-- What stands of a buffer and a number after a call that asks edits: at 0 the first items of the
-- buffer are what came of them, one for each that was asked up to the one that ended them, and their
-- number is told; else both are as they were.
pub record HasAnswered (asked : List Asked) (s : Tracker) (into now : List ToldAnswer)
    (before taken code : ℕ) : Type 0 where
  pub told : code ≡ 0 → let answers = map answer_told (edited_answers asked (tracker_state s)) in
      (now ≡ answers ++ drop (length answers) into) × (taken ≡ length answers)
  pub left : code ≢ 0 → (now ≡ into) × (taken ≡ before)

-- with nothing done, and nothing told
pub record HasLeft (s t : Tracker) (into now : List ToldAnswer) (before taken : ℕ) : Type 0 where
  pub tracker : t ≡ s
  pub buffer : now ≡ into
  pub number : taken ≡ before

-- What a code says of a call that asks the edits of rows: 3 where there is no room for as many
-- answers; else 1 where there was no memory for the edits, or 3 where a row is none, and then
-- nothing is done; or the edits are asked.
abbrev pub HasEdited : List GivenEdit → Tracker → Tracker → List ToldAnswer → List ToldAnswer → ℕ →
    ℕ → ℕ → Type 0
HasEdited rows s t into now before taken code =
    (length into < length rows → (code ≡ 3) × HasLeft s t into now before taken)
    × (length rows ≤ length into →
    ((code ≡ 1) × HasLeft s t into now before taken)
    ⊎ ((edits_asked rows ≡ None) × (code ≡ 3) × HasLeft s t into now before taken)
    ⊎ ((asked : List Asked) × (edits_asked rows ≡ Some asked)
    × HasWritten (edits_effect asked (tracker_state s)) s t code
    × HasAnswered asked s into now before taken code))

-- the same of a holder
abbrev pub HolderHasEdited : List GivenEdit → Option Tracker → Option Tracker → List ToldAnswer →
    List ToldAnswer → ℕ → ℕ → ℕ → Type 0
HolderHasEdited rows None new into now before taken code =
    (code ≡ 4) × (new ≡ None) × (now ≡ into) × (taken ≡ before)
HolderHasEdited rows (Some s) new into now before taken code =
    (t : Tracker) × (new ≡ Some t) × HasEdited rows s t into now before taken code

-- ---- a pass by a sizing

-- What a code says of a call that makes a pass with the tracker s, which then is t, by a sizing that
-- may answer so: at which point which band. It is never refused.
pub record HasFitted (may_size : Point → Band → Type 0) (s t : Tracker) (before after : TopoEdits)
    (code : ℕ) : Type 0 where
  -- 0: its lines were told, the tracker stands in the state after it, and it is told how many of
  -- the lines are of done edits, and of refused ones
  pub done : code ≡ 0 →
      (count : PassCount) × (after ≡ edits_told count)
      × FitTells may_size (tracker_state s) (tracker_state t)
      (tracker_log s) (tracker_log t) (Ok count)
  -- 1: there was no memory: nothing was told, or a part of its lines, and the tracker is stopped
  pub memory : code ≡ 1 →
      FitTells may_size (tracker_state s) (tracker_state t)
      (tracker_log s) (tracker_log t) (Err NoMemory)
      × ¬ GoesOn t
  -- but at 0 no number is told
  pub untold : code ≢ 0 → after ≡ before
  -- the rest as of a directive
  pub stopped : code ≡ 5 ↔ ¬ GoesOn s
  pub spent : code ≡ 6 ↔ (GoesOn s × ¬ HasRoomLeft s)
  pub idle : (code ≡ 5) ⊎ (code ≡ 6) → t ≡ s
  pub goes_on : code ≢ 1 → goes_on t.held ≡ goes_on s.held
  pub kept : GoesOn t → IsRunInvariant (tracker_state t)
  pub among : (code ≡ 0) ⊎ (code ≡ 1) ⊎ (code ≡ 5) ⊎ (code ≡ 6)

-- the same of a holder
abbrev pub HolderHasFitted : (Point → Band → Type 0) → Option Tracker → Option Tracker →
    TopoEdits → TopoEdits → ℕ → Type 0
HolderHasFitted may_size None new before after code =
    (code ≡ 4) × (new ≡ None) × (after ≡ before)
HolderHasFitted may_size (Some s) new before after code =
    (t : Tracker) × (new ≡ Some t) × HasFitted may_size s t before after code

-- ---- settings

-- each of these numbers is within its limit
pub record AreSettings (depth passes zones halvings : ℕ) : Type 0 where
  pub depth_fits : depth ≤ DEPTH_MAX
  pub passes_fits : passes ≤ PASSES_MAX
  pub zones_fits : zones ≤ 1
  pub halvings_fits : halvings ≤ HALVINGS_MAX

-- What a code says of a call that sets all settings.
pub record HasSet (set : Settings) (s t : Tracker) (code : ℕ) : Type 0 where
  -- 0: it goes by them
  pub done : code ≡ 0 → tracker_state t ≡ with_settings set (tracker_state s)
  -- 5 exactly where the tracker was stopped: nothing is done
  pub stopped : code ≡ 5 ↔ ¬ GoesOn s
  pub idle : code ≡ 5 → t ≡ s
  -- nothing is told of it, and no other code comes
  pub lines : lines_told t ≡ lines_told s
  pub keeps_on : keeps t ≡ keeps s
  pub goes_on : goes_on t.held ≡ goes_on s.held
  pub among : (code ≡ 0) ⊎ (code ≡ 5)

-- the same of a holder: 4 where it holds no tracker
abbrev pub HolderHasSet : Settings → Option Tracker → Option Tracker → ℕ → Type 0
HolderHasSet set None new code = (code ≡ 4) × (new ≡ None)
HolderHasSet set (Some s) new code = (t : Tracker) × (new ≡ Some t) × HasSet set s t code

-- ---- numbering anew

-- What a code says of a call that numbers vertices and faces anew.
pub record HasRenumbered (s t : Tracker) (code : ℕ) : Type 0 where
  -- 0: the tracker stands in the same state, but for the ids, and has told nothing
  pub done : code ≡ 0 → (tracker_state t ≡ dense_state (tracker_state s)) × (lines_told t ≡ [])
  -- 5 exactly where the tracker was stopped, and 7 exactly where it goes on and a group is open
  pub stopped : code ≡ 5 ↔ ¬ GoesOn s
  pub grouped : code ≡ 7 ↔ (GoesOn s × IsTrue (is_open (tracker_state s).groups))
  -- but at 0 nothing is changed
  pub left : code ≢ 0 → t ≡ s
  pub keeps_on : keeps t ≡ keeps s
  pub goes_on : goes_on t.held ≡ goes_on s.held
  pub kept : GoesOn t → IsRunInvariant (tracker_state t)
  -- 1 is want of memory, and no other code comes
  pub among : (code ≡ 0) ⊎ (code ≡ 1) ⊎ (code ≡ 5) ⊎ (code ≡ 7)

-- the same of a holder: 4 where it holds no tracker
abbrev pub HolderHasRenumbered : Option Tracker → Option Tracker → ℕ → Type 0
HolderHasRenumbered None new code = (code ≡ 4) × (new ≡ None)
HolderHasRenumbered (Some s) new code = (t : Tracker) × (new ≡ Some t) × HasRenumbered s t code

-- ---- shifts

-- one shift: 3 where it cannot be asked, and else what the code says of the directive
abbrev pub HolderHasShifted : NamedPoint → Option Tracker → Option Tracker → TopoFault → TopoFault →
    ℕ → Type 0
HolderHasShifted row old new before after code =
    (¬ CanBeAsked row → HolderIsBeyond old new before after code)
    × (CanBeAsked row → HolderHasDone (shift_directive row) old new before after code)

-- one shift of all vertices: the same
abbrev pub HolderHasShiftedAll : NamedPoint → Option Tracker → Option Tracker
    → TopoFault → TopoFault → ℕ → Type 0
HolderHasShiftedAll row old new before after code =
    (¬ CanAllBeAsked row → HolderIsBeyond old new before after code)
    × (CanAllBeAsked row → HolderHasDone (shift_all_directive row) old new before after code)

-- Each shift in order, up to the first that cannot be asked or is
-- not done, whose code is the answer.
abbrev pub HasShiftedEach : List NamedPoint → Tracker → Tracker → TopoFault → TopoFault → ℕ → Type 0
HasShiftedEach [] s t before after code = (code ≡ 0) × (t ≡ s) × (after ≡ before)
HasShiftedEach (row ∷ rows) s t before after code =
    (¬ CanBeAsked row × (code ≡ 3) × (t ≡ s) × (after ≡ before))
    ⊎ (CanBeAsked row × (code ≢ 0) × HasDone (shift_directive row) s t before after code)
    ⊎ (CanBeAsked row × ((mid : Tracker) × (between : TopoFault)
    × HasDone (shift_directive row) s mid before between 0
    × HasShiftedEach rows mid t between after code))

-- the same of a holder
abbrev pub HolderHasShiftedEach : List NamedPoint → Option Tracker → Option Tracker → TopoFault →
    TopoFault → ℕ → Type 0
HolderHasShiftedEach rows None new before after code = (code ≡ 4) × (new ≡ None) × (after ≡ before)
HolderHasShiftedEach rows (Some s) new before after code =
    (t : Tracker) × (new ≡ Some t) × HasShiftedEach rows s t before after code

-- ---- making

-- what is held is a tracker of the mesh, which is sound, closed and clear; nothing has stopped it or
-- is asked of it, it has told nothing, and keeps the lines that it tells
pub record IsMade (m : Mesh) (new : Option Tracker) : Type 0 where
  pub tracker : Tracker
  pub holds : new ≡ Some tracker
  pub state : tracker_state tracker ≡ unsaved m
  pub valid : IsValidSurface m
  pub goes_on : GoesOn tracker
  pub lines : lines_told tracker ≡ []
  pub keeps_on : keeps tracker ≡ true

-- What a code says of a call that makes a tracker of points and faces.
pub record HolderHasMade (points : List GivenPoint) (faces : List GivenFace) (new : Option Tracker)
    (before after : TopoFault) (code : ℕ) : Type 0 where
  -- 0: they have no fault, and what is held is a tracker of their mesh
  pub made : code ≡ 0 → (make_fault points faces ≡ None) × IsMade (given_mesh points faces) new
  -- 2: the fault is the first that they have
  pub refused : code ≡ 2 →
      (why : MakeFault) × (make_fault points faces ≡ Some why) × (after ≡ make_place why)
  -- and that is so, without memory, where there are too many points, or too many faces
  pub crowded : VERTICES_MAX < length points → code ≡ 2
  pub crowded_faces : FACES_MAX < length faces → code ≡ 2
  -- but at 0 none is held, and only a refusal sets the fault
  pub none : code ≢ 0 → new ≡ None
  pub fault : code ≢ 2 → after ≡ before
  -- 1 is want of memory, and no other code comes
  pub among : (code ≡ 0) ⊎ (code ≡ 1) ⊎ (code ≡ 2)

-- What a code says of a call that makes a tracker of vertices and faces with their ids. These are
-- the rows, of which the vertices are given so.
pub record HolderHasMadeNumbered (points : List NamedPoint) (rows : MeshRows) (new : Option Tracker)
    (before after : TopoFault) (code : ℕ) : Type 0 where
  -- 0: they have no fault, and what is held is a tracker of their mesh
  pub made : code ≡ 0 → (numbered_fault points rows ≡ None) × IsMade (mesh_of_rows Large rows) new
  -- 2: the fault is the first that they have
  pub refused : code ≡ 2 →
      (why : NumberedFault) × (numbered_fault points rows ≡ Some why) × (after ≡ numbered_place why)
  -- and that is so, without memory, where there are too many vertices
  pub crowded : VERTICES_MAX < length points → code ≡ 2
  -- but at 0 none is held, and only a refusal sets the fault
  pub none : code ≢ 0 → new ≡ None
  pub fault : code ≢ 2 → after ≡ before
  -- 1 is want of memory, and no other code comes
  pub among : (code ≡ 0) ⊎ (code ≡ 1) ⊎ (code ≡ 2)

-- ---- reading

-- What a code says of a call that puts rows into a buffer: what was there before, what is there
-- now, and the number that is told.
pub record HasPut {X : Type 0} (rows into now : List X) (before size code : ℕ) : Type 0 where
  -- 0: they are the first items of the buffer, and their number is told
  pub done : code ≡ 0 →
      (length rows ≤ length into) × (now ≡ rows ++ drop (length rows) into) × (size ≡ length rows)
  -- 3: they do not fit, nothing is put, and the number that is needed is told
  pub short : code ≡ 3 → (length into < length rows) × (now ≡ into) × (size ≡ length rows)
  -- 1: there was no memory, and nothing is put or told
  pub memory : code ≡ 1 → (now ≡ into) × (size ≡ before)
  -- no other code comes
  pub among : (code ≡ 0) ⊎ (code ≡ 1) ⊎ (code ≡ 3)

-- The same of a holder's tracker, which stays: 4 where there is none.
abbrev pub HolderHasPut : {X : Type 0} → (Tracker → List X) → Option Tracker → Option Tracker →
    List X → List X → ℕ → ℕ → ℕ → Type 0
HolderHasPut rows None new into now before size code =
    (code ≡ 4) × (new ≡ None) × (now ≡ into) × (size ≡ before)
HolderHasPut rows (Some t) new into now before size code =
    (new ≡ Some t) × HasPut (rows t) into now before size code

-- The text of the lines is put into a buffer, and at 0 they are taken: the tracker has told nothing
-- since. It stays in all else.
pub record HasTakenLog (s t : Tracker) (into now : List ℕ) (before size code : ℕ) : Type 0 where
  pub puts : HasPut (text_of_lines (lines_told s)) into now before size code
  pub taken : code ≡ 0 → lines_told t ≡ []
  pub left : code ≢ 0 → lines_told t ≡ lines_told s
  pub keeps_on : keeps t ≡ keeps s
  pub engine : engine_in t.held ≡ engine_in s.held
  pub goes_on : goes_on t.held ≡ goes_on s.held

-- the same of a holder
abbrev pub HolderHasTakenLog : Option Tracker → Option Tracker → List ℕ → List ℕ → ℕ → ℕ → ℕ →
    Type 0
HolderHasTakenLog None new into now before size code =
    (code ≡ 4) × (new ≡ None) × (now ≡ into) × (size ≡ before)
HolderHasTakenLog (Some s) new into now before size code =
    (t : Tracker) × (new ≡ Some t) × HasTakenLog s t into now before size code

-- The lines are forgotten. The tracker stays in all else.
pub record HasForgotten (s t : Tracker) : Type 0 where
  pub lines : lines_told t ≡ []
  pub keeps_on : keeps t ≡ keeps s
  pub engine : engine_in t.held ≡ engine_in s.held
  pub goes_on : goes_on t.held ≡ goes_on s.held

-- the same of a holder: 4 where there is none
abbrev pub HolderHasForgotten : Option Tracker → Option Tracker → ℕ → Type 0
HolderHasForgotten None new code = (code ≡ 4) × (new ≡ None)
HolderHasForgotten (Some s) new code =
    (code ≡ 0) × ((t : Tracker) × (new ≡ Some t) × HasForgotten s t)

-- The lines that are told are kept from here on, or none are, and those that were told are
-- forgotten. The tracker stays in all else.
pub record HasKept (on : Bool) (s t : Tracker) : Type 0 where
  pub keeps_on : keeps t ≡ on
  pub lines : lines_told t ≡ lines_where on (lines_told s)
  pub engine : engine_in t.held ≡ engine_in s.held
  pub goes_on : goes_on t.held ≡ goes_on s.held

-- the same of a holder: 4 where there is none
abbrev pub HolderHasKeptBy : Bool → Option Tracker → Option Tracker → ℕ → Type 0
HolderHasKeptBy on None new code = (code ≡ 4) × (new ≡ None)
HolderHasKeptBy on (Some s) new code =
    (code ≡ 0) × ((t : Tracker) × (new ≡ Some t) × HasKept on s t)

-- the same, by a number that is 1 where lines are kept, and 0 where none are: 3 where it
-- is neither, and else 4 where there is no tracker
abbrev pub HolderHasKept : ℕ → Option Tracker → Option Tracker → ℕ → Type 0
HolderHasKept on old new code =
    (1 < on → (code ≡ 3) × (new ≡ old)) × (on ≤ 1 → HolderHasKeptBy (on == 1) old new code)

-- how many lines were told, the live vertices and faces, the ids that come next, and the steps taken
abbrev pub counts_of : Tracker → TopoCounted
counts_of t = record {
  lines = length (lines_told t);
  vertices = finite.len (tracker_state t).mesh.points;
  faces = finite.len (tracker_state t).mesh.faces;
  next_vertex = (tracker_state t).mesh.next_vertex;
  next_face = (tracker_state t).mesh.next_face;
  steps = (tracker_state t).steps;
}

-- they are told of a holder's tracker, which stays: 4 where there is none
abbrev pub HolderHasCounted : Option Tracker → Option Tracker → TopoCounted → TopoCounted → ℕ →
    Type 0
HolderHasCounted None new before after code = (code ≡ 4) × (new ≡ None) × (after ≡ before)
HolderHasCounted (Some t) new before after code =
    (code ≡ 0) × (new ≡ Some t) × (after ≡ counts_of t)
