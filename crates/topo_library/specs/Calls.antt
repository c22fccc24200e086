-- What the codes say of the calls, by the parameters of a call.
use Rattle.std.specs.Prelude.{◌≡◌, ℕ, List, Option, Some, None}
use Rattle.in_out.specs.InOut.{InOut, value_before, value_after}
use Rattle.grid_base.specs.declared.Point.{Point}
use Rattle.grid_base.specs.Meeting.{MeetAt}
use Rattle.grid_base.specs.Separation.{Passes}
use Rattle.edit_base.specs.declared.PassKind.{PassKind}
use Rattle.mesh_sizing.specs.declared.sizing.Band.{Band}
use Rattle.step_text.specs.declared.Directive.{Directive}
use Rattle.step_text.specs.declared.Directive.TheVariants.{Pass}
use Rattle.track_engine.specs.Effects.{Effect}
use Rattle.track_engine.specs.State.{State}
use Rattle.track_engine.specs.Told.{pass_told}
use Rattle.track_held.specs.declared.band_table.Cells.{Cells}
use Rattle.track_held.specs.declared.band_table.GivenBand.{GivenBand}
use Rattle.track_held.specs.declared.band_table.TableFault.{TableFault}
use Rattle.track_held.specs.declared.given.GivenFace.{GivenFace}
use Rattle.track_held.specs.declared.given.GivenPoint.{GivenPoint}
use Rattle.track_held.specs.declared.given.NamedFace.{NamedFace}
use Rattle.track_held.specs.declared.given.NamedPoint.{NamedPoint}
use Rattle.track_held.specs.declared.given_edits.GivenEdit.{GivenEdit}
use Rattle.track_held.specs.declared.given_edits.ToldAnswer.{ToldAnswer}
use Rattle.track_held.specs.Fitting.{always}
use Rattle.track_held.specs.Numbered.{given_rows}
use Rattle.track_held.specs.Tables.{table_fault, by_cells}
use Rattle.topo_library.specs.Alone.{AreInBox, places, CanPass, HasTested}
use Rattle.topo_library.specs.Codes.{tracker_state, AreSettings, HolderHasDone, HolderHasTold, HolderHasWritten, HolderHasEdited}
use Rattle.topo_library.specs.Codes.{HolderHasFitted, HolderHasSet, HolderHasRenumbered, HolderHasShifted, HolderHasShiftedAll}
use Rattle.topo_library.specs.Codes.{HolderHasShiftedEach, HolderHasMade, HolderHasMadeNumbered, HolderHasPut, HolderHasTakenLog}
use Rattle.topo_library.specs.Codes.{HolderHasForgotten, HolderHasKept, HolderHasCounted}
use Rattle.topo_library.specs.Faults.{table_place}
use Rattle.topo_library.specs.Folded.{HolderHasClosedFold}
use Rattle.topo_library.specs.Logged.{HolderHasBegunLog, HolderHasEndedLog}
use Rattle.topo_library.specs.Tellings.{edits_told, settings_at}
use Rattle.topo_library.specs.declared.alone.TopoFive.{TopoFive}
use Rattle.topo_library.specs.declared.fault.TopoFault.{TopoFault}
use Rattle.topo_library.specs.declared.handle.Topo.{Topo}
use Rattle.topo_library.specs.declared.results.TopoCounted.{TopoCounted}
use Rattle.topo_library.specs.declared.results.TopoEdits.{TopoEdits}
use Rattle.topo_library.specs.declared.tracker.Tracker.{Tracker}

-- the tracker that a handle holds before the call, or none
abbrev pub held_before : InOut Topo → Option Tracker
held_before topo = (value_before topo).owned.value

-- and after it
abbrev pub held_after : InOut Topo → Option Tracker
held_after topo = (value_after topo).owned.value

-- what the handle holds is as it was
abbrev pub HoldsTheSame : InOut Topo → Type 0
HoldsTheSame topo = held_after topo ≡ held_before topo

-- this is as it was
abbrev pub IsLeft : {X : Type 0} → InOut X → Type 0
IsLeft it = value_after it ≡ value_before it

-- a number is beyond its limit: 3, and what the handle holds and this are as they were
abbrev pub HandleIsBeyond : {X : Type 0} → InOut Topo → InOut X → ℕ → Type 0
HandleIsBeyond topo it code = (code ≡ 3) × HoldsTheSame topo × IsLeft it

-- ---- directives

-- the code of a call that does a directive with the tracker of the handle
abbrev pub HandleHasDone : Directive → InOut Topo → InOut TopoFault → ℕ → Type 0
HandleHasDone what topo fault code =
    HolderHasDone what (held_before topo) (held_after topo)
    (value_before fault) (value_after fault) code

-- what the call tells beside its code: at 0 what is told of the tracker before it, and else it is as
-- it was
abbrev pub HandleHasTold : {X : Type 0} → (Tracker → X) → InOut Topo → InOut X → ℕ → Type 0
HandleHasTold tell topo answer code =
    HolderHasTold tell (held_before topo) (value_before answer) (value_after answer) code

-- the directive is a pass
abbrev pub HandleHasPassed : PassKind → InOut Topo → InOut TopoFault → ℕ → Type 0
HandleHasPassed kind topo fault code = HandleHasDone (Pass kind) topo fault code

-- and it tells how many of its edits were done, and how many refused
abbrev pub HandleHasToldPass : PassKind → InOut Topo → InOut TopoEdits → ℕ → Type 0
HandleHasToldPass kind topo edits code =
    HandleHasTold (λ t. edits_told (pass_told kind (tracker_state t))) topo edits code

-- one shift
abbrev pub HandleHasShifted : NamedPoint → InOut Topo → InOut TopoFault → ℕ → Type 0
HandleHasShifted row topo fault code =
    HolderHasShifted row (held_before topo) (held_after topo)
    (value_before fault) (value_after fault) code

-- one shift of all vertices
abbrev pub HandleHasShiftedAll : NamedPoint → InOut Topo → InOut TopoFault → ℕ → Type 0
HandleHasShiftedAll row topo fault code =
    HolderHasShiftedAll row (held_before topo) (held_after topo)
    (value_before fault) (value_after fault) code

-- each shift, up to the first that cannot be asked or is not done
abbrev pub HandleHasShiftedEach : List NamedPoint → InOut Topo → InOut TopoFault → ℕ → Type 0
HandleHasShiftedEach rows topo fault code =
    HolderHasShiftedEach rows (held_before topo) (held_after topo)
    (value_before fault) (value_after fault) code

-- ---- what is never refused

-- the code of a call that does with the tracker of the handle what the effect is in its state
abbrev pub HandleHasWritten : (State → Effect) → InOut Topo → ℕ → Type 0
HandleHasWritten effect topo code = HolderHasWritten effect (held_before topo) (held_after topo) code

-- the edits of rows are asked, and what came of each is told, and of how many
abbrev pub HandleHasEdited : List GivenEdit → InOut Topo → InOut (List ToldAnswer) → InOut ℕ → ℕ →
    Type 0
HandleHasEdited rows topo answers taken code =
    HolderHasEdited rows (held_before topo) (held_after topo)
    (value_before answers) (value_after answers) (value_before taken) (value_after taken) code

-- the fold at the edge with these ends is closed, and it is told what came of it
abbrev pub HandleHasClosedFold : Option (ℕ × ℕ) → InOut Topo → InOut ToldAnswer → ℕ → Type 0
HandleHasClosedFold edge topo answer code =
    HolderHasClosedFold edge (held_before topo) (held_after topo)
    (value_before answer) (value_after answer) code

-- a pass by a sizing that may answer so, at which point which band
abbrev pub HandleHasFitted : (Point → Band → Type 0) → InOut Topo → InOut TopoEdits → ℕ → Type 0
HandleHasFitted may_size topo edits code =
    HolderHasFitted may_size (held_before topo) (held_after topo)
    (value_before edits) (value_after edits) code

-- by the same band everywhere
abbrev pub HandleHasFittedTo : Band → InOut Topo → InOut TopoEdits → ℕ → Type 0
HandleHasFittedTo band topo edits code = HandleHasFitted (always band) topo edits code

-- by cells and a band for each, where they have no fault
abbrev pub HandleHasFittedBy : Cells → List GivenBand → InOut Topo → InOut TopoEdits → ℕ → Type 0
HandleHasFittedBy cells bands topo edits code =
    table_fault cells bands ≡ None → HandleHasFitted (by_cells cells bands) topo edits code

-- where they have one, 2: it is told, and nothing is done
abbrev pub HandleRefusesTable : Cells → List GivenBand → InOut Topo → InOut TopoEdits →
    InOut TopoFault → ℕ → Type 0
HandleRefusesTable cells bands topo edits fault code =
    (why : TableFault) → table_fault cells bands ≡ Some why →
    (code ≡ 2) × HoldsTheSame topo × IsLeft edits × (value_after fault ≡ table_place why)

-- where each setting is within its limit, the code of a call that sets them all
abbrev pub HandleHasSet : ℕ → ℕ → ℕ → ℕ → InOut Topo → ℕ → Type 0
HandleHasSet depth passes zones halvings topo code =
    AreSettings depth passes zones halvings →
    HolderHasSet (settings_at depth passes zones halvings) (held_before topo) (held_after topo) code

-- the code of a call that numbers vertices and faces anew
abbrev pub HandleHasRenumbered : InOut Topo → ℕ → Type 0
HandleHasRenumbered topo code = HolderHasRenumbered (held_before topo) (held_after topo) code

-- the code of a call that begins a log
abbrev pub HandleHasBegunLog : InOut Topo → ℕ → Type 0
HandleHasBegunLog topo code = HolderHasBegunLog (held_before topo) (held_after topo) code

-- the code of a call that ends one
abbrev pub HandleHasEndedLog : InOut Topo → ℕ → Type 0
HandleHasEndedLog topo code = HolderHasEndedLog (held_before topo) (held_after topo) code

-- ---- making

-- the code of a call that makes a tracker of points and faces and puts it into the handle, and what
-- it tells of a fault
abbrev pub HasMade : List GivenPoint → List GivenFace → InOut Topo → InOut TopoFault → ℕ → Type 0
HasMade points faces out fault code =
    HolderHasMade points faces (held_after out) (value_before fault) (value_after fault) code

-- the same of vertices and faces with their ids, of which vertices are solid, and of the next ids
abbrev pub HasMadeNumbered : List NamedPoint → List NamedFace → List ℕ → ℕ → ℕ → InOut Topo →
    InOut TopoFault → ℕ → Type 0
HasMadeNumbered points faces solids next_vertex next_face out fault code =
    HolderHasMadeNumbered points (given_rows points faces solids next_vertex next_face)
    (held_after out) (value_before fault) (value_after fault) code

-- ---- reading

-- the code of a call that puts these rows of the tracker into a buffer and tells their number
abbrev pub HandleHasPut : {X : Type 0} → (Tracker → List X) → InOut Topo → InOut (List X) → InOut ℕ →
    ℕ → Type 0
HandleHasPut rows topo into size code =
    HolderHasPut rows (held_before topo) (held_after topo)
    (value_before into) (value_after into) (value_before size) (value_after size) code

-- the code of a call that puts the text of the lines into a buffer, tells its number of bytes, and
-- takes the lines
abbrev pub HandleHasTakenLog : InOut Topo → InOut (List ℕ) → InOut ℕ → ℕ → Type 0
HandleHasTakenLog topo into size code =
    HolderHasTakenLog (held_before topo) (held_after topo)
    (value_before into) (value_after into) (value_before size) (value_after size) code

-- the code of a call that forgets the lines
abbrev pub HandleHasForgotten : InOut Topo → ℕ → Type 0
HandleHasForgotten topo code = HolderHasForgotten (held_before topo) (held_after topo) code

-- the code of a call that keeps lines from here on, at 1, or none, at 0; 3 where it is neither
abbrev pub HandleHasKept : ℕ → InOut Topo → ℕ → Type 0
HandleHasKept lines topo code = HolderHasKept lines (held_before topo) (held_after topo) code

-- the code of a call that tells how much there is of the tracker
abbrev pub HandleHasCounted : InOut Topo → InOut TopoCounted → ℕ → Type 0
HandleHasCounted topo counts code =
    HolderHasCounted (held_before topo) (held_after topo)
    (value_before counts) (value_after counts) code

-- ---- the two tests of five points alone

-- whether an edge and a triangle meet
abbrev pub HasTestedMeeting : TopoFive → InOut ℕ → ℕ → Type 0
HasTestedMeeting at meets code =
    HasTested (AreInBox at) (MeetAt (places at)) (value_before meets) (value_after meets) code

-- whether their motion passes the written test to this depth
abbrev pub HasTestedMotion : ℕ → TopoFive → TopoFive → InOut ℕ → ℕ → Type 0
HasTestedMotion depth start end passes code =
    HasTested (CanPass depth start end) (Passes depth (places start) (places end))
    (value_before passes) (value_after passes) code
