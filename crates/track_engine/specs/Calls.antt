-- What a call does to an engine and to what is outside of it, by how a contract sees both: which
-- mesh a surface is and which meshes it keeps, and what the desk and the sink hold.
use Rattle.std.specs.Prelude.{◌≡◌, ◌+◌, ◌++◌, ℕ, List, [], ◌∷◌, true, Option, Result, IfOk, IsSome, MatchOption}
use Rattle.std.specs.Fn.{Shared}
use Rattle.in_out.specs.InOut.{InOut, value_before, value_after}
use Rattle.grid_base.specs.declared.Point.{Point}
use Rattle.grid_base.specs.declared.Shift.{Shift}
use Rattle.mesh_base.specs.declared.UseWhy.{UseWhy}
use Rattle.mesh_base.specs.Mesh.{Mesh}
use Rattle.mesh_sizing.specs.declared.sizing.Band.{Band}
use Rattle.edit_base.specs.declared.Asked.{Asked}
use Rattle.edit_base.specs.declared.Edit.{Edit}
use Rattle.edit_base.specs.declared.PassKind.{PassKind}
use Rattle.step_text.specs.declared.Directive.{Directive}
use Rattle.step_text.specs.declared.Directive.TheVariants.{Close}
use Rattle.step_text.specs.declared.Placed.{Placed}
use Rattle.log_text.specs.declared.Refusal.{Refusal}
use Rattle.outside_io.specs.Outside.{Around, holds_of, written_of}
use Rattle.outside_io.specs.World.{Contents}
use Rattle.outside_io.specs.declared.stop.Stop.{Stop}
use Rattle.pass_run.specs.declared.passes.PassCount.{PassCount}
use Rattle.track_engine.specs.declared.engine.Engine.{Engine}
use Rattle.track_engine.specs.declared.open_group.OpenGroup.{OpenGroup}
use Rattle.track_engine.specs.declared.terms.RunTerms.{RunTerms}
use Rattle.track_engine.specs.declared.told.StepTold.{StepTold}
use Rattle.track_engine.specs.Answered.{Known, known, FollowsAnswers}
use Rattle.track_engine.specs.Effects.{Effect, edited_answers, edits_effect, undo_effect}
use Rattle.track_engine.specs.Engines.{state_in}
use Rattle.track_engine.specs.Groups.{failed_if}
use Rattle.track_engine.specs.Invariant.{left_by}
use Rattle.track_engine.specs.Parts.{HasAdvanced, Saves, StepTakes, PassTakes, FitTells, Writes}
use Rattle.track_engine.specs.Saved.{Target}
use Rattle.track_engine.specs.State.{State, Group, groups_of, standing}
use Rattle.track_engine.specs.Targets.{target_of}
use Rattle.track_engine.specs.Told.{step_told, edits_counted}

-- ---- before a call and after it

-- the state of the run before the call
abbrev pub state_before : {S : Type 0} → (S → Mesh) → (S → List Mesh) → InOut (Engine S) → State
state_before mesh kept engine = state_in mesh kept (value_before engine)

-- the state of the run after it
abbrev pub state_after : {S : Type 0} → (S → Mesh) → (S → List Mesh) → InOut (Engine S) → State
state_after mesh kept engine = state_in mesh kept (value_after engine)

-- what the sink was given before the call
abbrev pub text_before : {O : Type 0} → (O → Around) → InOut O → Option (List ℕ)
text_before around outside = written_of (around (value_before outside))

-- what the sink was given after it
abbrev pub text_after : {O : Type 0} → (O → Around) → InOut O → Option (List ℕ)
text_after around outside = written_of (around (value_after outside))

-- what both sides hold before the call
abbrev pub held_before : {O : Type 0} → (O → Around) → InOut O → Contents
held_before around outside = holds_of (around (value_before outside))

-- what both sides hold after it
abbrev pub held_after : {O : Type 0} → (O → Around) → InOut O → Contents
held_after around outside = holds_of (around (value_after outside))

-- ---- the parts of the engine

-- it takes a step, by what it writes
abbrev pub EngineSteps : {S O : Type 0} → (S → Mesh) → (S → List Mesh) → (O → Around) →
    InOut (Engine S) → InOut O → Result (Option UseWhy) Stop → Type 0
EngineSteps mesh kept around engine outside result =
    StepTakes (state_before mesh kept engine) (state_after mesh kept engine)
    (text_before around outside) (text_after around outside) result

-- it makes a pass, by what it writes
abbrev pub EnginePasses : {S O : Type 0} → (S → Mesh) → (S → List Mesh) → (O → Around) →
    InOut (Engine S) → InOut O → PassKind → Result (Option UseWhy) Stop → Type 0
EnginePasses mesh kept around engine outside kind result =
    PassTakes kind (state_before mesh kept engine) (state_after mesh kept engine)
    (text_before around outside) (text_after around outside) result

-- it makes a pass by a sizing, by which bands that may answer where, and by what it writes and tells
abbrev pub EngineFits : {S O : Type 0} → (S → Mesh) → (S → List Mesh) → (O → Around) →
    InOut (Engine S) → InOut O → (Point → Band → Type 0) → Result PassCount Stop → Type 0
EngineFits mesh kept around engine outside may_size result =
    FitTells may_size (state_before mesh kept engine) (state_after mesh kept engine)
    (text_before around outside) (text_after around outside) result

-- the lines of the effect that something has in the state before are written, or it is refused, or it
-- stops in its lines
abbrev pub EngineWrites : {S O : Type 0} → (S → Mesh) → (S → List Mesh) → (O → Around) →
    InOut (Engine S) → InOut O → (State → Effect) → Result (Option UseWhy) Stop → Type 0
EngineWrites mesh kept around engine outside effect result =
    Writes (effect (state_before mesh kept engine)) (state_after mesh kept engine)
    (text_before around outside) (text_after around outside) result

-- it does edits that are asked for by ids
abbrev pub EngineEdits : {S O : Type 0} → (S → Mesh) → (S → List Mesh) → (O → Around) →
    InOut (Engine S) → InOut O → List Asked → Result (Option UseWhy) Stop → Type 0
EngineEdits mesh kept around engine outside asked result =
    EngineWrites mesh kept around engine outside (edits_effect asked) result

-- the same of the end of the innermost open group, which is taken back
abbrev pub EngineUndoes : {S O : Type 0} → (S → Mesh) → (S → List Mesh) → (O → Around) →
    InOut (Engine S) → InOut O → Result (Option UseWhy) Stop → Type 0
EngineUndoes mesh kept around engine outside result =
    EngineWrites mesh kept around engine outside (λ state. undo_effect state.groups state) result

-- it saves its mesh under the next number
abbrev pub EngineSaves : {S O T : Type 0} → (S → Mesh) → (S → List Mesh) → (O → Around) →
    InOut (Engine S) → InOut O → Target → Result T Stop → Type 0
EngineSaves mesh kept around engine outside to result =
    Saves to (value_before engine).run.saved (standing (state_before mesh kept engine))
    (held_before around outside) (held_after around outside) result

-- ---- directives

-- what a run sees of the stored fields and of the sizing by which it goes
abbrev pub known_by : {F G : Type 0} → Shared F (ℕ × (Point × Unit {0})) Shift →
    Shared G (Point × Unit {0}) Band → RunTerms F G → Known
known_by closures sizings terms = known closures terms.fields.now sizings terms.sizing.now

-- it does one directive, as the stored fields and the sizing answer
abbrev pub DoesOne : {S O F G : Type 0} → (S → Mesh) → (S → List Mesh) → (O → Around) →
    InOut (Engine S) → InOut O → Shared F (ℕ × (Point × Unit {0})) Shift →
    Shared G (Point × Unit {0}) Band → RunTerms F G → Directive →
    Result (Option UseWhy) Stop → Type 0
DoesOne mesh kept around engine outside closures sizings terms what result =
    HasAdvanced (known_by closures sizings terms) (target_of terms.to) what
    (state_before mesh kept engine) (state_after mesh kept engine)
    (around (value_before outside)) (around (value_after outside)) result

-- it does directives one after another to the end of a log, as the stored fields and the sizing
-- answer
abbrev pub DoesAll : {S O F G : Type 0} → (S → Mesh) → (S → List Mesh) → (O → Around) →
    InOut (Engine S) → InOut O → Shared F (ℕ × (Point × Unit {0})) Shift →
    Shared G (Point × Unit {0}) Band → RunTerms F G → List Placed →
    Result (Option Refusal) Stop → Type 0
DoesAll mesh kept around engine outside closures sizings terms steps result =
    FollowsAnswers (known_by closures sizings terms) (target_of terms.to) steps
    (state_before mesh kept engine) (state_after mesh kept engine)
    (held_before around outside) (held_after around outside) result

-- ---- what is told

-- a step that is taken tells how, and how many pairs do not pass
abbrev pub TellsStep : State → Result (Result StepTold UseWhy) Stop → Type 0
TellsStep state result = IfOk result (λ taken. IfOk taken (λ told. told ≡ step_told state))

-- how many of the edits that are asked for are done, and how many refused
abbrev pub CountsEdits : List Asked → State → PassCount → Type 0
CountsEdits asked state count = count ≡ edits_counted asked state

-- what came of each edit that is asked for stands behind the answers
abbrev pub AddsAnswers : List Asked → State → InOut (List Edit) → Type 0
AddsAnswers asked state answers =
    value_after answers ≡ value_before answers ++ edited_answers asked state

-- ---- what stays

-- a refusal leaves the state as it was
abbrev pub RefusalKeepsState : {S : Type 0} → (S → Mesh) → (S → List Mesh) → InOut (Engine S) →
    Result (Option UseWhy) Stop → Type 0
RefusalKeepsState mesh kept engine result =
    IfOk result (λ refused. IsSome refused →
    state_after mesh kept engine ≡ state_before mesh kept engine)

-- one mesh more is saved, and else the state is as it was
abbrev pub SavesOneMore : {S : Type 0} → (S → Mesh) → (S → List Mesh) → InOut (Engine S) → Type 0
SavesOneMore mesh kept engine =
    state_after mesh kept engine
    ≡ record (state_before mesh kept engine) { saved = (state_before mesh kept engine).saved + 1 }

-- the open groups of an engine, as the state has them
abbrev pub groups_in : {S : Type 0} → (S → List Mesh) → Engine S → List Group
groups_in kept engine = groups_of (kept engine.mesh) engine.run.groups

-- the kept meshes of an engine that a directive leaves: all, but for those since the mark of a
-- group that it takes back
abbrev pub meshes_left : {S : Type 0} → Directive → (S → List Mesh) → Engine S → List Mesh
meshes_left what kept engine = left_by what engine.run.groups (kept engine.mesh)

-- those that are left where the innermost open group is taken back, whether it has failed or not
abbrev pub meshes_left_by_undo : {S : Type 0} → (S → List Mesh) → Engine S → List Mesh
meshes_left_by_undo kept engine = left_by Close (failed_if true engine.run.groups) (kept engine.mesh)

-- the innermost of these groups is taken out of them; none, where none is open
abbrev pub TakesInnermost : InOut (List OpenGroup) → Option OpenGroup → Type 0
TakesInnermost groups result =
    MatchOption result ((value_before groups ≡ []) × (value_after groups ≡ []))
    (λ group. value_before groups ≡ group ∷ value_after groups)
