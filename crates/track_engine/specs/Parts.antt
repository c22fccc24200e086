-- What the parts of the engine do.
use Rattle.std.specs.Prelude.{◌≡◌, ◌≤◌, ◌+◌, ◌⊎◌, ℕ, true, false, List, [], ◌∷◌, Option, Some, None, Result, Ok, Err, IfOk, IsSome}
use Rattle.mesh_base.specs.declared.UseWhy.{UseWhy}
use Rattle.mesh_base.specs.Pairs.{edges}
use Rattle.grid_base.specs.declared.Point.{Point}
use Rattle.mesh_sizing.specs.declared.sizing.Band.{Band}
use Rattle.mesh_sizing.specs.declared.sizing.Want.{Want}
use Rattle.step_text.specs.declared.Directive.{Directive}
use Rattle.step_text.specs.declared.Directive.TheVariants.{Step}
use Rattle.edit_base.specs.declared.PassKind.{PassKind}
use Rattle.log_text.specs.Lines.{text_of_lines}
use Rattle.log_text.specs.declared.LogLine.{LogLine}
use Rattle.log_replay.specs.Replay.{Replay, after}
use Rattle.outside_io.specs.Outside.{Around, Counts, holds_of}
use Rattle.outside_io.specs.Sink.{appended}
use Rattle.outside_io.specs.declared.stop.Stop.{Stop}
use Rattle.track_engine.specs.State.{State, standing}
use Rattle.track_engine.specs.Answers.{Answer, Nothing}
use Rattle.track_engine.specs.Answered.{Known, AreWantedIn, IsAnswerToFit, IsAnswer}
use Rattle.track_engine.specs.Effects.{Effect, Proceeds, Refused, Unanswered, effect_of, fit_effect, step_lines}
use Rattle.track_engine.specs.Effects.{after_step, passed_lines, after_pass, fitted_lines, after_fit, mesh_line}
use Rattle.log_write.specs.Written.{WrittenInPart}
use Rattle.track_engine.specs.Saved.{Target}
use Rattle.track_engine.specs.World.{Contents, Logs, StopsIn}
use Rattle.track_engine.specs.Told.{fit_told}
use Rattle.pass_run.specs.declared.passes.PassCount.{PassCount}

-- the line of a replay's mesh is written and the mesh is stored, or it stops in that
abbrev pub Saves : {T : Type 0} → Target → ℕ → Replay → Contents → Contents → Result T Stop → Type 0
Saves to k from old new (Ok x) = Logs to from (mesh_line k from.mesh ∷ []) old new
Saves to k from old new (Err stop) = StopsIn stop to from (mesh_line k from.mesh ∷ []) old new

-- the lines of an effect are written, and their replay is the state after it
pub record Takes (to : Target) (effect : Effect) (old_state new_state : State) (old new : Contents)
    : Type 0 where
  pub lines : List LogLine
  pub goes : effect ≡ Proceeds lines new_state
  pub logs : Logs to (standing old_state) lines old new
  pub replay : after (standing old_state) lines ≡ standing new_state

-- the lines that an effect tells, all of them, or those up to where it is not answered
abbrev pub Tells : Effect → List LogLine → Type 0
Tells (Proceeds told next) lines = told ≡ lines
Tells (Refused why) lines = ⊥
Tells (Unanswered told) lines = told ≡ lines

-- an effect that stops in its lines
pub record TakesInPart (stop : Stop) (to : Target) (effect : Effect) (old_state : State)
    (old new : Contents) : Type 0 where
  pub lines : List LogLine
  pub tells : Tells effect lines
  pub stops : StopsIn stop to (standing old_state) lines old new

-- a directive: its effect is taken, or refused with nothing done, or it stops
abbrev pub Advances : Target → Effect → State → State → Contents → Contents →
    Result (Option UseWhy) Stop → Type 0
Advances to effect old_state new_state old new (Ok None) =
    Takes to effect old_state new_state old new
Advances to effect old_state new_state old new (Ok (Some why)) =
    (effect ≡ Refused why) × (new ≡ old)
Advances to effect old_state new_state old new (Err stop) =
    (new ≡ old) ⊎ TakesInPart stop to effect old_state old new

-- a directive, as the fields and the sizing answer: its effect by their answer is taken or refused,
-- or it stops in its lines, or with nothing done
abbrev pub AdvancesAnswered : Known → Target → Directive → State → State → Contents → Contents →
    Result (Option UseWhy) Stop → Type 0
AdvancesAnswered fields to what old_state new_state old new (Ok refused) =
    (given : Answer) × IsAnswer fields true old_state what given
    × Advances to (effect_of given what old_state) old_state new_state old new (Ok refused)
AdvancesAnswered fields to what old_state new_state old new (Err stop) =
    (new ≡ old)
    ⊎ ((given : Answer) × IsAnswer fields false old_state what given
    × TakesInPart stop to (effect_of given what old_state) old_state old new)

-- What a directive does, as the fields and the sizing answer: its effect is taken, or
-- refused with nothing done, or it stops in its lines. At most one step more was taken by
-- one that is taken, and one mesh more saved.
pub record HasAdvanced (fields : Known) (to : Target) (what : Directive) (s t : State)
    (old new : Around) (result : Result (Option UseWhy) Stop) : Type 0 where
  pub advances : AdvancesAnswered fields to what s t (holds_of old) (holds_of new) result
  pub left : IfOk result (λ refused. IsSome refused → t ≡ s)
  pub steps : result ≡ Ok None → t.steps ≤ s.steps + 1
  pub saved : result ≡ Ok None → t.saved ≤ s.saved + 1
  pub counts : Counts old new result

-- a directive that stores nothing, by what it writes
abbrev pub Writes : Effect → State → Option (List ℕ) → Option (List ℕ) →
    Result (Option UseWhy) Stop → Type 0
Writes effect new_state old new (Ok None) =
    (lines : List LogLine) × (effect ≡ Proceeds lines new_state)
    × (new ≡ appended old (text_of_lines lines))
Writes effect new_state old new (Ok (Some why)) = (effect ≡ Refused why) × (new ≡ old)
Writes effect new_state old new (Err stop) =
    (new ≡ old)
    ⊎ ((lines : List LogLine) × (next : State) × (effect ≡ Proceeds lines next)
    × WrittenInPart old new lines)

-- a step, by what it writes
abbrev pub StepTakes : State → State → Option (List ℕ) → Option (List ℕ) →
    Result (Option UseWhy) Stop → Type 0
StepTakes old_state new_state old new (Ok None) =
    (effect_of Nothing Step old_state ≡ Proceeds (step_lines old_state) new_state)
    × (new_state ≡ after_step old_state)
    × (new ≡ appended old (text_of_lines (step_lines old_state)))
StepTakes old_state new_state old new (Ok (Some why)) =
    (effect_of Nothing Step old_state ≡ Refused why) × (new ≡ old)
StepTakes old_state new_state old new (Err stop) =
    (new ≡ old)
    ⊎ ((effect_of Nothing Step old_state ≡ Proceeds (step_lines old_state) (after_step old_state))
    × WrittenInPart old new (step_lines old_state))

-- a pass, by what it writes
abbrev pub PassTakes : PassKind → State → State → Option (List ℕ) → Option (List ℕ) →
    Result (Option UseWhy) Stop → Type 0
PassTakes kind old_state new_state old new (Ok None) =
    (new_state ≡ after_pass kind old_state)
    × (new ≡ appended old (text_of_lines (passed_lines kind old_state)))
PassTakes kind old_state new_state old new (Ok (Some why)) = ⊥
PassTakes kind old_state new_state old new (Err stop) =
    WrittenInPart old new (passed_lines kind old_state)

-- a pass by a sizing, by what that wants and what it writes
abbrev pub FitTakes : (Point → Band → Type 0) → State → State → Option (List ℕ) → Option (List ℕ) →
    Result (Option UseWhy) Stop → Type 0
FitTakes may_size old_state new_state old new (Ok None) =
    (wants : ℕ × ℕ → Want) × AreWantedIn may_size old_state wants (edges old_state.mesh)
    × (new_state ≡ after_fit wants (edges old_state.mesh) old_state)
    × (new ≡ appended old (text_of_lines (fitted_lines wants (edges old_state.mesh) old_state)))
FitTakes may_size old_state new_state old new (Ok (Some why)) = ⊥
FitTakes may_size old_state new_state old new (Err stop) =
    (given : Answer) × IsAnswerToFit may_size false old_state given × (lines : List LogLine)
    × Tells (fit_effect given old_state) lines × WrittenInPart old new lines

-- the same, with what it tells: how many of its lines are of done edits, and how many of refused ones
abbrev pub FitTells : (Point → Band → Type 0) → State → State → Option (List ℕ) → Option (List ℕ) →
    Result PassCount Stop → Type 0
FitTells may_size old_state new_state old new (Ok count) =
    (wants : ℕ × ℕ → Want) × AreWantedIn may_size old_state wants (edges old_state.mesh)
    × (new_state ≡ after_fit wants (edges old_state.mesh) old_state)
    × (new ≡ appended old (text_of_lines (fitted_lines wants (edges old_state.mesh) old_state)))
    × (count ≡ fit_told wants old_state)
FitTells may_size old_state new_state old new (Err stop) =
    FitTakes may_size old_state new_state old new (Err stop)
