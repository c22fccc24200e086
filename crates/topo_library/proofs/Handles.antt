-- A call on the tracker of a handle, by the call on the tracker.
use Rattle.std.proofs.Common.{◌≡◌, ℕ, Bool, List, Option, Some, refl, sym, subst}
use Rattle.grid_base.specs.declared.Point.{Point}
use Rattle.mesh_sizing.specs.declared.sizing.Band.{Band}
use Rattle.step_text.specs.declared.Directive.{Directive}
use Rattle.track_engine.specs.State.{State}
use Rattle.track_engine.specs.Effects.{Effect}
use Rattle.track_held.specs.declared.given.NamedPoint.{NamedPoint}
use Rattle.track_held.specs.declared.given_edits.GivenEdit.{GivenEdit}
use Rattle.track_held.specs.declared.given_edits.ToldAnswer.{ToldAnswer}
use Rattle.topo_library.specs.declared.fault.TopoFault.{TopoFault}
use Rattle.topo_library.specs.declared.results.TopoEdits.{TopoEdits}
use Rattle.topo_library.specs.declared.tracker.Tracker.{Tracker}
use Rattle.step_choose.specs.declared.Settings.{Settings}
use Rattle.topo_library.specs.Codes.{tracker_state, HasWritten, HolderHasWritten, HasEdited, HolderHasEdited, HasDone, HolderHasDone, HasTold, HolderHasTold, HasSet, HolderHasSet, HasRenumbered, HolderHasRenumbered, HasFitted, HolderHasFitted, HasForgotten, HolderHasForgotten, HasKept, HolderHasKeptBy, HasShiftedEach, HolderHasShiftedEach, HasTakenLog, HolderHasTakenLog}
use Rattle.topo_library.specs.Logged.{HasBegunLog, HolderHasBegunLog, HasEndedLog, HolderHasEndedLog}

module _ (old new : Option Tracker) (s t : Tracker) (held : old ≡ Some s) (holds : new ≡ Some t) where
  pub answers : (what : Directive) (before after : TopoFault) (code : ℕ) → HasDone what s t before after code → HolderHasDone what old new before after code
  answers what before after code h = let P : Option Tracker → Type 0 = λ o. HolderHasDone what o new before after code in subst P (sym held) (t, holds, h)

  pub all_shifts : (rows : List NamedPoint) (before after : TopoFault) (code : ℕ) → HasShiftedEach rows s t before after code → HolderHasShiftedEach rows old new before after code
  all_shifts rows before after code h = let P : Option Tracker → Type 0 = λ o. HolderHasShiftedEach rows o new before after code in subst P (sym held) (t, holds, h)

  pub gives_log : (into now : List ℕ) (before size code : ℕ) → HasTakenLog s t into now before size code → HolderHasTakenLog old new into now before size code
  gives_log into now before size code h = let P : Option Tracker → Type 0 = λ o. HolderHasTakenLog o new into now before size code in subst P (sym held) (t, holds, h)

  pub sets : (set : Settings) (code : ℕ) → HasSet set s t code → HolderHasSet set old new code
  sets set code h = let P : Option Tracker → Type 0 = λ o. HolderHasSet set o new code in subst P (sym held) (t, holds, h)

  pub renumbers : (code : ℕ) → HasRenumbered s t code → HolderHasRenumbered old new code
  renumbers code h = let P : Option Tracker → Type 0 = λ o. HolderHasRenumbered o new code in subst P (sym held) (t, holds, h)

  pub begins : (code : ℕ) → HasBegunLog s t code → HolderHasBegunLog old new code
  begins code h = let P : Option Tracker → Type 0 = λ o. HolderHasBegunLog o new code in subst P (sym held) (t, holds, h)

  pub ends : (code : ℕ) → HasEndedLog s t code → HolderHasEndedLog old new code
  ends code h = let P : Option Tracker → Type 0 = λ o. HolderHasEndedLog o new code in subst P (sym held) (t, holds, h)

  pub fits : (may_size : Point → Band → Type 0) (before after : TopoEdits) (code : ℕ) → HasFitted may_size s t before after code → HolderHasFitted may_size old new before after code
  fits may_size before after code h = let P : Option Tracker → Type 0 = λ o. HolderHasFitted may_size o new before after code in subst P (sym held) (t, holds, h)

  pub wrote : (effect : State → Effect) (code : ℕ) → HasWritten (effect (tracker_state s)) s t code → HolderHasWritten effect old new code
  wrote effect code h = let P : Option Tracker → Type 0 = λ o. HolderHasWritten effect o new code in subst P (sym held) (t, holds, h)

  pub edited : (rows : List GivenEdit) (into now : List ToldAnswer) (before taken code : ℕ) → HasEdited rows s t into now before taken code → HolderHasEdited rows old new into now before taken code
  edited rows into now before taken code h = let P : Option Tracker → Type 0 = λ o. HolderHasEdited rows o new into now before taken code in subst P (sym held) (t, holds, h)

  pub keeps_by : (on : Bool) → HasKept on s t → HolderHasKeptBy on old new 0
  keeps_by on h = let P : Option Tracker → Type 0 = λ o. HolderHasKeptBy on o new 0 in subst P (sym held) (refl, (t, holds, h))

  pub forgets : HasForgotten s t → HolderHasForgotten old new 0
  forgets h = let P : Option Tracker → Type 0 = λ o. HolderHasForgotten o new 0 in subst P (sym held) (refl, (t, holds, h))

pub tells : {X : Type 0} (tell : Tracker → X) (old : Option Tracker) (s : Tracker) → old ≡ Some s → (before after : X) (code : ℕ) → HasTold tell s before after code → HolderHasTold tell old before after code
tells tell old s held before after code h = let P : Option Tracker → Type 0 = λ o. HolderHasTold tell o before after code in subst P (sym held) h
