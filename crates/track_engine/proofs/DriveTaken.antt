-- A directive that names a field, as an effect.
use Rattle.std.proofs.lemmas.Bool.{false≢true}
use Rattle.std.proofs.Common.{◌≡◌, ℕ, Bool, true, false, List, [], Option, Some, None, Result, Ok, Err, IfOk, refl, ap, sym, ◌∙◌, subst, inl, inr}
use Rattle.grid_base.specs.declared.Shift.{Shift}
use Rattle.mesh_base.specs.declared.UseWhy.{UseWhy}
use Rattle.mesh_base.specs.Kept.{BeginsWith}
use Rattle.mesh_base.proofs.MarksHold.{begins_itself}
use Rattle.mesh_base.specs.Mesh.{Mesh}
use Rattle.mesh_base.specs.Shifts.{Shifts}
use Rattle.outside_io.proofs.Written.{appended-nil}
use Rattle.mesh_field.specs.Stored.{place_of}
use Rattle.step_text.specs.declared.Directive.{Directive}
use Rattle.step_text.specs.declared.Directive.TheVariants as directive
use Rattle.track_engine.specs.declared.open_group.OpenGroup.{OpenGroup}
use Rattle.outside_io.specs.declared.stop.Stop.{Stop}
use Rattle.track_engine.specs.State.{State}
use Rattle.track_engine.specs.Answers.{NoSuchField, FieldShifts, without_field}
use Rattle.track_engine.specs.Answered.{Known, named_field, is_fit, AreAnswersOf, IsAnswerOf, IsAnswer}
use Rattle.track_engine.specs.Effects.{effect_of, shift_effect, sum_of_all}
use Rattle.track_engine.specs.Invariant.{left_by}
use Rattle.track_engine.specs.Saved.{Target}
use Rattle.track_engine.specs.Shifting.{AsksNow}
use Rattle.track_engine.specs.World.{Contents}
use Rattle.track_engine.specs.Parts.{Advances, AdvancesAnswered}

-- ---- which directive it is

-- a directive that names a field is a drive
abbrev IsDrive : Directive → Type 0
IsDrive what = (name : List ℕ) × (what ≡ directive.Drive name)

drive_named : (names : List (List ℕ)) (what : Directive) (which : ℕ) → named_field names what ≡ Some which → IsDrive what
drive_named names (directive.Drive name) which e = (name, refl)
drive_named names (directive.SetDepth depth) which e = absurd cc
drive_named names (directive.SetPasses passes) which e = absurd cc
drive_named names (directive.SetZones zones) which e = absurd cc
drive_named names (directive.SetHalvings halvings) which e = absurd cc
drive_named names (directive.ShiftOne v by) which e = absurd cc
drive_named names (directive.ShiftAll by) which e = absurd cc
drive_named names (directive.Solid v) which e = absurd cc
drive_named names directive.Step which e = absurd cc
drive_named names (directive.Pass kind) which e = absurd cc
drive_named names directive.Fit which e = absurd cc
drive_named names directive.Save which e = absurd cc
drive_named names directive.Group which e = absurd cc
drive_named names directive.Close which e = absurd cc

-- its effect
effect_named : (names : List (List ℕ)) (what : Directive) (which : ℕ) (by : ℕ → Shift) (s : State) → named_field names what ≡ Some which → effect_of (FieldShifts by) what s ≡ shift_effect (sum_of_all s.mesh by s.asked) s
effect_named names what which by s e = ap (λ d. effect_of (FieldShifts by) d s) (drive_named names what which e).1

left_named : (names : List (List ℕ)) (what : Directive) (which : ℕ) (groups : List OpenGroup) (kept : List Mesh) → named_field names what ≡ Some which → left_by what groups kept ≡ kept
left_named names what which groups kept e = ap (λ d. left_by d groups kept) (drive_named names what which e).1

-- all kept meshes stay
pub begins_named : (names : List (List ℕ)) (what : Directive) (which : ℕ) (groups : List OpenGroup) (kept : List Mesh) → named_field names what ≡ Some which → BeginsWith kept (left_by what groups kept)
begins_named names what which groups kept e = let P : List Mesh → Type 0 = λ l. BeginsWith kept l in subst P (sym (left_named names what which groups kept e)) (begins_itself kept)

-- ---- the answers are added

-- the answers of the field, and what is asked from here on
abbrev pub Drives : Known → ℕ → State → Shifts → Result (Option UseWhy) Stop → Type 0
Drives fields which s now r = IfOk r (λ refused. (by : ℕ → Shift) × AreAnswersOf (fields.may_answer which) s.mesh by × AsksNow (sum_of_all s.mesh by s.asked) now refused)

module _ (fields : Known) (to : Target) (what : Directive) (which : ℕ) (named : named_field fields.names what ≡ Some which) (s : State) (now : Shifts) where
  is_answer : (by : ℕ → Shift) → AreAnswersOf (fields.may_answer which) s.mesh by → IsAnswer fields true s what (FieldShifts by)
  is_answer by answers =
      let drives = drive_named fields.names what which named in
      let P : Directive → Type 0 = λ d. IsAnswer fields true s d (FieldShifts by) in
      let Q : Option ℕ → Type 0 = λ w. IsAnswerOf fields s.mesh w (FieldShifts by) in
      let here : Some which ≡ place_of fields.names drives.0 = sym named ∙ ap (named_field fields.names) drives.1 in
      subst P (sym drives.1) (subst Q here (by, refl, answers))

  advances_by : (old : Contents) (by : ℕ → Shift) (o : Option UseWhy) → AsksNow (sum_of_all s.mesh by s.asked) now o → Advances to (effect_of (FieldShifts by) what s) s (record s { asked = now }) old old (Ok o)
  advances_by old by None asks = record {
    lines = [];
    goes = effect_named fields.names what which by s named ∙ ap (λ r. shift_effect r s) asks;
    logs = record { written = sym (appended-nil old.written); files = refl };
    replay = refl;
  }
  advances_by old by (Some why) asks = (effect_named fields.names what which by s named ∙ ap (λ r. shift_effect r s) asks, refl)

  pub advances_drive : (old : Contents) (r : Result (Option UseWhy) Stop) → Drives fields which s now r → AdvancesAnswered fields to what s (record s { asked = now }) old old r
  advances_drive old (Ok o) drives = (FieldShifts drives.0, is_answer drives.0 drives.1, advances_by old drives.0 o drives.2)
  advances_drive old (Err stop) drives = inl refl

-- ---- a directive to which neither a field nor the sizing answers

plain_answer : (fields : Known) (whole : Bool) (s : State) (what : Directive) → is_fit what ≡ false → named_field fields.names what ≡ None → IsAnswer fields whole s what (without_field what)
plain_answer fields whole s (directive.Drive name) other named = let P : Option ℕ → Type 0 = λ w. IsAnswerOf fields s.mesh w NoSuchField in subst P (sym named) refl
plain_answer fields whole s directive.Fit other named = absurd (false≢true (sym other))
plain_answer fields whole s what other named = refl

pub advances_plain : (fields : Known) (to : Target) (what : Directive) (s t : State) (old new : Contents) (r : Result (Option UseWhy) Stop) → is_fit what ≡ false → named_field fields.names what ≡ None → Advances to (effect_of (without_field what) what s) s t old new r
    → AdvancesAnswered fields to what s t old new r
advances_plain fields to what s t old new r other named advances = by_result r advances
  where
    by_result : (x : Result (Option UseWhy) Stop) → Advances to (effect_of (without_field what) what s) s t old new x → AdvancesAnswered fields to what s t old new x
    by_result (Ok o) a = (without_field what, plain_answer fields true s what other named, a)
    by_result (Err stop) (inl same) = inl same
    by_result (Err stop) (inr part) = inr (without_field what, plain_answer fields false s what other named, part)
