-- When what is given to directives is what the stored fields and the sizing answer.
use Rattle.std.specs.Prelude.{◌≡◌, ℕ, Bool, true, false, is_ok, List, [], ◌∷◌, take, Option, Some, None, Result, IfOk}
use Rattle.std.specs.FinMap as finite
use Rattle.std.specs.Fn.{Shared}
use Rattle.grid_base.specs.declared.Point.{Point}
use Rattle.grid_base.specs.declared.Shift.{Shift}
use Rattle.grid_decided.specs.Decided.{meets_exactly}
use Rattle.mesh_base.specs.Mesh.{Mesh, is_solid}
use Rattle.mesh_base.specs.Pairs.{edges}
use Rattle.mesh_field.specs.Stored.{StoredFields, place_of, MayAnswer}
use Rattle.mesh_sizing.specs.declared.sizing.Band.{Band}
use Rattle.mesh_sizing.specs.declared.sizing.Want.{Want}
use Rattle.mesh_sizing.specs.Sizes.{MayAnswer as MaySize}
use Rattle.step_text.specs.declared.Directive.{Directive}
use Rattle.step_text.specs.declared.Directive.TheVariants.{Drive, Fit}
use Rattle.step_text.specs.declared.Placed.{Placed}
use Rattle.log_text.specs.declared.LogLine.{LogLine}
use Rattle.log_text.specs.declared.Refusal.{Refusal}
use Rattle.log_replay.specs.Replay.{after}
use Rattle.outside_io.specs.declared.stop.Stop.{Stop}
use Rattle.pass_run.specs.Fits.{fit_rules, AreWanted}
use Rattle.track_engine.specs.State.{State, standing, is_open}
use Rattle.track_engine.specs.Answers.{Answer, Nothing, NoSuchField, FieldShifts, Wanted, WantedOfFirst, Answers}
use Rattle.track_engine.specs.Effects.{Proceeds, effect_of, log_from}
use Rattle.track_engine.specs.Saved.{Target}
use Rattle.track_engine.specs.World.{Contents, Follows}

-- The stored fields and the sizing, as a run sees them: the names of the fields, in order, what may
-- be answered by the number of one at a point, and which bands the sizing may answer there.
pub record Known : Type 1 where
  pub names : List (List ℕ)
  pub may_answer : ℕ → Point → Shift → Type 0
  pub may_size : Point → Band → Type 0

-- what a run sees of stored fields and of a sizing, by what their closures may answer
abbrev pub known : {F G : Type 0} → Shared F (ℕ × (Point × Unit {0})) Shift → StoredFields F →
    Shared G (Point × Unit {0}) Band → G → Known
known closures fields sizings sizing = record {
  names = fields.names;
  may_answer = MayAnswer closures fields;
  may_size = MaySize sizings sizing;
}

-- the number of the field that a directive names; only `drive` names one
abbrev pub named_field : List (List ℕ) → Directive → Option ℕ
named_field names (Drive name) = place_of names name
named_field names _ = None

-- whether a directive asks the sizing; only `fit` does
abbrev pub is_fit : Directive → Bool
is_fit Fit = true
is_fit _ = false

-- what a field may answer at a vertex: at one that may move, an answer at the point where it stands
abbrev pub IsAnswerAt : (Point → Shift → Type 0) → Mesh → ℕ → Shift → Type 0
IsAnswerAt may_answer m v by =
    (p : Point) → finite.get m.points v ≡ Some p → is_solid m v ≡ false → may_answer p by

-- the same at each vertex
abbrev pub AreAnswersOf : (Point → Shift → Type 0) → Mesh → (ℕ → Shift) → Type 0
AreAnswersOf may_answer m by = (v : ℕ) → IsAnswerAt may_answer m v (by v)

-- the answer to a drive: the shifts of the field of this number, or that there is none
abbrev pub IsAnswerOf : Known → Mesh → Option ℕ → Answer → Type 0
IsAnswerOf fields m (Some which) given =
    (by : ℕ → Shift) × (given ≡ FieldShifts by) × AreAnswersOf (fields.may_answer which) m by
IsAnswerOf fields m None given = given ≡ NoSuchField

-- Each want of these edges may be answered by the sizing at the edge's
-- turn in a pass from this state on.
abbrev pub AreWantedIn : (Point → Band → Type 0) → State → (ℕ × ℕ → Want) → List (ℕ × ℕ) → Type 0
AreWantedIn may_size s wants es =
    AreWanted may_size
    (fit_rules meets_exactly wants s.set.depth (is_open s.groups)) wants s.mesh es

-- the answer to a pass by a sizing: what it wants of each edge of the mesh; in a run that is not
-- whole also of the first of them alone
abbrev pub IsAnswerToFit : (Point → Band → Type 0) → Bool → State → Answer → Type 0
IsAnswerToFit may_size whole s (Wanted wants) = AreWantedIn may_size s wants (edges s.mesh)
IsAnswerToFit may_size whole s (WantedOfFirst count wants) =
    (whole ≡ false) × AreWantedIn may_size s wants (take count (edges s.mesh))
IsAnswerToFit may_size whole s _ = ⊥

-- the answer to a directive that is given in this state: to a drive that of the field that it
-- names, to a pass by a sizing what that wants, to another nothing
abbrev pub IsAnswer : Known → Bool → State → Directive → Answer → Type 0
IsAnswer fields whole s (Drive name) given =
    IsAnswerOf fields s.mesh (place_of fields.names name) given
IsAnswer fields whole s Fit given = IsAnswerToFit fields.may_size whole s given
IsAnswer fields whole s _ given = given ≡ Nothing

-- Each directive was answered so, in the state to which those before it led, as far as there are
-- answers. A run that came to the end of its log, which then is whole, has them all.
abbrev pub AreAnswered : Known → Bool → Answers → List Placed → State → Type 0
AreAnswered fields whole answers [] s = Unit {0}
AreAnswered fields whole [] (placed ∷ more) s = whole ≡ false
AreAnswered fields whole (given ∷ answers) (placed ∷ more) s =
    IsAnswer fields whole s placed.what given
    × ((lines : List LogLine) (next : State) → effect_of given placed.what s ≡ Proceeds lines next →
    AreAnswered fields whole answers more next)

-- A part of a run follows directives as the fields and the sizing answer: it writes the lines
-- that are expected by their answers and stores their meshes, or is stopped before the end of
-- them, and beyond a drive or an edge of a pass by the sizing that was not answered it writes
-- nothing. It began at s and ended at t:
-- where it came to the end of its log, the replay of the log's lines
-- stands where the run then stands.
pub record FollowsAnswers (fields : Known) (to : Target) (steps : List Placed) (s t : State)
    (old new : Contents) (result : Result (Option Refusal) Stop) : Type 0 where
  pub answers : Answers
  pub answered : AreAnswered fields (is_ok result) answers steps s
  pub follows : Follows to (standing s) (log_from answers steps s) old new result
  pub stands : IfOk result (λ _. after (standing s) (log_from answers steps s).lines ≡ standing t)
