-- When a log is a first part of another.
use Rattle.std.specs.Prelude.{◌≡◌, ◌⊎◌, ℕ, Bool, true, false, List, [], ◌++◌}
use Rattle.std.specs.Fn.{Shared}
use Rattle.grid_base.specs.declared.Point.{Point}
use Rattle.grid_base.specs.declared.Shift.{Shift}
use Rattle.mesh_field.specs.Stored.{StoredFields}
use Rattle.mesh_sizing.specs.declared.sizing.Band.{Band}
use Rattle.step_text.specs.declared.Placed.{Placed}
use Rattle.log_text.specs.declared.LogLine.{LogLine}
use Rattle.track_engine.specs.State.{State}
use Rattle.track_engine.specs.Answers.{Answers, NoneFits, without_fields}
use Rattle.track_engine.specs.Answered.{known, AreAnswered}
use Rattle.track_engine.specs.Effects.{ExpectedLog, CutShort, log_from}

-- it is cut short, and the other goes on
pub record IsCutFrom (all part : ExpectedLog) : Type 0 where
  pub cut : part.ending ≡ CutShort
  pub rest : List LogLine
  pub goes_on : all.lines ≡ part.lines ++ rest

-- it is the other, or that cut short
abbrev pub IsFirstPart : ExpectedLog → ExpectedLog → Type 0
IsFirstPart all part = (part ≡ all) ⊎ IsCutFrom all part

-- by fewer answers the log of directives is a first part of that by more, from wherever a run stands
abbrev pub FewerAnswersGiveAFirstPart : Type 0
FewerAnswersGiveAFirstPart =
    (answers more : Answers) (steps : List Placed) (s : State) →
    IsFirstPart (log_from (answers ++ more) steps s) (log_from answers steps s)

-- What the log of directives is where no field is stored and none of them is a pass by the sizing,
-- whatever that would answer, in a run that is whole or not: it stands so to the log in which each
-- drive is refused.
abbrev pub LogsWithoutFields : {F G : Type 0} → Shared F (ℕ × (Point × Unit {0})) Shift →
    Shared G (Point × Unit {0}) Band → Bool → (ExpectedLog → ExpectedLog → Type 0) → Type 0
LogsWithoutFields {F} {G} closures sizings whole Stand =
    (fields : StoredFields F) (sizing : G) (answers : Answers) (steps : List Placed) (s : State) →
    fields.names ≡ [] → NoneFits steps →
    AreAnswered (known closures fields sizings sizing) whole answers steps s →
    Stand (log_from (without_fields steps) steps s) (log_from answers steps s)

-- a whole run has the log in which each drive is refused
abbrev pub NoFieldsGiveOneLog : {F G : Type 0} → Shared F (ℕ × (Point × Unit {0})) Shift →
    Shared G (Point × Unit {0}) Band → Type 0
NoFieldsGiveOneLog closures sizings =
    LogsWithoutFields closures sizings true (λ refusing log. log ≡ refusing)

-- a run that is stopped has a first part of it
abbrev pub NoFieldsGiveAFirstPart : {F G : Type 0} → Shared F (ℕ × (Point × Unit {0})) Shift →
    Shared G (Point × Unit {0}) Band → Type 0
NoFieldsGiveAFirstPart closures sizings =
    LogsWithoutFields closures sizings false (λ refusing log. IsFirstPart refusing log)
