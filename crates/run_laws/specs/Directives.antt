-- What directives give is in the log's ranges, as statements.
use Rattle.std.specs.Prelude.{ℕ, ◌+◌, ◌≤◌, List, length}
use Rattle.std.specs.List.{All}
use Rattle.mesh_base.specs.declared.Scale.{Scale}
use Rattle.step_choose.specs.Settings.{AreWithinLimits}
use Rattle.step_text.specs.declared.Directive.{Directive}
use Rattle.step_text.specs.declared.Placed.{Placed}
use Rattle.step_text.specs.Ranges.{IsInRange}
use Rattle.log_text.specs.declared.TheConstants.{COUNT_MAX}
use Rattle.log_read.specs.Laws.{IsUseInRange}
use Rattle.log_replay.specs.Laws.{HaveLimits, IsWithin}
use Rattle.run_laws.specs.Lines.{AreInRange}
use Rattle.run_laws.specs.Texts.{IsPlacedInRange}
use Rattle.track_engine.specs.State.{State, standing}
use Rattle.track_engine.specs.Answers.{Answer, Answers}
use Rattle.track_engine.specs.Effects.{Effect, Proceeds, Refused, Unanswered, effect_of, log_from}
use Rattle.track_engine.specs.Invariant.{IsRunInvariant}

-- the run stands as each directive leaves it, its meshes are within the limits of a scale, and its
-- numbers have room for so many directives more
pub record HasRoomFor (scale : Scale) (count : ℕ) (s : State) : Type 0 where
  pub kept : IsRunInvariant s
  pub within : HaveLimits (IsWithin scale) (standing s)
  pub limits : AreWithinLimits s.set
  pub steps : s.steps + count ≤ COUNT_MAX
  pub saved : s.saved + count ≤ COUNT_MAX

-- the lines of a directive, or the reason against it; of one that is not answered
-- to its end, the lines up to there
abbrev pub IsEffectInRange : Scale → Effect → Type 0
IsEffectInRange scale (Proceeds lines next) = AreInRange scale lines
IsEffectInRange scale (Refused why) = IsUseInRange why
IsEffectInRange scale (Unanswered lines) = AreInRange scale lines

-- what a directive of a step file gives, whatever is given to it
abbrev pub EffectsAreInRange : Type 0
EffectsAreInRange = (scale : Scale) (given : Answer) (what : Directive) (s : State) →
    HasRoomFor scale 1 s → IsInRange what → IsEffectInRange scale (effect_of given what s)

-- the log of directives, whatever is given to them
abbrev pub LogsAreInRange : Type 0
LogsAreInRange =
    (scale : Scale) (answers : Answers) (steps : List Placed) (s : State) →
    HasRoomFor scale (length steps) s → All IsPlacedInRange steps →
    AreInRange scale (log_from answers steps s).lines
