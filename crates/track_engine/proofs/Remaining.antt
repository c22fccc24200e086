-- Each log goes on to its end: it has lines, of which the last is `end` or `refused`, or it is cut short.
use Rattle.std.proofs.Common.{ℕ, List, [], ◌∷◌, inl, inr, refl}
use Rattle.step_text.specs.declared.Placed.{Placed}
use Rattle.log_text.specs.declared.Refusal.{Refusal}
use Rattle.log_text.specs.declared.Refusal.TheVariants as refusal
use Rattle.log_text.specs.declared.LogLine.TheVariants.{End, Refused as RefusedLine}
use Rattle.track_engine.specs.State.{State}
use Rattle.track_engine.specs.Effects.{Effect, Proceeds, Refused, Unanswered, ExpectedLog, cut_short, effect_of, and_then, log_from, refused}
use Rattle.track_engine.specs.Answers.{Answers, first, later}
use Rattle.track_engine.proofs.Worlds.{GoesOn, one_line, more_left}

pub refusal_left : (why : Refusal) → GoesOn (refused why)
refusal_left why = inl (one_line (RefusedLine why) [])

then_left : (line : ℕ) (t : Effect) (next : State → ExpectedLog) → ((s : State) → GoesOn (next s)) → GoesOn (and_then line t next)
then_left line (Proceeds lines s) next some = more_left lines (next s) (some s)
then_left line (Refused why) next some = refusal_left (refusal.StepUse line why)
then_left line (Unanswered lines) next some = more_left lines cut_short (inr refl)

-- the log of directives
pub log_left : (answers : Answers) (steps : List Placed) (s : State) → GoesOn (log_from answers steps s)
log_left answers [] s = inl (one_line End [])
log_left answers (p ∷ more) s = then_left p.line (effect_of (first answers) p.what s) (log_from (later answers) more) (λ n. log_left (later answers) more n)
