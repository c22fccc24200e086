-- The log by fewer answers, and the one log where no field is there and no directive is a pass by a sizing.
use Rattle.std.specs.Prelude.{◌≢◌}
use Rattle.std.proofs.Common.{◌≡◌, ℕ, Bool, true, false, List, [], ◌∷◌, ◌++◌, refl, ap, sym, ◌∙◌, subst, inl, inr, append_assoc}
use Rattle.std.proofs.lemmas.Bool.{false≢true}
use Rattle.mesh_field.specs.Stored.{place_of}
use Rattle.step_text.specs.declared.Directive.{Directive}
use Rattle.step_text.specs.declared.Directive.TheVariants.{Drive, Fit}
use Rattle.step_text.specs.declared.Placed.{Placed}
use Rattle.log_text.specs.declared.LogLine.{LogLine}
use Rattle.track_engine.specs.State.{State}
use Rattle.track_engine.specs.Answers.{Answer, Nothing, Answers, first, later, without_field, without_fields, NoneFits}
use Rattle.track_engine.specs.Answered.{Known, IsAnswerOf, IsAnswer, AreAnswered}
use Rattle.track_engine.specs.Effects.{Effect, Proceeds, Refused, Unanswered, ExpectedLog, effect_of, and_then, with_log, log_from}
use Rattle.track_engine.specs.FirstParts.{IsFirstPart}

-- ---- the log by fewer answers

with_part : (lines : List LogLine) (all part : ExpectedLog) → IsFirstPart all part → IsFirstPart (with_log lines all) (with_log lines part)
with_part lines all part (inl same) = inl (ap (with_log lines) same)
with_part lines all part (inr cut) = inr (record { cut = cut.cut; rest = cut.rest; goes_on = ap (λ l. lines ++ l) cut.goes_on ∙ sym (append_assoc lines part.lines cut.rest) })

-- the logs of the others are only compared where the directive is taken
then_part : (line : ℕ) (t : Effect) (f g : State → ExpectedLog) → ((lines : List LogLine) (next : State) → t ≡ Proceeds lines next → IsFirstPart (f next) (g next)) → IsFirstPart (and_then line t f) (and_then line t g)
then_part line (Proceeds lines next) f g part = with_part lines (f next) (g next) (part lines next refl)
then_part line (Refused why) f g part = inl refl
then_part line (Unanswered lines) f g part = inl refl

-- a directive to which nothing is given does what it does by any answer, or waits
nothing_part : (what : Directive) (given : Answer) (line : ℕ) (s : State) (f g : State → ExpectedLog) → ((lines : List LogLine) (next : State) → effect_of given what s ≡ Proceeds lines next → IsFirstPart (f next) (g next))
    → IsFirstPart (and_then line (effect_of given what s) f) (and_then line (effect_of Nothing what s) g)
nothing_part (Drive name) given line s f g part = inr (record { cut = refl; rest = (and_then line (effect_of given (Drive name) s) f).lines; goes_on = refl })
nothing_part Fit given line s f g part = inr (record { cut = refl; rest = (and_then line (effect_of given Fit s) f).lines; goes_on = refl })
nothing_part what given line s f g part = then_part line (effect_of given what s) f g part

pub fewer_answers : (answers more : Answers) (steps : List Placed) (s : State) → IsFirstPart (log_from (answers ++ more) steps s) (log_from answers steps s)
fewer_answers answers more [] s = inl refl
fewer_answers [] more (p ∷ steps) s = nothing_part p.what (first more) p.line s (log_from (later more) steps) (log_from [] steps) (λ lines next goes. fewer_answers [] (later more) steps next)
fewer_answers (a ∷ answers) more (p ∷ steps) s = then_part p.line (effect_of a p.what s) (log_from (answers ++ more) steps) (log_from answers steps) (λ lines next goes. fewer_answers answers more steps next)

-- ---- no field is there, and no pass by a sizing

answer_is : (fields : Known) (whole : Bool) (s : State) (what : Directive) (given : Answer) → fields.names ≡ [] → what ≢ Fit → IsAnswer fields whole s what given → given ≡ without_field what
answer_is fields whole s (Drive name) given none other is = let P : List (List ℕ) → Type 0 = λ names. IsAnswerOf fields s.mesh (place_of names name) given in subst P none is
answer_is fields whole s Fit given none other is = absurd (other refl)
answer_is fields whole s what given none other is = is

then_alike : (line : ℕ) (t : Effect) (f g : State → ExpectedLog) → ((lines : List LogLine) (next : State) → t ≡ Proceeds lines next → f next ≡ g next) → and_then line t f ≡ and_then line t g
then_alike line (Proceeds lines next) f g same = ap (with_log lines) (same lines next refl)
then_alike line (Refused why) f g same = refl
then_alike line (Unanswered lines) f g same = refl

pub one_log : (fields : Known) (answers : Answers) (steps : List Placed) (s : State) → fields.names ≡ [] → NoneFits steps → AreAnswered fields true answers steps s → log_from answers steps s ≡ log_from (without_fields steps) steps s
one_log fields answers [] s none others answered = refl
one_log fields [] (p ∷ more) s none others answered = absurd (false≢true (sym answered))
one_log fields (given ∷ answers) (p ∷ more) s none others answered =
    let is : given ≡ without_field p.what = answer_is fields true s p.what given none others.0 answered.0 in
    ap (λ (a : Answer). and_then p.line (effect_of a p.what s) (log_from answers more)) is
    ∙ then_alike p.line (effect_of (without_field p.what) p.what s) (log_from answers more) (log_from (without_fields more) more)
    (λ lines next goes. one_log fields answers more next none others.1 (answered.1 lines next (ap (λ (a : Answer). effect_of a p.what s) is ∙ goes)))

pub stopped_log : (fields : Known) (answers : Answers) (steps : List Placed) (s : State) → fields.names ≡ [] → NoneFits steps → AreAnswered fields false answers steps s → IsFirstPart (log_from (without_fields steps) steps s) (log_from answers steps s)
stopped_log fields answers [] s none others answered = inl refl
stopped_log fields [] (p ∷ more) s none others answered = fewer_answers [] (without_fields (p ∷ more)) (p ∷ more) s
stopped_log fields (given ∷ answers) (p ∷ more) s none others answered =
    let is : given ≡ without_field p.what = answer_is fields false s p.what given none others.0 answered.0 in
    let P : Answer → Type 0 = λ a. IsFirstPart (log_from (without_fields (p ∷ more)) (p ∷ more) s) (and_then p.line (effect_of a p.what s) (log_from answers more)) in
    subst P (sym is) (then_part p.line (effect_of (without_field p.what) p.what s) (log_from (without_fields more) more) (log_from answers more)
    (λ lines next goes. stopped_log fields answers more next none others.1 (answered.1 lines next (ap (λ (a : Answer). effect_of a p.what s) is ∙ goes))))
