-- A directive to which nothing is given, by what it tells.
use Rattle.std.proofs.Common.{◌≡◌, ℕ, Bool, true, false, List, [], ◌∷◌, Option, Some, None, Result, Ok, Err, is_some, sym, ap, ◌∙◌, subst, inl, inr}
use Rattle.std.specs.FinMap as finite
use Rattle.mesh_base.specs.declared.UseWhy.{UseWhy}
use Rattle.mesh_base.specs.Shifts.{Shifts}
use Rattle.step_text.specs.declared.Directive.{Directive}
use Rattle.step_text.specs.declared.Directive.TheVariants as directive
use Rattle.log_text.specs.declared.LogLine.{LogLine}
use Rattle.outside_io.specs.Outside.{Around, holds_of}
use Rattle.outside_io.specs.World.{Contents}
use Rattle.outside_io.specs.declared.stop.Stop.{Stop}
use Rattle.track_engine.specs.State.{Group, State}
use Rattle.track_engine.specs.Answers.{Answer, Nothing}
use Rattle.track_engine.specs.Answered.{Known, IsAnswer}
use Rattle.track_engine.specs.Effects.{Effect, Proceeds, Refused, Unanswered, effect_of, shift_effect, step_effect, solid_effect, close_effect, sum_of_one, sum_of_all, first_outside}
use Rattle.track_engine.specs.Parts.{Tells, AdvancesAnswered, Writes, HasAdvanced}
use Rattle.track_engine.specs.Saved.{Target}
use Rattle.track_held.specs.Asking.{AsksNothing}

-- nothing is given to it
nothing_given : (fields : Known) (whole : Bool) (s : State) (what : Directive) (given : Answer) → AsksNothing what → IsAnswer fields whole s what given → given ≡ Nothing
nothing_given fields whole s (directive.Drive name) given asks is = absurd asks
nothing_given fields whole s directive.Fit given asks is = absurd asks
nothing_given fields whole s (directive.SetDepth depth) given asks is = is
nothing_given fields whole s (directive.SetPasses passes) given asks is = is
nothing_given fields whole s (directive.SetZones zones) given asks is = is
nothing_given fields whole s (directive.SetHalvings halvings) given asks is = is
nothing_given fields whole s (directive.ShiftOne v by) given asks is = is
nothing_given fields whole s (directive.ShiftAll by) given asks is = is
nothing_given fields whole s (directive.Solid v) given asks is = is
nothing_given fields whole s directive.Step given asks is = is
nothing_given fields whole s (directive.Pass kind) given asks is = is
nothing_given fields whole s directive.Save given asks is = is
nothing_given fields whole s directive.Group given asks is = is
nothing_given fields whole s directive.Close given asks is = is

-- an effect that does not wait for an answer
abbrev IsAnswered : Effect → Type 0
IsAnswered (Proceeds lines next) = Unit {0}
IsAnswered (Refused why) = Unit {0}
IsAnswered (Unanswered lines) = ⊥

shifted : (sums : Result Shifts UseWhy) (s : State) → IsAnswered (shift_effect sums s)
shifted (Ok asked) s = tt
shifted (Err why) s = tt

stepped : (outside : Option ℕ) (s : State) → IsAnswered (step_effect outside s)
stepped (Some v) s = tt
stepped None s = tt

solid : (live : Bool) (v : ℕ) (s : State) → IsAnswered (solid_effect live v s)
solid true v s = tt
solid false v s = tt

closed : (groups : List Group) (s : State) → IsAnswered (close_effect groups s)
closed [] s = tt
closed (group ∷ outer) s = tt

answered : (what : Directive) (s : State) → AsksNothing what → IsAnswered (effect_of Nothing what s)
answered (directive.Drive name) s asks = absurd asks
answered directive.Fit s asks = absurd asks
answered (directive.SetDepth depth) s asks = tt
answered (directive.SetPasses passes) s asks = tt
answered (directive.SetZones zones) s asks = tt
answered (directive.SetHalvings halvings) s asks = tt
answered (directive.ShiftOne v by) s asks = shifted (sum_of_one s.mesh v by s.asked) s
answered (directive.ShiftAll by) s asks = shifted (sum_of_all s.mesh (λ v. by) s.asked) s
answered (directive.Solid v) s asks = solid (is_some (finite.get s.mesh.points v)) v s
answered directive.Step s asks = stepped (first_outside s.mesh s.asked) s
answered (directive.Pass kind) s asks = tt
answered directive.Save s asks = tt
answered directive.Group s asks = tt
answered directive.Close s asks = closed s.groups s

-- its lines, and the state behind them
proceeding : (effect : Effect) (lines : List LogLine) → IsAnswered effect → Tells effect lines → (next : State) × (effect ≡ Proceeds lines next)
proceeding (Proceeds told next) lines is same = (next, ap (λ (l : List LogLine). Proceeds l next) same)
proceeding (Refused why) lines is same = absurd same
proceeding (Unanswered told) lines is same = absurd is

module _ (fields : Known) (to : Target) (what : Directive) (asks : AsksNothing what) (s t : State) (old new : Contents) where
  same : (whole : Bool) (given : Answer) → IsAnswer fields whole s what given → effect_of Nothing what s ≡ effect_of given what s
  same whole given is = ap (λ (a : Answer). effect_of a what s) (sym (nothing_given fields whole s what given asks is))

  alone : (r : Result (Option UseWhy) Stop) → AdvancesAnswered fields to what s t old new r → Writes (effect_of Nothing what s) t old.written new.written r
  alone (Ok None) x = (x.2.lines, same true x.0 x.1 ∙ x.2.goes, x.2.logs.written)
  alone (Ok (Some why)) x = (same true x.0 x.1 ∙ x.2.0, ap (λ (c : Contents). c.written) x.2.1)
  alone (Err stop) (inl e) = inl (ap (λ (c : Contents). c.written) e)
  alone (Err stop) (inr x) =
      let T : Effect → Type 0 = λ e. Tells e x.2.lines in
      let next = proceeding (effect_of Nothing what s) x.2.lines (answered what s asks) (subst T (sym (same false x.0 x.1)) x.2.tells) in
      inr (x.2.lines, next.0, next.1, x.2.stops.text)

-- what it writes, from what the engine ensures
pub told_by : {fields : Known} {to : Target} {what : Directive} {s t : State} {old new : Around} {r : Result (Option UseWhy) Stop} → AsksNothing what → HasAdvanced fields to what s t old new r → Writes (effect_of Nothing what s) t (holds_of old).written (holds_of new).written r
told_by {fields} {to} {what} {s} {t} {old} {new} {r} asks h = alone fields to what asks s t (holds_of old) (holds_of new) r h.advances
