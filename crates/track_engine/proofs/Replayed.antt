-- Where a run stands between two directives.
use Rattle.std.specs.FinMap as finite
use Rattle.std.proofs.Common.{◌≡◌, ℕ, Bool, true, false, cond, not, is_some, List, [], ◌∷◌, map, Option, Some, None, Result, Ok, Err, refl, ap, subst}
use Rattle.mesh_base.specs.declared.UseWhy.{UseWhy}
use Rattle.mesh_base.specs.Shifts.{Shifts}
use Rattle.mesh_base.specs.Pairs.{edges}
use Rattle.step_text.specs.declared.Directive.{Directive}
use Rattle.step_text.specs.declared.Directive.TheVariants as directive
use Rattle.log_text.specs.declared.LogLine.{LogLine}
use Rattle.log_replay.specs.Replay.{after, closed}
use Rattle.track_engine.specs.State.{Group, State, standing}
use Rattle.track_engine.specs.Effects.{Effect, Proceeds, Refused, Unanswered, effect_of, shift_effect, drive_effect, fit_effect, solid_effect, close_effect, step_effect, kept_whole, taken_back, sum_of_one, sum_of_all, first_outside}
use Rattle.track_engine.specs.Answers.{Answer, Nothing, NoSuchField, FieldShifts, Wanted, WantedOfFirst}
use Rattle.track_engine.proofs.NoFiles.{after-step_lines}
use Rattle.track_engine.proofs.Passing.{pass_replays, fit_replays}

-- ---- the replay of a directive's lines

-- an effect that is taken leads to where its lines lead
abbrev Replays : State → Effect → Type 0
Replays s (Proceeds lines next) = after (standing s) lines ≡ standing next
Replays s (Refused why) = Unit {0}
Replays s (Unanswered lines) = Unit {0}

shift_replays : (s : State) (r : Result Shifts UseWhy) → Replays s (shift_effect r s)
shift_replays s (Ok asked) = refl
shift_replays s (Err why) = tt

drive_replays : (given : Answer) (s : State) → Replays s (drive_effect given s)
drive_replays (FieldShifts by) s = shift_replays s (sum_of_all s.mesh by s.asked)
drive_replays NoSuchField s = tt
drive_replays Nothing s = tt
drive_replays (Wanted wants) s = tt
drive_replays (WantedOfFirst count wants) s = tt

sizing_replays : (given : Answer) (s : State) → Replays s (fit_effect given s)
sizing_replays (Wanted wants) s = fit_replays wants (edges s.mesh) s
sizing_replays (WantedOfFirst count wants) s = tt
sizing_replays (FieldShifts by) s = tt
sizing_replays NoSuchField s = tt
sizing_replays Nothing s = tt

solid_replays : (v : ℕ) (s : State) (b : Bool) → Replays s (solid_effect b v s)
solid_replays v s true = refl
solid_replays v s false = tt

-- a group that is closed
close_replays : (s : State) (groups : List Group) → s.groups ≡ groups → Replays s (close_effect groups s)
close_replays s [] e = refl
close_replays s (group ∷ outer) e = by_test group.failed
  where
    by_test : (b : Bool) → closed (not b) (map (λ g. g.mesh) s.groups) (standing s) ≡ standing (cond b (taken_back group outer s) (kept_whole outer s))
    by_test true = ap (λ (l : List Group). closed false (map (λ g. g.mesh) l) (standing s)) e
    by_test false = ap (λ (l : List Group). closed true (map (λ g. g.mesh) l) (standing s)) e

step_replays : (s : State) (o : Option ℕ) → Replays s (step_effect o s)
step_replays s None = after-step_lines s
step_replays s (Some v) = tt

replays : (given : Answer) (d : Directive) (s : State) → Replays s (effect_of given d s)
replays given (directive.SetDepth depth) s = refl
replays given (directive.SetPasses passes) s = refl
replays given (directive.SetZones zones) s = refl
replays given (directive.SetHalvings halvings) s = refl
replays given (directive.ShiftOne v by) s = shift_replays s (sum_of_one s.mesh v by s.asked)
replays given (directive.ShiftAll by) s = shift_replays s (sum_of_all s.mesh (λ v. by) s.asked)
replays given (directive.Drive name) s = drive_replays given s
replays given directive.Step s = step_replays s (first_outside s.mesh s.asked)
replays given (directive.Pass kind) s = pass_replays kind s
replays given directive.Fit s = sizing_replays given s
replays given directive.Save s = refl
replays given (directive.Solid v) s = solid_replays v s (is_some (finite.get s.mesh.points v))
replays given directive.Group s = refl
replays given directive.Close s = close_replays s s.groups refl

pub effect_replayed : (given : Answer) (d : Directive) (s next : State) (lines : List LogLine) → effect_of given d s ≡ Proceeds lines next → after (standing s) lines ≡ standing next
effect_replayed given d s next lines goes = let P : Effect → Type 0 = λ t. Replays s t in subst P goes (replays given d s)
