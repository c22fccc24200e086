-- Directives within their limits keep the settings within theirs, and count one step and one saved mesh more at most.
use Rattle.std.proofs.Common.{◌≡◌, ◌≤◌, ◌+◌, ℕ, Bool, true, false, not, cond, is_some, List, [], ◌∷◌, Option, Some, None, Result, Ok, Err, subst, arith}
use Rattle.std.specs.FinMap as finite
use Rattle.mesh_base.specs.declared.UseWhy.{UseWhy}
use Rattle.mesh_base.specs.Mesh.{Mesh}
use Rattle.mesh_base.specs.Shifts.{Shifts}
use Rattle.step_choose.specs.Settings.{AreWithinLimits}
use Rattle.step_text.specs.declared.Directive.{Directive}
use Rattle.step_text.specs.declared.Directive.TheVariants as directive
use Rattle.step_text.specs.Ranges.{IsInRange}
use Rattle.log_text.specs.declared.LogLine.{LogLine}
use Rattle.log_text.specs.declared.LogLine.TheVariants.{Close}
use Rattle.track_engine.specs.State.{Group, State, start}
use Rattle.track_engine.specs.Answers.{Answer, Nothing, NoSuchField, FieldShifts, Wanted, WantedOfFirst}
use Rattle.track_engine.specs.Effects.{Effect, Proceeds, effect_of, shift_effect, drive_effect, fit_effect, solid_effect, step_effect, close_effect, kept_whole, taken_back, sum_of_one, sum_of_all, first_outside}

-- the settings and the counts after a directive that is taken
abbrev IsNext : State → State → Type 0
IsNext s next = AreWithinLimits next.set × (next.steps ≤ s.steps + 1) × (next.saved ≤ s.saved + 1)

abbrev StaysWithin : State → Effect → Type 0
StaysWithin s (Proceeds lines next) = IsNext s next
StaysWithin s _ = Unit {0}

more : (n : ℕ) → n ≤ n + 1
more n = omega arith

all_of : (n : ℕ) → n + 1 ≤ n + 1
all_of n = omega arith

-- where they are as they were
unchanged : (s : State) → AreWithinLimits s.set → IsNext s s
unchanged s limits = (limits, more s.steps, more s.saved)

shift_within : (s : State) → IsNext s s → (r : Result Shifts UseWhy) → StaysWithin s (shift_effect r s)
shift_within s limits (Ok asked) = limits
shift_within s limits (Err why) = tt

drive_within : (given : Answer) (s : State) → IsNext s s → StaysWithin s (drive_effect given s)
drive_within (FieldShifts by) s limits = shift_within s limits (sum_of_all s.mesh by s.asked)
drive_within NoSuchField s limits = tt
drive_within Nothing s limits = tt
drive_within (Wanted wants) s limits = tt
drive_within (WantedOfFirst count wants) s limits = tt

fit_within : (given : Answer) (s : State) → IsNext s s → StaysWithin s (fit_effect given s)
fit_within (Wanted wants) s limits = limits
fit_within (WantedOfFirst count wants) s limits = tt
fit_within (FieldShifts by) s limits = tt
fit_within NoSuchField s limits = tt
fit_within Nothing s limits = tt

solid_within : (s : State) → IsNext s s → (b : Bool) (v : ℕ) → StaysWithin s (solid_effect b v s)
solid_within s limits true v = limits
solid_within s limits false v = tt

step_within : (s : State) → IsNext s s → (o : Option ℕ) → StaysWithin s (step_effect o s)
step_within s limits None = (limits.0, all_of s.steps, limits.2)
step_within s limits (Some v) = tt

close_within : (s : State) → IsNext s s → (groups : List Group) → StaysWithin s (close_effect groups s)
close_within s limits [] = limits
close_within s limits (group ∷ outer) = by_test group.failed
  where
    by_test : (b : Bool) → StaysWithin s (Proceeds (Close (not b) ∷ []) (cond b (taken_back group outer s) (kept_whole outer s)))
    by_test true = limits
    by_test false = limits

effect_within : (given : Answer) (what : Directive) (s : State) → IsInRange what → IsNext s s → StaysWithin s (effect_of given what s)
effect_within given (directive.SetDepth depth) s range limits = (record { depth = range; passes = limits.0.passes; halvings = limits.0.halvings }, limits.1, limits.2)
effect_within given (directive.SetPasses passes) s range limits = (record { depth = limits.0.depth; passes = range; halvings = limits.0.halvings }, limits.1, limits.2)
effect_within given (directive.SetZones zones) s range limits = (record { depth = limits.0.depth; passes = limits.0.passes; halvings = limits.0.halvings }, limits.1, limits.2)
effect_within given (directive.SetHalvings halvings) s range limits = (record { depth = limits.0.depth; passes = limits.0.passes; halvings = range }, limits.1, limits.2)
effect_within given (directive.ShiftOne v by) s range limits = shift_within s limits (sum_of_one s.mesh v by s.asked)
effect_within given (directive.ShiftAll by) s range limits = shift_within s limits (sum_of_all s.mesh (λ v. by) s.asked)
effect_within given (directive.Drive name) s range limits = drive_within given s limits
effect_within given (directive.Solid v) s range limits = solid_within s limits (is_some (finite.get s.mesh.points v)) v
effect_within given directive.Step s range limits = step_within s limits (first_outside s.mesh s.asked)
effect_within given (directive.Pass kind) s range limits = limits
effect_within given directive.Fit s range limits = fit_within given s limits
effect_within given directive.Save s range limits = (limits.0, limits.1, all_of s.saved)
effect_within given directive.Group s range limits = limits
effect_within given directive.Close s range limits = close_within s limits s.groups

next_is : (given : Answer) (what : Directive) (s next : State) (lines : List LogLine) → IsInRange what → AreWithinLimits s.set → effect_of given what s ≡ Proceeds lines next → IsNext s next
next_is given what s next lines range limits goes = let P : Effect → Type 0 = λ t. StaysWithin s t in subst P goes (effect_within given what s range (unchanged s limits))

pub limits_next : (given : Answer) (what : Directive) (s next : State) (lines : List LogLine) → IsInRange what → AreWithinLimits s.set → effect_of given what s ≡ Proceeds lines next → AreWithinLimits next.set
limits_next given what s next lines range limits goes = (next_is given what s next lines range limits goes).0

pub steps_next : (given : Answer) (what : Directive) (s next : State) (lines : List LogLine) → IsInRange what → AreWithinLimits s.set → effect_of given what s ≡ Proceeds lines next → next.steps ≤ s.steps + 1
steps_next given what s next lines range limits goes = (next_is given what s next lines range limits goes).1

pub saved_next : (given : Answer) (what : Directive) (s next : State) (lines : List LogLine) → IsInRange what → AreWithinLimits s.set → effect_of given what s ≡ Proceeds lines next → next.saved ≤ s.saved + 1
saved_next given what s next lines range limits goes = (next_is given what s next lines range limits goes).2

-- where the directives begin
pub limits_start : (m : Mesh) → AreWithinLimits (start m).set
limits_start m = record { depth = omega arith; passes = omega arith; halvings = omega arith }
