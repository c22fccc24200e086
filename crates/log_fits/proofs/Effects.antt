-- The lines of directives fit.
use Rattle.std.proofs.Common.{◌≡◌, ℕ, suc, ◌+◌, ◌-◌, ◌<◌, Bool, true, false, cond, not, is_some, List, [], ◌∷◌, length, take, Option, Some, None, Result, Ok, Err, refl, ap, sym, subst, arith}
use Rattle.std.specs.FinMap as finite
use Rattle.std.proofs.lemmas.List.{length-map}
use Rattle.grid_decided.specs.Decided.{meets_exactly}
use Rattle.mesh_base.specs.declared.UseWhy.{UseWhy}
use Rattle.mesh_base.specs.Mesh.{Mesh}
use Rattle.mesh_base.specs.Pairs.{edges}
use Rattle.mesh_base.specs.Shifts.{Shifts}
use Rattle.edit_base.specs.declared.PassKind.{PassKind}
use Rattle.step_choose.specs.Settings.{AreWithinLimits}
use Rattle.step_text.specs.declared.TheConstants.{GROUPS_MAX}
use Rattle.step_text.specs.declared.Directive.{Directive}
use Rattle.step_text.specs.declared.Directive.TheVariants as directive
use Rattle.step_text.specs.declared.Placed.{Placed}
use Rattle.step_text.specs.Ranges.{AreInRange, Nests, open_behind, AreNested}
use Rattle.log_text.specs.declared.LogLine.{LogLine}
use Rattle.log_text.specs.declared.LogLine.TheVariants.{Close}
use Rattle.log_replay.specs.Replay.{Replay, after}
use Rattle.log_replay.specs.OfPass.{AreOfPass}
use Rattle.log_replay.specs.Again.{LinesAreAgain}
use Rattle.pass_run.specs.PassLines.{terms_of}
use Rattle.pass_run.proofs.Replaying.{pass_is}
use Rattle.track_engine.specs.State.{Group, State, standing, is_open}
use Rattle.track_engine.specs.Answers.{Answer, Nothing, NoSuchField, FieldShifts, Wanted, WantedOfFirst, Answers, first, later}
use Rattle.track_engine.specs.Effects.{Effect, Proceeds, Refused, Unanswered, effect_of, shift_effect, drive_effect, fit_effect, solid_effect, step_effect, close_effect, kept_whole, taken_back, fail_if, sum_of_one, sum_of_all, first_outside, hits, taken, passed_lines, passed_mesh, fitted_lines, fitted_mesh, after_lines, and_then, log_from}
use Rattle.track_engine.specs.Invariant.{IsRunInvariant}
use Rattle.track_engine.proofs.Passing.{fit_is}
use Rattle.track_engine.proofs.Keeping.{kept_next}
use Rattle.track_engine.proofs.Limits.{limits_next}
use Rattle.track_engine.proofs.Replayed.{effect_replayed}
use Rattle.track_engine.proofs.Again.{IsAgain, effect_again}
use Rattle.log_fits.specs.Fitting.{LinesFit}
use Rattle.log_fits.proofs.Lines.{told, begun_behind, fits_append, step_fits, step_ends, pass_fits, pass_ends}

-- ---- how many groups are open

same_count : (b : Bool) (groups : List Group) → length (fail_if b groups) ≡ length groups
same_count b [] = refl
same_count b (group ∷ outer) = refl

-- ---- an effect that is taken: its lines fit, no step is begun behind them, and so many groups are open
pub record Fits (open_groups : ℕ) (s next : State) (lines : List LogLine) : Type 0 where
  pub fit : LinesFit (told false (standing s)) lines
  pub ends : begun_behind false lines ≡ false
  pub count : length next.groups ≡ open_groups

abbrev pub EffectFits : ℕ → State → Effect → Type 0
EffectFits open_groups s (Proceeds lines next) = Fits open_groups s next lines
EffectFits open_groups s (Unanswered lines) = LinesFit (told false (standing s)) lines
EffectFits open_groups s (Refused why) = Unit {0}

shift_fits : (s : State) (r : Result Shifts UseWhy) → EffectFits (length s.groups) s (shift_effect r s)
shift_fits s (Ok asked) = record { fit = tt; ends = refl; count = refl }
shift_fits s (Err why) = tt

drive_fits : (given : Answer) (s : State) → EffectFits (length s.groups) s (drive_effect given s)
drive_fits (FieldShifts by) s = shift_fits s (sum_of_all s.mesh by s.asked)
drive_fits NoSuchField s = tt
drive_fits Nothing s = tt
drive_fits (Wanted wants) s = tt
drive_fits (WantedOfFirst count wants) s = tt

solid_fits : (s : State) (v : ℕ) (b : Bool) → is_some (finite.get s.mesh.points v) ≡ b → EffectFits (length s.groups) s (solid_effect b v s)
solid_fits s v true live = record { fit = ((refl, live), tt); ends = refl; count = refl }
solid_fits s v false live = tt

step_effect_fits : (s : State) (o : Option ℕ) → IsAgain s (step_effect o s) → EffectFits (length s.groups) s (step_effect o s)
step_effect_fits s None again = record {
  fit = step_fits (s.steps + 1) (hits s) (taken s) (standing s) again;
  ends = step_ends (s.steps + 1) (hits s) (taken s);
  count = same_count _ s.groups;
}
step_effect_fits s (Some v) again = tt

pass_lines_are : (kind : PassKind) (s : State) → AreOfPass (passed_lines kind s)
unfolding passed_lines
pass_lines_are kind s = pass_is meets_exactly (terms_of kind s.set.depth (is_open s.groups)) s.mesh

-- a pass, by lines of which each may be of a pass
pub lines_fit : (lines : List LogLine) (left : Mesh) (s : State) → AreOfPass lines → LinesAreAgain (standing s) lines → Fits (length s.groups) s (after_lines lines left s) lines
lines_fit lines left s are again = record { fit = pass_fits (standing s) lines are again; ends = pass_ends lines are; count = same_count _ s.groups }

sizing_fits : (given : Answer) (s : State) → IsAgain s (fit_effect given s) → EffectFits (length s.groups) s (fit_effect given s)
sizing_fits (Wanted wants) s again = lines_fit (fitted_lines wants (edges s.mesh) s) (fitted_mesh wants (edges s.mesh) s) s (fit_is wants (edges s.mesh) s) again
sizing_fits (WantedOfFirst count wants) s again = pass_fits (standing s) (fitted_lines wants (take count (edges s.mesh)) s) (fit_is wants (take count (edges s.mesh)) s) again
sizing_fits (FieldShifts by) s again = tt
sizing_fits NoSuchField s again = tt
sizing_fits Nothing s again = tt

close_fits : (s : State) (groups : List Group) → s.groups ≡ groups → 0 < length s.groups → EffectFits (length s.groups - 1) s (close_effect groups s)
close_fits s [] e some = absurd (let none : length s.groups ≡ 0 = ap length e in omega (arith, none, some))
close_fits s (group ∷ outer) e some = by_test group.failed
  where
    one_less : length outer ≡ length s.groups - 1
    one_less = let more : length s.groups ≡ suc (length outer) = ap length e in omega (arith, more)

    stacked : 0 < length (standing s).stack
    stacked = subst (λ n. 0 < n) (sym (length-map s.groups (λ g. g.mesh))) some

    by_test : (b : Bool) → EffectFits (length s.groups - 1) s (Proceeds (Close (not b) ∷ []) (cond b (taken_back group outer s) (kept_whole outer s)))
    by_test true = record { fit = ((refl, stacked), tt); ends = refl; count = one_less }
    by_test false = record { fit = ((refl, stacked), tt); ends = refl; count = one_less }

pub effect_fits : (given : Answer) (what : Directive) (s : State) → Nests (length s.groups) what → IsAgain s (effect_of given what s) → EffectFits (open_behind (length s.groups) what) s (effect_of given what s)
effect_fits given (directive.SetDepth depth) s nests again = record { fit = tt; ends = refl; count = refl }
effect_fits given (directive.SetPasses passes) s nests again = record { fit = tt; ends = refl; count = refl }
effect_fits given (directive.SetZones zones) s nests again = record { fit = tt; ends = refl; count = refl }
effect_fits given (directive.SetHalvings halvings) s nests again = record { fit = tt; ends = refl; count = refl }
effect_fits given (directive.ShiftOne v by) s nests again = shift_fits s (sum_of_one s.mesh v by s.asked)
effect_fits given (directive.ShiftAll by) s nests again = shift_fits s (sum_of_all s.mesh (λ v. by) s.asked)
effect_fits given (directive.Drive name) s nests again = drive_fits given s
effect_fits given (directive.Solid v) s nests again = solid_fits s v (is_some (finite.get s.mesh.points v)) refl
effect_fits given directive.Step s nests again = step_effect_fits s (first_outside s.mesh s.asked) again
effect_fits given (directive.Pass kind) s nests again = lines_fit (passed_lines kind s) (passed_mesh kind s) s (pass_lines_are kind s) again
effect_fits given directive.Fit s nests again = sizing_fits given s again
effect_fits given directive.Save s nests again = record { fit = ((refl, refl, refl), tt); ends = refl; count = refl }
effect_fits given directive.Group s nests again = record {
  fit = ((refl, subst (λ n. n < GROUPS_MAX) (sym (length-map s.groups (λ g. g.mesh))) nests), tt);
  ends = refl;
  count = (let more : suc (length s.groups) ≡ length s.groups + 1 = omega arith in more);
}
effect_fits given directive.Close s nests again = close_fits s s.groups refl nests

-- ---- all directives

pub fits_from : (answers : Answers) (steps : List Placed) (s : State) (last : ℕ) → AreNested (length s.groups) steps last → AreInRange steps → AreWithinLimits s.set → IsRunInvariant s
    → LinesFit (told false (standing s)) (log_from answers steps s).lines
fits_from answers [] s last nested range limits kept = (tt, tt)
fits_from answers (p ∷ steps) s last nested range limits kept =
    by_effect (effect_of (first answers) p.what s) refl (effect_fits (first answers) p.what s nested.0 (effect_again (first answers) p.what s limits kept))
    (λ next lines e more. fits_from (later answers) steps next last more range.1 (limits_next (first answers) p.what s next lines range.0 limits e) (kept_next (first answers) p.what s next lines kept e))
  where
    by_effect : (t : Effect) → effect_of (first answers) p.what s ≡ t → EffectFits (open_behind (length s.groups) p.what) s t
        → ((next : State) (lines : List LogLine) → effect_of (first answers) p.what s ≡ Proceeds lines next → AreNested (length next.groups) steps last → LinesFit (told false (standing next)) (log_from (later answers) steps next).lines)
        → LinesFit (told false (standing s)) (and_then p.line t (log_from (later answers) steps)).lines
    by_effect (Proceeds lines next) e fits others =
        let rest = (log_from (later answers) steps next).lines in
        let P : Replay → Type 0 = λ r. LinesFit (told false r) rest in
        let Q : Bool → Type 0 = λ b. LinesFit (told b (after (standing s) lines)) rest in
        let N : ℕ → Type 0 = λ n. AreNested n steps last in
        fits_append false (standing s) lines rest fits.fit
        (subst Q (sym fits.ends) (subst P (sym (effect_replayed (first answers) p.what s next lines e)) (others next lines e (subst N (sym fits.count) nested.1))))
    by_effect (Refused why) e fits others = (tt, tt)
    by_effect (Unanswered lines) e fits others = fits_append false (standing s) lines [] fits tt
