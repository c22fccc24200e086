-- The log of whatever is asked of a tracker, call after call.
use Rattle.std.proofs.Common.{◌≡◌, inl, inr, ℕ, suc, ◌+◌, ◌≤◌, ◌<◌, Bool, false, List, [], ◌∷◌, ◌++◌, length, Some, refl, ap, sym, ◌∙◌, subst, arith}
use Rattle.std.specs.List.{AllByRecursion}
use Rattle.std.proofs.lemmas.List.{length-map, append_assoc, append-nil}
use Rattle.std.proofs.lemmas.List.Elements.{All-nil, All-cons, All-append}
use Rattle.grid_decided.specs.Decided.{meets_exactly}
use Rattle.mesh_base.specs.declared.UseWhy.{UseWhy}
use Rattle.mesh_base.specs.declared.Scale.{Scale}
use Rattle.mesh_base.specs.Mesh.{Mesh}
use Rattle.mesh_base.specs.Valid.{IsValidSurface}
use Rattle.edit_base.specs.declared.Asked.{Asked}
use Rattle.step_choose.specs.Settings.{AreWithinLimits}
use Rattle.step_text.specs.declared.Directive.{Directive}
use Rattle.step_text.specs.declared.Directive.TheVariants as directive
use Rattle.step_text.specs.Ranges.{IsInRange, open_behind}
use Rattle.log_text.specs.declared.TheConstants.{COUNT_MAX, VERSION}
use Rattle.log_text.specs.declared.LogLine.{LogLine}
use Rattle.log_text.specs.declared.LogLine.TheVariants.{Close, End}
use Rattle.log_read.specs.Laws.{IsAskedInRange}
use Rattle.log_text.specs.Lines.{text_of_lines}
use Rattle.log_text.proofs.LineLaws.{text_of_lines-append}
use Rattle.log_replay.specs.Again.{LineIsAgain, LinesAreAgain}
use Rattle.log_replay.specs.Replay.{Replay, after, at_mesh}
use Rattle.log_replay.specs.Laws.{HaveLimits, IsWithin}
use Rattle.log_replay.proofs.Limits.{limits-after}
use Rattle.log_replay.proofs.Replaying.{each_then}
use Rattle.outside_io.specs.Sink.{appended}
use Rattle.run_laws.specs.Directives.{HasRoomFor, IsEffectInRange}
use Rattle.run_laws.specs.Lines.{MayFollow, AreInRange}
use Rattle.run_laws.proofs.Effects.{effects_in_range}
use Rattle.run_laws.proofs.PassLines.{edits_in_range}
use Rattle.run_laws.proofs.StepLines.{mesh_in_range}
use Rattle.track_engine.specs.Answers.{Answer}
use Rattle.track_engine.specs.Effects.{Effect, Proceeds, Refused, Unanswered, effect_of, close_effect, edited_lines, edited_mesh, after_edits, undo_effect, taken_back, mesh_line}
use Rattle.track_engine.specs.Asking.{KeepsTheRun}
use Rattle.track_engine.specs.Invariant.{IsRunInvariant}
use Rattle.track_engine.specs.Kept.{LineHolds, LogIsSafe}
use Rattle.track_engine.specs.State.{Group, State, standing, unsaved, is_open}
use Rattle.track_engine.proofs.Again.{IsAgain, effect_again, edits_again}
use Rattle.track_engine.proofs.Keeping.{KeepsEffect, keeps_effect, kept_next, kept_start, edits_run, undo_run, saved_well}
use Rattle.track_engine.proofs.Limits.{limits_next, steps_next, saved_next, limits_start}
use Rattle.track_engine.proofs.Passing.{edits_are}
use Rattle.track_engine.proofs.Replayed.{effect_replayed}
use Rattle.log_fits.specs.Fitting.{LinesFit}
use Rattle.log_fits.specs.Histories.{Call, Does, Edits, Undoes, Sets, effect_of_call, state_left, lines_told, history, state_after, OpensFew, MayBeCalled, MayAllBeCalled, CallersHaveLogs, Took, CallersAreTold}
use Rattle.log_fits.proofs.Effects.{EffectFits, effect_fits, lines_fit}
use Rattle.log_fits.proofs.Lines.{told, begun_behind, fits_append}

-- ---- a call

-- what is known of the lines of a call, and of the state behind them
record IsGood (scale : Scale) (s next : State) (lines : List LogLine) : Type 0 where
  pub kept : IsRunInvariant next
  pub limits : AreWithinLimits next.set
  pub steps : next.steps ≤ s.steps + 1
  pub saved : next.saved ≤ s.saved + 1
  pub leads : after (standing s) lines ≡ standing next
  pub fits : LinesFit (told false (standing s)) lines
  pub ends : begun_behind false lines ≡ false
  pub again : LinesAreAgain (standing s) lines
  pub safe : LogIsSafe (standing s) lines
  pub range : AreInRange scale lines

abbrev IsGoodEffect : Scale → State → Effect → Type 0
IsGoodEffect scale s effect = IsGood scale s (state_left effect s) (lines_told effect)

no_lines : (scale : Scale) → AreInRange scale []
no_lines scale = All-nil (MayFollow scale)

one_line : (scale : Scale) (l : LogLine) → MayFollow scale l → AreInRange scale (l ∷ [])
one_line scale l h = All-cons (MayFollow scale) l [] h (All-nil (MayFollow scale))

-- nothing is told, and nothing changes
nothing : (scale : Scale) (s : State) → HasRoomFor scale 1 s → IsGood scale s s []
nothing scale s room = record {
  kept = room.kept;
  limits = room.limits;
  steps = omega arith;
  saved = omega arith;
  leads = refl;
  fits = tt;
  ends = refl;
  again = tt;
  safe = tt;
  range = no_lines scale;
}

-- ---- a directive

abbrev FitsHere : State → Effect → Type 0
FitsHere s (Proceeds lines next) = LinesFit (told false (standing s)) lines × (begun_behind false lines ≡ false)
FitsHere s _ = Unit {0}

fits_here : (open_groups : ℕ) (s : State) (t : Effect) → EffectFits open_groups s t → FitsHere s t
fits_here open_groups s (Proceeds lines next) h = (h.fit, h.ends)
fits_here open_groups s (Refused why) h = tt
fits_here open_groups s (Unanswered lines) h = tt

close_fits_here : (given : Answer) (s : State) → IsAgain s (effect_of given directive.Close s) → FitsHere s (effect_of given directive.Close s)
close_fits_here given s again = by_groups s.groups refl
  where
    by_groups : (groups : List Group) → s.groups ≡ groups → FitsHere s (close_effect s.groups s)
    by_groups [] e = subst (λ gs. FitsHere s (close_effect gs s)) (sym e) (tt, refl)
    by_groups (group ∷ outer) e =
        let more : length s.groups ≡ suc (length outer) = ap length e in
        let some : 0 < length s.groups = omega (arith, more) in
        fits_here (open_behind (length s.groups) directive.Close) s (effect_of given directive.Close s) (effect_fits given directive.Close s some again)

directive_fits : (given : Answer) (what : Directive) (s : State) → OpensFew (length s.groups) what → IsAgain s (effect_of given what s) → FitsHere s (effect_of given what s)
directive_fits given (directive.SetDepth depth) s few again = (tt, refl)
directive_fits given (directive.SetPasses passes) s few again = (tt, refl)
directive_fits given (directive.SetZones zones) s few again = (tt, refl)
directive_fits given (directive.SetHalvings halvings) s few again = (tt, refl)
directive_fits given (directive.ShiftOne v by) s few again = fits_here (length s.groups) s (effect_of given (directive.ShiftOne v by) s) (effect_fits given (directive.ShiftOne v by) s tt again)
directive_fits given (directive.ShiftAll by) s few again = fits_here (length s.groups) s (effect_of given (directive.ShiftAll by) s) (effect_fits given (directive.ShiftAll by) s tt again)
directive_fits given (directive.Drive name) s few again = fits_here (length s.groups) s (effect_of given (directive.Drive name) s) (effect_fits given (directive.Drive name) s tt again)
directive_fits given (directive.Solid v) s few again = fits_here (length s.groups) s (effect_of given (directive.Solid v) s) (effect_fits given (directive.Solid v) s tt again)
directive_fits given directive.Step s few again = fits_here (length s.groups) s (effect_of given directive.Step s) (effect_fits given directive.Step s tt again)
directive_fits given (directive.Pass kind) s few again = fits_here (length s.groups) s (effect_of given (directive.Pass kind) s) (effect_fits given (directive.Pass kind) s tt again)
directive_fits given directive.Fit s few again = fits_here (length s.groups) s (effect_of given directive.Fit s) (effect_fits given directive.Fit s tt again)
directive_fits given directive.Save s few again = fits_here (length s.groups) s (effect_of given directive.Save s) (effect_fits given directive.Save s tt again)
directive_fits given directive.Group s few again = fits_here (length s.groups + 1) s (effect_of given directive.Group s) (effect_fits given directive.Group s few again)
directive_fits given directive.Close s few again = close_fits_here given s again

directive_good : (scale : Scale) (given : Answer) (what : Directive) (s : State) → HasRoomFor scale 1 s → IsInRange what → OpensFew (length s.groups) what → IsGoodEffect scale s (effect_of given what s)
directive_good scale given what s room range few =
    let again = effect_again given what s room.limits room.kept in
    by_effect (effect_of given what s) refl (directive_fits given what s few again) again (keeps_effect given what s room.kept) (effects_in_range scale given what s room range)
  where
    by_effect : (t : Effect) → effect_of given what s ≡ t → FitsHere s t → IsAgain s t → KeepsEffect s t → IsEffectInRange scale t → IsGoodEffect scale s t
    by_effect (Proceeds lines next) e fit again keeps ranged = record {
      kept = kept_next given what s next lines room.kept e;
      limits = limits_next given what s next lines range room.limits e;
      steps = steps_next given what s next lines range room.limits e;
      saved = saved_next given what s next lines range room.limits e;
      leads = effect_replayed given what s next lines e;
      fits = fit.0;
      ends = fit.1;
      again = again;
      safe = keeps.0;
      range = ranged;
    }
    by_effect (Refused why) e fit again keeps ranged = nothing scale s room
    by_effect (Unanswered lines) e fit again keeps ranged = nothing scale s room

-- ---- edits by ids

edits_ranged : (scale : Scale) (asked : List Asked) (s : State) → HasRoomFor scale 1 s → AllByRecursion IsAskedInRange asked → AreInRange scale (edited_lines asked s)
unfolding edited_lines
edits_ranged scale asked s room range = edits_in_range scale meets_exactly s.set.depth (is_open s.groups) s.mesh room.kept.now.good.sound room.kept.now.good.closed asked range

edits_good : (scale : Scale) (asked : List Asked) (s : State) → HasRoomFor scale 1 s → AllByRecursion IsAskedInRange asked → IsGood scale s (after_edits asked s) (edited_lines asked s)
edits_good scale asked s room range =
    let keeps = edits_run asked s room.kept in
    let again = edits_again asked s room.limits in
    let fit = lines_fit (edited_lines asked s) (edited_mesh asked s) s (edits_are asked s) again in
    record {
      kept = keeps.2;
      limits = room.limits;
      steps = omega arith;
      saved = omega arith;
      leads = keeps.1;
      fits = fit.fit;
      ends = fit.ends;
      again = again;
      safe = keeps.0;
      range = edits_ranged scale asked s room range;
    }

-- ---- a group that is taken back

undo_good : (scale : Scale) (s : State) → HasRoomFor scale 1 s → IsGoodEffect scale s (undo_effect s.groups s)
undo_good scale s room = by_groups s.groups refl
  where
    by_groups : (groups : List Group) → s.groups ≡ groups → IsGoodEffect scale s (undo_effect s.groups s)
    by_groups [] e = subst (λ gs. IsGoodEffect scale s (undo_effect gs s)) (sym e) (nothing scale s room)
    by_groups (group ∷ outer) e =
        let keeps : KeepsTheRun s (undo_effect (group ∷ outer) s) = subst (λ gs. KeepsTheRun s (undo_effect gs s)) e (undo_run s room.kept) in
        let more : length s.groups ≡ suc (length outer) = ap length e in
        let some : 0 < length s.groups = omega (arith, more) in
        let stacked : 0 < length (standing s).stack = subst (λ n. 0 < n) (sym (length-map s.groups (λ g. g.mesh))) some in
        let good : IsGood scale s (taken_back group outer s) (Close false ∷ []) = record {
          kept = keeps.2;
          limits = room.limits;
          steps = omega arith;
          saved = omega arith;
          leads = keeps.1;
          fits = ((refl, stacked), tt);
          ends = refl;
          again = (tt, tt);
          safe = keeps.0;
          range = one_line scale (Close false) (tt, tt);
        } in
        subst (λ gs. IsGoodEffect scale s (undo_effect gs s)) (sym e) good

-- ---- whichever call it is

call_good : (scale : Scale) (call : Call) (s : State) → HasRoomFor scale 1 s → MayBeCalled s call → IsGoodEffect scale s (effect_of_call call s)
call_good scale (Does what given) s room may = directive_good scale given what s room may.0 may.1
call_good scale (Edits asked) s room may = edits_good scale asked s room may
call_good scale Undoes s room may = undo_good scale s room
call_good scale (Sets set) s room may = record {
  kept = record { now = room.kept.now; groups = room.kept.groups };
  limits = may;
  steps = omega arith;
  saved = omega arith;
  leads = refl;
  fits = tt;
  ends = refl;
  again = tt;
  safe = tt;
  range = no_lines scale;
}

-- ---- all calls

-- what is known of the lines of all calls, and of the last line behind them
pub record AreGood (scale : Scale) (s : State) (lines : List LogLine) : Type 0 where
  pub fits : LinesFit (told false (standing s)) lines
  pub again : LinesAreAgain (standing s) lines
  pub safe : LogIsSafe (standing s) lines
  pub range : AreInRange scale lines

join : (scale : Scale) (s next : State) (lines rest : List LogLine) → IsGood scale s next lines → AreGood scale next rest → AreGood scale s (lines ++ rest)
join scale s next lines rest good others =
    let Fit : Bool → Replay → Type 0 = λ b r. LinesFit (told b r) rest in
    let Again : Replay → Type 0 = λ r. LinesAreAgain r rest in
    let Safe : Replay → Type 0 = λ r. LogIsSafe r rest in
    record {
      fits = fits_append false (standing s) lines rest good.fits
          (subst (λ b. Fit b (after (standing s) lines)) (sym good.ends) (subst (λ r. Fit false r) (sym good.leads) others.fits));
      again = each_then LineIsAgain (standing s) lines rest good.again (subst Again (sym good.leads) others.again);
      safe = each_then LineHolds (standing s) lines rest good.safe (subst Safe (sym good.leads) others.safe);
      range = All-append (MayFollow scale) lines rest good.range others.range;
    }

pub calls_good : (scale : Scale) (calls : List Call) (s : State) → HasRoomFor scale (length calls) s → MayAllBeCalled calls s → AreGood scale s (history calls s ++ End ∷ [])
calls_good scale [] s room may = record { fits = (tt, tt); again = (tt, tt); safe = (tt, tt); range = one_line scale End (tt, tt) }
calls_good scale (call ∷ calls) s room may =
    let a = room.steps in
    let b = room.saved in
    let here : HasRoomFor scale 1 s = record { kept = room.kept; within = room.within; limits = room.limits; steps = omega (arith, a); saved = omega (arith, b) } in
    let effect = effect_of_call call s in
    let next = state_left effect s in
    let good = call_good scale call s here may.0 in
    let c = good.steps in
    let d = good.saved in
    let within : HaveLimits (IsWithin scale) (standing next) = subst (HaveLimits (IsWithin scale)) good.leads (limits-after (IsWithin scale) (standing s) (lines_told effect) room.within) in
    let left : HasRoomFor scale (length calls) next = record { kept = good.kept; within = within; limits = good.limits; steps = omega (arith, a, c); saved = omega (arith, b, d) } in
    subst (AreGood scale s) (sym (append_assoc (lines_told effect) (history calls next) (End ∷ [])))
    (join scale s next (lines_told effect) (history calls next ++ End ∷ []) good (calls_good scale calls next left may.1))

-- they leave room for as many more as there was
pub calls_keep : (scale : Scale) (more : ℕ) (calls : List Call) (s : State) → HasRoomFor scale (length calls + more) s → MayAllBeCalled calls s → HasRoomFor scale more (state_after calls s)
calls_keep scale more [] s room may =
    let a = room.steps in
    let b = room.saved in
    record { kept = room.kept; within = room.within; limits = room.limits; steps = omega (arith, a); saved = omega (arith, b) }
calls_keep scale more (call ∷ calls) s room may =
    let a = room.steps in
    let b = room.saved in
    let here : HasRoomFor scale 1 s = record { kept = room.kept; within = room.within; limits = room.limits; steps = omega (arith, a); saved = omega (arith, b) } in
    let effect = effect_of_call call s in
    let next = state_left effect s in
    let good = call_good scale call s here may.0 in
    let c = good.steps in
    let d = good.saved in
    let within : HaveLimits (IsWithin scale) (standing next) = subst (HaveLimits (IsWithin scale)) good.leads (limits-after (IsWithin scale) (standing s) (lines_told effect) room.within) in
    let left : HasRoomFor scale (length calls + more) next = record { kept = good.kept; within = within; limits = good.limits; steps = omega (arith, a, c); saved = omega (arith, b, d) } in
    calls_keep scale more calls next left may.1

-- ---- the log

pub room_at_first : (scale : Scale) (m : Mesh) (count : ℕ) → IsWithin scale m.limits → IsValidSurface m → count ≤ COUNT_MAX → HasRoomFor scale count (unsaved m)
room_at_first scale m count within good few =
    let kept = kept_start m good in
    record { kept = record { now = kept.now; groups = kept.groups }; within = record { mesh = within; groups = tt }; limits = limits_start m; steps = omega (arith, few); saved = omega (arith, few) }

pub callers_have_logs : CallersHaveLogs
callers_have_logs scale m calls within good may few =
    let rest : List LogLine = history calls (unsaved m) ++ End ∷ [] in
    let all : AreGood scale (unsaved m) rest = calls_good scale calls (unsaved m) (room_at_first scale m (length calls) within good few) may in
    let head : MayFollow scale (mesh_line 0 m) = mesh_in_range scale m 0 within good.sound (omega arith) in
    record {
      version = VERSION;
      is_written = inl refl;
      rest = mesh_line 0 m ∷ rest;
      lines_are = refl;
      range = All-cons (MayFollow scale) (mesh_line 0 m) rest head all.range;
      fits = (tt, ((refl, refl, refl), all.fits));
      again = (tt, (tt, all.again));
      safe = (tt, (saved_well (at_mesh m) good, all.safe));
    }

-- ---- what is told call by call

-- what one call adds to what was told, and where it leads
record Adds (effect : Effect) (s next : State) (old new : List ℕ) : Type 0 where
  pub text : new ≡ old ++ text_of_lines (lines_told effect)
  pub state : next ≡ state_left effect s

taken_adds : (effect : Effect) (s next : State) (old new : List ℕ) (lines : List LogLine) → effect ≡ Proceeds lines next → Some new ≡ appended (Some old) (text_of_lines lines) → Adds effect s next old new
taken_adds effect s next old new lines goes said =
    let text : new ≡ old ++ text_of_lines lines = cc in
    subst (λ t. Adds t s next old new) (sym goes) (record { text = text; state = refl })

refused_adds : (effect : Effect) (s next : State) (old new : List ℕ) (why : UseWhy) → effect ≡ Refused why → next ≡ s → Some new ≡ Some old → Adds effect s next old new
refused_adds effect s next old new why goes same said =
    let text : new ≡ old = cc in
    subst (λ t. Adds t s next old new) (sym goes) (record { text = text ∙ sym (append-nil old); state = same })

adds : (effect : Effect) (s next : State) (old new : List ℕ) → Took effect s next old new → Adds effect s next old new
adds effect s next old new (inl (lines, goes, said)) = taken_adds effect s next old new lines goes said
adds effect s next old new (inr (why, same, wrote)) = refused_adds effect s next old new why wrote.0 same wrote.1

pub callers_are_told : CallersAreTold
callers_are_told [] s last old new took = (took.1 ∙ sym (append-nil old), took.0)
callers_are_told (call ∷ calls) s last old new took =
    let effect = effect_of_call call s in
    let next = took.0 in
    let mid = took.1 in
    let here : Adds effect s next old mid = adds effect s next old mid took.2 in
    let rest = callers_are_told calls next last mid new took.3 in
    let lines = lines_told effect in
    let behind : State → List LogLine = λ t. history calls t in (
      rest.0
          ∙ ap (λ (t : List ℕ). t ++ text_of_lines (behind next)) here.text
          ∙ append_assoc old (text_of_lines lines) (text_of_lines (behind next))
          ∙ ap (λ (t : List ℕ). old ++ t) (sym (text_of_lines-append lines (behind next)))
          ∙ ap (λ t. old ++ text_of_lines (lines ++ behind t)) here.state,
      rest.1 ∙ ap (state_after calls) here.state,
    )
