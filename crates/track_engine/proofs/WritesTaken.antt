-- Directives that store nothing: what they write and what they do.
use Rattle.std.proofs.Common.{◌≡◌, ℕ, Bool, true, false, is_some, List, [], ◌∷◌, Option, Some, None, Result, Ok, Err, IfOk, IsSome, ap, sym, ◌∙◌, subst, inl, inr}
use Rattle.std.specs.FinMap as finite
use Rattle.std.proofs.lemmas.Bool.{false≢true}
use Rattle.mesh_base.specs.declared.UseWhy.{UseWhy}
use Rattle.outside_io.specs.Desk.{Files}
use Rattle.step_text.specs.declared.Directive.{Directive}
use Rattle.step_text.specs.declared.Directive.TheVariants as directive
use Rattle.outside_io.specs.declared.stop.Stop.{Stop}
use Rattle.track_engine.specs.State.{Group, State, standing}
use Rattle.track_engine.specs.Effects.{Effect, Proceeds, Refused, Unanswered, effect_of, solid_effect, close_effect}
use Rattle.track_engine.specs.Answers.{Nothing}
use Rattle.track_engine.specs.Saved.{Target}
use Rattle.track_engine.specs.Parts.{Advances, Writes}
use Rattle.track_engine.proofs.NoFiles.{NoFiles, files_of-none, tells_all, logs_from_said, stops_from_said}
use Rattle.track_engine.proofs.Replayed.{effect_replayed}

-- its lines name no file
abbrev NamesNone : Effect → Type 0
NamesNone (Proceeds lines next) = NoFiles lines
NamesNone (Refused why) = Unit {0}
NamesNone (Unanswered lines) = NoFiles lines

solid_names : (v : ℕ) (s : State) (b : Bool) → NamesNone (solid_effect b v s)
solid_names v s true = tt
solid_names v s false = tt

close_names : (s : State) (groups : List Group) → NamesNone (close_effect groups s)
close_names s [] = tt
close_names s (group ∷ outer) = tt

-- what it writes is what it does
writes_advance : (to : Target) (what : Directive) (s t : State) (files : Option Files) (old new : Option (List ℕ)) (r : Result (Option UseWhy) Stop) → NamesNone (effect_of Nothing what s) → Writes (effect_of Nothing what s) t old new r
    → Advances to (effect_of Nothing what s) s t (record { files = files; written = old }) (record { files = files; written = new }) r
writes_advance to what s t files old new (Ok None) none w =
    let names : NoFiles w.0 = subst NamesNone w.1 none in
    record {
      lines = w.0;
      goes = w.1;
      logs = logs_from_said to (standing s) w.0 files old new (files_of-none to w.0 (standing s) names) w.2;
      replay = effect_replayed Nothing what s t w.0 w.1;
    }
writes_advance to what s t files old new (Ok (Some why)) none w = (w.0, ap (λ (x : Option (List ℕ)). record { files = files; written = x }) w.1)
writes_advance to what s t files old new (Err stop) none (inl same) = inl (ap (λ (x : Option (List ℕ)). record { files = files; written = x }) same)
writes_advance to what s t files old new (Err stop) none (inr w) =
    let names : NoFiles w.0 = subst NamesNone w.2 none in
    inr (record { lines = w.0; tells = tells_all _ w.0 w.1 w.2; stops = stops_from_said stop to (standing s) w.0 files old new names w.3 })

module _ (to : Target) (s t : State) (files : Option Files) (old new : Option (List ℕ)) (r : Result (Option UseWhy) Stop) where
  pub advances_solid : (v : ℕ) → Writes (effect_of Nothing (directive.Solid v) s) t old new r → Advances to (effect_of Nothing (directive.Solid v) s) s t (record { files = files; written = old }) (record { files = files; written = new }) r
  advances_solid v w = writes_advance to (directive.Solid v) s t files old new r (solid_names v s (is_some (finite.get s.mesh.points v))) w

  pub advances_group : Writes (effect_of Nothing directive.Group s) t old new r → Advances to (effect_of Nothing directive.Group s) s t (record { files = files; written = old }) (record { files = files; written = new }) r
  advances_group w = writes_advance to directive.Group s t files old new r tt w

  pub advances_close : Writes (effect_of Nothing directive.Close s) t old new r → Advances to (effect_of Nothing directive.Close s) s t (record { files = files; written = old }) (record { files = files; written = new }) r
  advances_close w = writes_advance to directive.Close s t files old new r (close_names s s.groups) w

-- a directive that is never refused leaves nothing to say of a refusal
pub never_refused : (r : Result (Option UseWhy) Stop) (P : Type 0) → IfOk r (λ refused. refused ≡ None) → IfOk r (λ refused. IsSome refused → P)
never_refused (Ok refused) P none = λ some. absurd (false≢true (ap is_some (sym none) ∙ some))
never_refused (Err stop) P none = tt
