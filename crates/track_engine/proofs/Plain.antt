-- Directives to which no field answers, as effects, by what they write.
use Rattle.std.proofs.Common.{◌≡◌, ℕ, Option, Result, sym, subst}
use Rattle.mesh_base.specs.declared.UseWhy.{UseWhy}
use Rattle.edit_base.specs.declared.PassKind.{PassKind}
use Rattle.step_text.specs.declared.Directive.{Directive}
use Rattle.step_text.specs.declared.Directive.TheVariants as directive
use Rattle.outside_io.specs.Desk.{Files}
use Rattle.outside_io.specs.Outside.{Around, StoresNothing, holds_of, written_of}
use Rattle.outside_io.specs.declared.stop.Stop.{Stop}
use Rattle.track_engine.specs.Answers.{Nothing, without_field}
use Rattle.track_engine.specs.Effects.{Effect, effect_of}
use Rattle.track_engine.specs.Parts.{Advances, StepTakes, PassTakes, Writes}
use Rattle.track_engine.specs.Saved.{Target}
use Rattle.track_engine.specs.State.{State}
use Rattle.track_engine.specs.World.{Contents}
use Rattle.track_engine.proofs.NoFiles.{advances_step}
use Rattle.track_engine.proofs.PassTaken.{advances_pass}
use Rattle.track_engine.proofs.WritesTaken.{advances_solid, advances_group, advances_close}

-- what is written where the files stay
in_world : (to : Target) (effect : Effect) (s t : State) (a b : Contents) (r : Result (Option UseWhy) Stop) → b.files ≡ a.files
    → Advances to effect s t (record { files = a.files; written = a.written }) (record { files = a.files; written = b.written }) r → Advances to effect s t a b r
in_world to effect s t a b r same advances =
    let P : Option Files → Type 0 = λ f. Advances to effect s t (record { files = a.files; written = a.written }) (record { files = f; written = b.written }) r in
    subst P (sym same) advances

module _ (to : Target) (what : Directive) (s t : State) (a b : Around) (r : Result (Option UseWhy) Stop) (nothing : StoresNothing a b r) where
  abbrev plain : Directive → Type 0
  plain d = Advances to (effect_of (without_field d) d s) s t (holds_of a) (holds_of b) r

  pub plain_step : what ≡ directive.Step → StepTakes s t (written_of a) (written_of b) r → plain what
  plain_step is takes = subst plain (sym is) (in_world to (effect_of Nothing directive.Step s) s t (holds_of a) (holds_of b) r nothing.files (advances_step to s t a.world.holds.files (written_of a) (written_of b) r takes))

  pub plain_pass : (kind : PassKind) → what ≡ directive.Pass kind → PassTakes kind s t (written_of a) (written_of b) r → plain what
  plain_pass kind is takes = subst plain (sym is) (in_world to (effect_of Nothing (directive.Pass kind) s) s t (holds_of a) (holds_of b) r nothing.files (advances_pass to kind s t a.world.holds.files (written_of a) (written_of b) r takes))

  pub plain_solid : (v : ℕ) → what ≡ directive.Solid v → Writes (effect_of Nothing (directive.Solid v) s) t (written_of a) (written_of b) r → plain what
  plain_solid v is writes = subst plain (sym is) (in_world to (effect_of Nothing (directive.Solid v) s) s t (holds_of a) (holds_of b) r nothing.files (advances_solid to s t a.world.holds.files (written_of a) (written_of b) r v writes))

  pub plain_group : what ≡ directive.Group → Writes (effect_of Nothing directive.Group s) t (written_of a) (written_of b) r → plain what
  plain_group is writes = subst plain (sym is) (in_world to (effect_of Nothing directive.Group s) s t (holds_of a) (holds_of b) r nothing.files (advances_group to s t a.world.holds.files (written_of a) (written_of b) r writes))

  pub plain_close : what ≡ directive.Close → Writes (effect_of Nothing directive.Close s) t (written_of a) (written_of b) r → plain what
  plain_close is writes = subst plain (sym is) (in_world to (effect_of Nothing directive.Close s) s t (holds_of a) (holds_of b) r nothing.files (advances_close to s t a.world.holds.files (written_of a) (written_of b) r writes))
