-- What a step and a pass write is the effect of their directive.
use Rattle.std.proofs.Common.{ℕ, List, Option, Some, None, Result, Ok, Err, refl, sym, ap, inl, inr}
use Rattle.mesh_base.specs.declared.UseWhy.{UseWhy}
use Rattle.edit_base.specs.declared.PassKind.{PassKind}
use Rattle.step_text.specs.declared.Directive.TheVariants as directive
use Rattle.outside_io.specs.declared.stop.Stop.{Stop}
use Rattle.track_engine.specs.State.{State}
use Rattle.track_engine.specs.Answers.{Nothing}
use Rattle.track_engine.specs.Effects.{Proceeds, effect_of, step_lines, after_step, passed_lines, after_pass}
use Rattle.track_engine.specs.Parts.{StepTakes, PassTakes, Writes}

pub step_writes : (s t : State) (old new : Option (List ℕ)) (r : Result (Option UseWhy) Stop) → StepTakes s t old new r → Writes (effect_of Nothing directive.Step s) t old new r
step_writes s t old new (Ok None) x = (step_lines s, x.0, x.2)
step_writes s t old new (Ok (Some why)) x = x
step_writes s t old new (Err stop) (inl same) = inl same
step_writes s t old new (Err stop) (inr x) = inr (step_lines s, after_step s, x.0, x.1)

pub pass_writes : (kind : PassKind) (s t : State) (old new : Option (List ℕ)) (r : Result (Option UseWhy) Stop) → PassTakes kind s t old new r → Writes (effect_of Nothing (directive.Pass kind) s) t old new r
pass_writes kind s t old new (Ok None) x = (passed_lines kind s, ap (Proceeds (passed_lines kind s)) (sym x.0), x.1)
pass_writes kind s t old new (Ok (Some why)) x = absurd x
pass_writes kind s t old new (Err stop) x = inr (passed_lines kind s, after_pass kind s, refl, x)
