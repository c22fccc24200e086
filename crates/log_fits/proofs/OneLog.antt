-- A job has one log, where fields and sizing have one answer.
use Rattle.std.proofs.Common.{◌≡◌, ℕ, true, List, [], ◌∷◌, length, Option, Some, None, Result, Ok, Err, refl, ap, sym, ◌∙◌}
use Rattle.std.proofs.lemmas.Bool.{false≢true}
use Rattle.mesh_base.specs.declared.PairName.{PairName}
use Rattle.mesh_base.specs.declared.Scale.{Scale}
use Rattle.mesh_base.specs.declared.ShapeFault.{ShapeFault}
use Rattle.mesh_base.specs.Mesh.{Mesh}
use Rattle.mesh_base.specs.Valid.{IsValidSurface}
use Rattle.mesh_shape.specs.Shape.{shape_fault}
use Rattle.line_text.specs.declared.TextFault.{TextFault}
use Rattle.obj_text.specs.Obj.{Lists, lists_of}
use Rattle.step_text.specs.declared.Placed.{Placed}
use Rattle.step_text.specs.Steps.{steps_of}
use Rattle.log_text.specs.declared.TheConstants.{VERSION}
use Rattle.log_text.specs.declared.LogLine.{LogLine}
use Rattle.log_text.specs.declared.LogLine.TheVariants.{First}
use Rattle.track_input.specs.Source.{Source, Bytes, Absent, TooLong}
use Rattle.track_input.specs.Job.{input_of_files, input_of_lists, input_of_shape, input_of_steps, mesh_of_lists, met_first}
use Rattle.track_engine.specs.State.{State, start}
use Rattle.track_engine.specs.Answers.{Answers}
use Rattle.track_engine.specs.Answered.{Known, AreAnswered}
use Rattle.track_engine.specs.Effects.{Effect, Proceeds, Refused, Unanswered, ExpectedLog, effect_of, and_then, with_log, log_from, mesh_line}
use Rattle.track_engine.specs.Invariant.{IsRunInvariant}
use Rattle.track_engine.proofs.Keeping.{kept_next, kept_start}
use Rattle.track_run.specs.Answered.{IsInputAnswered}
use Rattle.track_run.specs.Job.{log_of_test, log_of_input}
use Rattle.log_fits.specs.OneLog.{HaveOneAnswer, JobsHaveOneLog}
use Rattle.track_log.proofs.ValidInputs.{valid_where_clear}
use Rattle.log_fits.proofs.OneAnswer.{effects_alike}

-- the logs of the others are only compared where the directive is taken
then_alike : (line : ℕ) (t : Effect) (f g : State → ExpectedLog) → ((lines : List LogLine) (next : State) → t ≡ Proceeds lines next → f next ≡ g next) → and_then line t f ≡ and_then line t g
then_alike line (Proceeds lines next) f g same = ap (with_log lines) (same lines next refl)
then_alike line (Refused why) f g same = refl
then_alike line (Unanswered lines) f g same = refl

module _ (fields : Known) (have : HaveOneAnswer fields) where
  directives_alike : (one other : Answers) (steps : List Placed) (s : State) → IsRunInvariant s → AreAnswered fields true one steps s → AreAnswered fields true other steps s → log_from one steps s ≡ log_from other steps s
  directives_alike one other [] s inv a b = refl
  directives_alike [] other (p ∷ more) s inv a b = absurd (false≢true (sym a))
  directives_alike (given ∷ one) [] (p ∷ more) s inv a b = absurd (false≢true (sym b))
  directives_alike (given ∷ one) (also ∷ other) (p ∷ more) s inv a b =
      let same = effects_alike fields have s inv p.what given also a.0 b.0 in
      then_alike p.line (effect_of given p.what s) (log_from one more) (log_from other more)
      (λ lines next goes. directives_alike one other more next (kept_next given p.what s next lines inv goes) (a.1 lines next goes) (b.1 lines next (sym same ∙ goes)))
      ∙ ap (λ t. and_then p.line t (log_from other more)) same

  tests_alike : (one other : Answers) (m : Mesh) (steps : List Placed) (o : Option PairName) → met_first m ≡ o → (o ≡ None → IsValidSurface m) → (o ≡ None → AreAnswered fields true one steps (start m)) → (o ≡ None → AreAnswered fields true other steps (start m)) → log_of_test one m steps o ≡ log_of_test other m steps o
  tests_alike one other m steps (Some pair) e valid a b = refl
  tests_alike one other m steps None e valid a b = ap (with_log (mesh_line 0 m ∷ [])) (directives_alike one other steps (start m) (kept_start m (valid refl)) (a refl) (b refl))

  -- what was read
  steps_alike : (scale : Scale) (one other : Answers) (lists : Lists) → shape_fault scale (length lists.points) lists.faces ≡ None → (r : Result (List Placed) TextFault) → IsInputAnswered scale fields true one (input_of_steps lists r) → IsInputAnswered scale fields true other (input_of_steps lists r)
      → log_of_input scale one (input_of_steps lists r) ≡ log_of_input scale other (input_of_steps lists r)
  steps_alike scale one other lists good (Err fault) a b = refl
  steps_alike scale one other lists good (Ok steps) a b =
      let m = mesh_of_lists scale lists in
      tests_alike one other m steps (met_first m) refl (λ none. valid_where_clear scale lists good none) a b

  shapes_alike : (scale : Scale) (one other : Answers) (lists : Lists) (o : Option ShapeFault) (steps : List ℕ) → shape_fault scale (length lists.points) lists.faces ≡ o → IsInputAnswered scale fields true one (input_of_shape lists o steps) → IsInputAnswered scale fields true other (input_of_shape lists o steps)
      → log_of_input scale one (input_of_shape lists o steps) ≡ log_of_input scale other (input_of_shape lists o steps)
  shapes_alike scale one other lists (Some fault) steps e a b = refl
  shapes_alike scale one other lists None steps e a b = steps_alike scale one other lists e (steps_of steps) a b

  lists_alike : (scale : Scale) (one other : Answers) (r : Result Lists TextFault) (steps : List ℕ) → IsInputAnswered scale fields true one (input_of_lists scale r steps) → IsInputAnswered scale fields true other (input_of_lists scale r steps) → log_of_input scale one (input_of_lists scale r steps) ≡ log_of_input scale other (input_of_lists scale r steps)
  lists_alike scale one other (Err fault) steps a b = refl
  lists_alike scale one other (Ok lists) steps a b = shapes_alike scale one other lists (shape_fault scale (length lists.points) lists.faces) steps refl a b

  pub files_alike : (scale : Scale) (one other : Answers) (decimals : ℕ) (mesh steps : Source) → IsInputAnswered scale fields true one (input_of_files scale decimals mesh steps) → IsInputAnswered scale fields true other (input_of_files scale decimals mesh steps)
      → log_of_input scale one (input_of_files scale decimals mesh steps) ≡ log_of_input scale other (input_of_files scale decimals mesh steps)
  files_alike scale one other decimals (TooLong seen) steps a b = refl
  files_alike scale one other decimals Absent steps a b = refl
  files_alike scale one other decimals (Bytes mesh) (TooLong seen) a b = refl
  files_alike scale one other decimals (Bytes mesh) Absent a b = refl
  files_alike scale one other decimals (Bytes mesh) (Bytes steps) a b = lists_alike scale one other (lists_of decimals mesh) steps a b

pub jobs_have_one_log : (fields : Known) → JobsHaveOneLog fields
jobs_have_one_log fields have job one other a b = ap (with_log (First VERSION ∷ [])) (files_alike fields have job.scale one other job.decimals job.mesh_file job.step_file a b)
