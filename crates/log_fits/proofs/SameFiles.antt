-- Two jobs of the same files have one log, but for how much was seen of a file that is too long.
use Rattle.std.proofs.Common.{◌≡◌, ℕ, ◌<◌, ◌≤◌, true, List, [], ◌∷◌, length, Option, Some, None, refl, ap, sym, subst, ◌∙◌, arith}
use Rattle.std.specs.Option.{IsSomeAnd}
use Rattle.mesh_base.specs.declared.Scale.{Scale}
use Rattle.log_text.specs.declared.TheConstants.{VERSION}
use Rattle.log_text.specs.declared.LogLine.TheVariants.{First}
use Rattle.outside_io.specs.Desk.{Files}
use Rattle.track_input.specs.Source.{Source, Bytes, Absent, TooLong, IsSource}
use Rattle.track_input.specs.Job.{input_of_files}
use Rattle.track_engine.specs.Answers.{Answers}
use Rattle.track_engine.specs.Answered.{Known}
use Rattle.track_engine.specs.Effects.{with_log}
use Rattle.track_run.specs.Answered.{IsInputAnswered}
use Rattle.track_run.specs.Job.{log_of_input}
use Rattle.log_fits.specs.OneLog.{HaveOneAnswer, JobsOfTheSameFilesHaveOneLog, unseen_log}
use Rattle.log_fits.proofs.OneLog.{files_alike}

-- ---- what a name holds
abbrev Alike : Source → Source → Type 0
Alike (Bytes one) (Bytes other) = one ≡ other
Alike Absent Absent = Unit {0}
Alike (TooLong seen) (TooLong other) = Unit {0}
Alike _ _ = ⊥

abbrev IsGiven : {X : Type 0} → Option X → Type 0
IsGiven None = ⊥
IsGiven (Some x) = Unit {0}

differ : {X : Type 0} (x : X) → Some x ≡ None → ⊥
differ x e = subst IsGiven e tt

longer : (most seen : ℕ) (bytes : List ℕ) → length bytes ≤ most → most < seen → seen ≤ length bytes → ⊥
longer most seen bytes p q r = omega (arith, p, q, r)

held_alike : (scale : Scale) (files : Files) (name : List ℕ) (one other : Source) → IsSource scale (Some files) name one → IsSource scale (Some files) name other → Alike one other
held_alike scale files name (Bytes a) (Bytes b) p q = let e : Some a ≡ Some b = sym p.1 ∙ q.1 in cc
held_alike scale files name (Bytes a) Absent p q = differ a (sym p.1 ∙ q)
held_alike scale files name (Bytes a) (TooLong seen) p q = longer _ seen a p.0 q.0 (subst (λ o. IsSomeAnd o (λ (bytes : List ℕ). seen ≤ length bytes)) p.1 q.2)
held_alike scale files name Absent (Bytes b) p q = differ b (sym q.1 ∙ p)
held_alike scale files name Absent Absent p q = tt
held_alike scale files name Absent (TooLong seen) p q = subst (λ o. IsSomeAnd o (λ (bytes : List ℕ). seen ≤ length bytes)) p q.2
held_alike scale files name (TooLong seen) (Bytes b) p q = longer _ seen b q.0 p.0 (subst (λ o. IsSomeAnd o (λ (bytes : List ℕ). seen ≤ length bytes)) q.1 p.2)
held_alike scale files name (TooLong seen) Absent p q = subst (λ o. IsSomeAnd o (λ (bytes : List ℕ). seen ≤ length bytes)) q p.2
held_alike scale files name (TooLong seen) (TooLong more) p q = tt

-- ---- the logs
module _ (fields : Known) (have : HaveOneAnswer fields) (scale : Scale) (decimals : ℕ) (one other : Answers) where
  logs_alike : (mesh also steps more : Source) → Alike mesh also → Alike steps more → IsInputAnswered scale fields true one (input_of_files scale decimals mesh steps) → IsInputAnswered scale fields true other (input_of_files scale decimals also more)
      → unseen_log (log_of_input scale one (input_of_files scale decimals mesh steps)) ≡ unseen_log (log_of_input scale other (input_of_files scale decimals also more))
  logs_alike (TooLong s) (TooLong t) steps more p q a b = refl
  logs_alike (TooLong s) Absent steps more p q a b = absurd p
  logs_alike (TooLong s) (Bytes y) steps more p q a b = absurd p
  logs_alike Absent (TooLong t) steps more p q a b = absurd p
  logs_alike Absent Absent steps more p q a b = refl
  logs_alike Absent (Bytes y) steps more p q a b = absurd p
  logs_alike (Bytes x) (TooLong t) steps more p q a b = absurd p
  logs_alike (Bytes x) Absent steps more p q a b = absurd p
  logs_alike (Bytes x) (Bytes y) (TooLong s) (TooLong t) p q a b = refl
  logs_alike (Bytes x) (Bytes y) (TooLong s) Absent p q a b = absurd q
  logs_alike (Bytes x) (Bytes y) (TooLong s) (Bytes v) p q a b = absurd q
  logs_alike (Bytes x) (Bytes y) Absent (TooLong t) p q a b = absurd q
  logs_alike (Bytes x) (Bytes y) Absent Absent p q a b = refl
  logs_alike (Bytes x) (Bytes y) Absent (Bytes v) p q a b = absurd q
  logs_alike (Bytes x) (Bytes y) (Bytes u) (TooLong t) p q a b = absurd q
  logs_alike (Bytes x) (Bytes y) (Bytes u) Absent p q a b = absurd q
  logs_alike (Bytes x) (Bytes y) (Bytes u) (Bytes v) p q a b =
      let mine = subst (λ m. IsInputAnswered scale fields true other (input_of_files scale decimals (Bytes m) (Bytes u))) (sym p)
      (subst (λ s. IsInputAnswered scale fields true other (input_of_files scale decimals (Bytes y) (Bytes s))) (sym q) b) in
      ap unseen_log (files_alike fields have scale one other decimals (Bytes x) (Bytes u) a mine
      ∙ ap (λ m. log_of_input scale other (input_of_files scale decimals (Bytes m) (Bytes u))) p
      ∙ ap (λ s. log_of_input scale other (input_of_files scale decimals (Bytes y) (Bytes s))) q)

pub jobs_of_the_same_files_have_one_log : (fields : Known) → JobsOfTheSameFilesHaveOneLog fields
jobs_of_the_same_files_have_one_log fields have scale files mesh_name step_name decimals job also one other is so a b =
    let scaled : also.scale ≡ job.scale = so.scale_is ∙ sym is.scale_is in
    let same : also.decimals ≡ job.decimals = so.decimals_are ∙ sym is.decimals_are in
    let mine = subst (λ d. IsInputAnswered job.scale fields true other (input_of_files job.scale d also.mesh_file also.step_file)) same
    (subst (λ s. IsInputAnswered s fields true other (input_of_files s also.decimals also.mesh_file also.step_file)) scaled b) in
    ap (with_log (First VERSION ∷ []))
    (logs_alike fields have job.scale job.decimals one other job.mesh_file also.mesh_file job.step_file also.step_file
    (held_alike scale files mesh_name job.mesh_file also.mesh_file is.mesh so.mesh) (held_alike scale files step_name job.step_file also.step_file is.steps so.steps) a mine
    ∙ ap (λ d. unseen_log (log_of_input job.scale other (input_of_files job.scale d also.mesh_file also.step_file))) (sym same)
    ∙ ap (λ s. unseen_log (log_of_input s other (input_of_files s also.decimals also.mesh_file also.step_file))) (sym scaled))
