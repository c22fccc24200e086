-- The motions of a run's log pass, and so nothing is found against them.
use Rattle.std.proofs.Common.{◌≡◌, inl, inr, ℕ, suc, List, [], ◌∷◌, ◌++◌, length, Option, Some, None, refl, sym, ◌∙◌, subst}
use Rattle.mesh_base.specs.Mesh.{Mesh}
use Rattle.edit_base.specs.Scaffold.{Scaffold}
use Rattle.motion_proof.specs.declared.Verdict.{Verdict}
use Rattle.motion_proof.specs.declared.Verdict.TheVariants.{Accepted, NoMotion, Stranger, Invalid, Missing}
use Rattle.log_text.specs.declared.LogLine.{LogLine}
use Rattle.log_run.specs.States.{LogState, without_lines}
use Rattle.log_run.specs.Fits.{LineFits}
use Rattle.log_run.specs.Motions.{PassesWhereMoved}
use Rattle.track_log.specs.declared.refusal.LogRefusal.{LogRefusal}
use Rattle.track_log.specs.declared.refusal.LogRefusal.TheVariants.{Input, Log, Replay, Proof, Motion}
use Rattle.track_log.specs.Taking.{with_lines}
use Rattle.track_prove.specs.Judged.{EndsJudged}
use Rattle.track_prove.specs.Proving.{MakesVerdict}
use Rattle.log_fits.proofs.Reached.{IsAtLine}

-- nothing is found against a motion of which each pair passes
pub nothing_against : (motion : Option Scaffold) (v : Verdict) → PassesWhereMoved motion → MakesVerdict motion v → v ≡ Accepted
nothing_against None Accepted passes found = refl
nothing_against None NoMotion passes found = absurd found
nothing_against None (Stranger n) passes found = absurd found
nothing_against None (Invalid n) passes found = absurd found
nothing_against None (Missing n) passes found = absurd found
nothing_against (Some s) Accepted passes found = refl
nothing_against (Some s) (Missing n) passes found = absurd (found.failing.2 (passes (record { name = n; corners = found.failing.0 }) found.failing.1))
nothing_against (Some s) NoMotion passes found = absurd found
nothing_against (Some s) (Stranger n) passes found = absurd found
nothing_against (Some s) (Invalid n) passes found = absurd found

-- Lines of which each fits where those before it lead, and nothing is found against any of them or behind them, end well.
module _ (Finds : ℕ → LogState → LogLine → Verdict → Type 0) (beyond : Option ℕ) (m : Mesh) (lines : List LogLine) (some : lines ≡ [] → ⊥)
    (at : (front rest : List LogLine) (l : LogLine) → lines ≡ front ++ l ∷ rest → IsAtLine (with_lines (without_lines m) front) l)
    (none_against : (front rest : List LogLine) (l : LogLine) (v : Verdict) → lines ≡ front ++ l ∷ rest → Finds (suc (length front)) (with_lines (without_lines m) front) l v → v ≡ Accepted)
    (none_beyond : beyond ≡ None) where
  pub ends_well : (ending : Option LogRefusal) → EndsJudged Finds beyond m lines ending → ending ≡ None
  ends_well None h = refl
  ends_well (Some (Replay number)) (inl empty) = absurd (some empty.none)
  ends_well (Some (Replay number)) (inr unfit) =
      let here = at unfit.reached.front unfit.reached.rest unfit.line unfit.reached.split in
      absurd (unfit.unfit (subst (λ s. LineFits s unfit.line) (sym unfit.reached.here_is) here.fits))
  ends_well (Some (Motion number v)) (inl bad) =
      let there : Finds (suc (length bad.reached.front)) (with_lines (without_lines m) bad.reached.front) bad.line v
      = subst (λ n. Finds n (with_lines (without_lines m) bad.reached.front) bad.line v) bad.reached.number_is
      (subst (λ s. Finds number s bad.line v) bad.reached.here_is bad.found) in
      absurd (bad.against (none_against bad.reached.front bad.reached.rest bad.line v bad.reached.split there))
  ends_well (Some (Motion number v)) (inr behind) = absurd (none_is (sym none_beyond ∙ behind.number_is))
    where
      none_is : {A : Type 0} {x : A} → None ≡ Some x → ⊥
      none_is e = absurd cc
  ends_well (Some (Input why)) h = absurd h
  ends_well (Some (Log fault)) h = absurd h
  ends_well (Some (Proof fault)) h = absurd h
