-- Each mesh that a replay stores is sound, closed and clear.
use Rattle.std.proofs.Common.{◌≡◌, inl, inr, ℕ, ◌-◌, Bool, true, false, List, [], ◌∷◌, ◌++◌, length, take, zero, suc, Option, Some, None, Result, Ok, Err, refl, ap, sym, ◌∙◌, subst, arith}
use Rattle.std.specs.Prelude.{if◌then◌else◌}
use Rattle.std.specs.List.{AllByRecursion}
use Rattle.mesh_base.specs.Valid.{IsValidSurface}
use Rattle.log_text.specs.declared.LogLine.{LogLine}
use Rattle.log_text.specs.declared.LogLine.TheVariants.{Mesh as MeshLine}
use Rattle.log_replay.specs.Replay.{at_mesh}
use Rattle.log_run.specs.Laws.{IsValidState}
use Rattle.log_run.specs.States.{LogState, with_line, without_lines}
use Rattle.track_log.specs.declared.refusal.LogRefusal.{LogRefusal}
use Rattle.track_log.specs.declared.refusal.LogRefusal.TheVariants as log
use Rattle.track_log.specs.LogJob.{LogJob, LogInput, input_of}
use Rattle.track_log.specs.Taking.{FitsTested, EachFits}
use Rattle.track_log.specs.Ending.{EndsBy}
use Rattle.track_log.proofs.ValidInputs.{valid_input, valid_start, valid_next}
use Rattle.track_engine.specs.Saved.{Target}
use Rattle.track_replay.specs.Wanted.{NamedTexts, is_wanted, wanted_at, wanted_of}
use Rattle.track_replay.specs.Headline.{texts_stored}
use Rattle.track_replay.specs.Laws.{IsOfValidMesh}
use Rattle.track_replay.proofs.SoFar.{take_lines}

take_none : (k : ℕ) → ◌≡◌ {A = List LogLine} (take k []) []
take_none zero = refl
take_none (suc k) = refl

module _ (only : Option ℕ) (to : Target) where
  abbrev AllValid : NamedTexts → Type 0
  AllValid files = AllByRecursion (IsOfValidMesh to.decimals) files

  all_append : (xs ys : NamedTexts) → AllValid xs → AllValid ys → AllValid (xs ++ ys)
  all_append [] ys p q = q
  all_append (x ∷ xs) ys p q = (p.0, all_append xs ys p.1 q)

  one_or_none : (b : Bool) (file : List ℕ × List ℕ) → IsOfValidMesh to.decimals file → AllValid (if b then file ∷ [] else [])
  one_or_none true file valid = (valid, tt)
  one_or_none false file valid = tt

  -- the file of a line
  of_line : (s : LogState) (line : LogLine) → IsValidState s → AllValid (wanted_at only to s.replay line)
  of_line s (MeshLine k vertices faces) valid = one_or_none (is_wanted only k) _ (record { mesh = s.replay.mesh; valid = valid.now; text = refl })
  of_line s _ valid = tt

  -- the files of lines that fit
  of_lines : (s : LogState) (lines : List LogLine) → IsValidState s → EachFits FitsTested s lines → AllValid (wanted_of only to s.replay lines)
  of_lines s [] valid fits = tt
  of_lines s (line ∷ lines) valid fits =
      all_append (wanted_at only to s.replay line) (wanted_of only to (with_line s line).replay lines) (of_line s line valid) (of_lines (with_line s line) lines (valid_next s line valid fits.0) fits.1)

  -- the files of what was given
  module _ (input : LogInput) (valid : IsValidSurface input.mesh) where
    of_first : (n : ℕ) (front : List LogLine) → take (n - 1) input.lines ≡ front → EachFits FitsTested (without_lines input.mesh) front → AllValid (texts_stored only to (Ok input) (Some (log.Replay n)))
    of_first n front is fits =
        subst (λ (l : List LogLine). AllValid (wanted_of only to (at_mesh input.mesh) l)) (sym is) (of_lines (without_lines input.mesh) front (valid_start input.mesh valid) fits)

    of_ending : (ending : Option LogRefusal) → EndsBy FitsTested (Ok input) ending → AllValid (texts_stored only to (Ok input) ending)
    of_ending None h = of_lines (without_lines input.mesh) input.lines (valid_start input.mesh valid) h.each
    of_ending (Some (log.Replay n)) (inl h) = of_first n [] (ap (take (n - 1)) h.none ∙ take_none (n - 1)) tt
    of_ending (Some (log.Replay n)) (inr h) =
        let number : n - 1 ≡ length h.front = omega (arith, h.number_is) in
        of_first n h.front (ap (λ k. take k input.lines) number ∙ ap (take (length h.front)) h.split ∙ take_lines h.front (h.line ∷ h.rest)) h.fit
    of_ending (Some (log.Input why)) h = absurd h
    of_ending (Some (log.Log fault)) h = absurd h
    of_ending (Some (log.Proof fault)) h = absurd h
    of_ending (Some (log.Motion n verdict)) h = absurd h

  of_refused : (why : LogRefusal) (ending : Option LogRefusal) → AllValid (texts_stored only to (Err why) ending)
  of_refused why None = tt
  of_refused why (Some _) = tt

  of_given : (given : Result LogInput LogRefusal) → ((input : LogInput) → given ≡ Ok input → IsValidSurface input.mesh) → (ending : Option LogRefusal) → EndsBy FitsTested given ending → AllValid (texts_stored only to given ending)
  of_given (Err why) valid ending h = of_refused why ending
  of_given (Ok input) valid ending h = of_ending input (valid input refl) ending h

pub all_valid : (only : Option ℕ) (to : Target) (job : LogJob) (ending : Option LogRefusal) → EndsBy FitsTested (input_of job) ending → AllByRecursion (IsOfValidMesh to.decimals) (texts_stored only to (input_of job) ending)
all_valid only to job ending h = of_given only to (input_of job) (valid_input job) ending h
