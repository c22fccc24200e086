-- A replay has an ending.
use Rattle.std.proofs.Common.{◌≡◌, inl, inr, ℕ, suc, List, [], ◌∷◌, ◌++◌, length, Option, Some, None, Result, Ok, Err, refl, ap}
use Rattle.log_text.specs.declared.LogLine.{LogLine}
use Rattle.log_run.specs.States.{LogState, with_line, without_lines}
use Rattle.track_log.specs.declared.refusal.LogRefusal.{LogRefusal}
use Rattle.track_log.specs.declared.refusal.LogRefusal.TheVariants.{Replay}
use Rattle.track_log.specs.LogJob.{LogInput}
use Rattle.track_log.specs.Taking.{FitsTested, EachFits, IsFirstUnfit, AllFit}
use Rattle.track_log.specs.Ending.{EndsBy}

-- behind a line that fits, the first that does not is the first of all
further : (s : LogState) (line : LogLine) (lines : List LogLine) (n : ℕ) → FitsTested s line → IsFirstUnfit FitsTested (with_line s line) lines n → IsFirstUnfit FitsTested s (line ∷ lines) (suc n)
further s line lines n fits u = record {
  front = line ∷ u.front;
  line = u.line;
  rest = u.rest;
  split = ap (λ (l : List LogLine). line ∷ l) u.split;
  fit = (fits, u.fit);
  unfit = u.unfit;
  number_is = ap suc u.number_is;
}

-- all lines fit, or one is the first that does not
fit_or_unfit : (s : LogState) (lines : List LogLine) → ¬ EachFits FitsTested s lines → ((n : ℕ) → ¬ IsFirstUnfit FitsTested s lines n) → ⊥
fit_or_unfit s [] each unfit = each tt
fit_or_unfit s (line ∷ lines) each unfit =
    let does_not : ¬ FitsTested s line = λ fits. fit_or_unfit (with_line s line) lines (λ later. each (fits, later)) (λ n u. unfit (suc n) (further s line lines n fits u)) in
    unfit 1 (record { front = []; line = line; rest = lines; split = refl; fit = tt; unfit = does_not; number_is = refl })

of_lines : (input : LogInput) (lines : List LogLine) → input.lines ≡ lines → ((ending : Option LogRefusal) → ¬ EndsBy FitsTested (Ok input) ending) → ⊥
of_lines input [] is none = none (Some (Replay 1)) (inl (record { none = is; number_is = refl }))
of_lines input (line ∷ lines) is none =
    fit_or_unfit (without_lines input.mesh) input.lines
    (λ each. none None (record { some = λ empty. some empty; each = each }))
    (λ n u. none (Some (Replay n)) (inr u))
  where
    some : input.lines ≡ [] → ⊥
    some empty = cc

pub an_ending : (input : Result LogInput LogRefusal) → ((ending : Option LogRefusal) → ¬ EndsBy FitsTested input ending) → ⊥
an_ending (Err why) none = none (Some why) refl
an_ending (Ok input) none = of_lines input input.lines refl none
