-- The lines of a log that are judged so far, and how it ends behind them.
use Rattle.std.proofs.Common.{◌≡◌, ◌⊎◌, inl, inr, ℕ, suc, ◌+◌, ◌<◌, ◌≤◌, List, [], ◌∷◌, ◌++◌, append_assoc, append-nil, length, Option, Some, None, false, refl, ap, sym, ◌∙◌, subst, arith}
use Rattle.std.proofs.lemmas.List.{length-append}
use Rattle.mesh_base.specs.Mesh.{Mesh}
use Rattle.motion_proof.specs.declared.Verdict.{Verdict}
use Rattle.motion_proof.specs.declared.Verdict.TheVariants.{Accepted}
use Rattle.log_text.specs.declared.LogLine.{LogLine}
use Rattle.log_replay.specs.Replay.{Replay, replayed, after, at_mesh}
use Rattle.log_replay.specs.Safe.{LineKeepsTheMesh, LinesKeepTheMesh}
use Rattle.log_run.specs.Fits.{LineFits}
use Rattle.log_run.specs.Laws.{IsValidState}
use Rattle.log_run.specs.States.{LogState, with_line, without_lines}
use Rattle.track_log.specs.declared.refusal.LogRefusal.{LogRefusal}
use Rattle.track_log.specs.declared.refusal.LogRefusal.TheVariants.{Replay as AtReplay, Motion}
use Rattle.track_log.specs.Taking.{with_lines}
use Rattle.track_prove.specs.Judged.{Stands, EachStands, AllStand, IsReached, EndsJudged}
use Rattle.track_prove.specs.Taking.{Goes}

-- ---- one line more

pub replay_with : (s : LogState) (lines : List LogLine) → (with_lines s lines).replay ≡ after s.replay lines
replay_with s [] = refl
replay_with s (x ∷ lines) = replay_with (with_line s x) lines

spent_with : (s : LogState) (lines : List LogLine) → (with_lines s lines).is_spent ≡ s.is_spent
spent_with s [] = refl
spent_with s (x ∷ lines) = spent_with (with_line s x) lines

with_one_more : (s : LogState) (lines : List LogLine) (line : LogLine) → with_lines s (lines ++ line ∷ []) ≡ with_line (with_lines s lines) line
with_one_more s [] line = refl
with_one_more s (x ∷ lines) line = with_one_more (with_line s x) lines line

keeps_one_more : (r : Replay) (front : List LogLine) (line : LogLine) → LinesKeepTheMesh r front → LineKeepsTheMesh (after r front) line → LinesKeepTheMesh r (front ++ line ∷ [])
keeps_one_more r [] line each here = (here, tt)
keeps_one_more r (x ∷ front) line each here = (each.0, keeps_one_more (replayed r x) front line each.1 here)

module _ (Finds : ℕ → LogState → LogLine → Verdict → Type 0) where
  stands_one_more : (number : ℕ) (s : LogState) (front : List LogLine) (line : LogLine) → EachStands Finds number s front → Stands Finds (number + length front) (with_lines s front) line → EachStands Finds number s (front ++ line ∷ [])
  stands_one_more number s [] line each here =
      let same : number + 0 ≡ number = omega arith in
      (subst (λ n. Stands Finds n s line) same here, tt)
  stands_one_more number s (x ∷ front) line each here =
      let same : number + suc (length front) ≡ suc number + length front = omega arith in
      (each.0, stands_one_more (suc number) (with_line s x) front line each.1 (subst (λ n. Stands Finds n (with_lines (with_line s x) front) line) same here))

  module _ (m : Mesh) (lines : List LogLine) where
    -- ---- the lines so far stand, and these are left
    pub record Judging (front left : List LogLine) (run : LogState) (number : ℕ) : Type 0 where
      pub split : front ++ left ≡ lines
      pub stand : EachStands Finds 1 (without_lines m) front
      pub keep : LinesKeepTheMesh (at_mesh m) front
      pub at : run ≡ with_lines (without_lines m) front
      pub valid : IsValidState run
      pub number_is : number ≡ length front

    -- none yet
    pub judging_none : (run : LogState) → run ≡ without_lines m → IsValidState run → Judging [] lines run 0
    judging_none run at valid = record { split = refl; stand = tt; keep = tt; at = at; valid = valid; number_is = refl }

    -- nothing more can be taken of a replay only where a line did not fit
    pub unspent : (front left : List LogLine) (run : LogState) (number : ℕ) → Judging front left run number → run.is_spent ≡ false
    unspent front left run number so_far = ap (λ (s : LogState). s.is_spent) so_far.at ∙ spent_with (without_lines m) front

    pub few : (front left : List LogLine) (run : LogState) (number : ℕ) → Judging front left run number → number ≤ length lines
    few front left run number so_far = omega (arith, so_far.number_is, ap length so_far.split, length-append front left)

    module _ (line : LogLine) (front left : List LogLine) (run : LogState) (number : ℕ) (so_far : Judging front (line ∷ left) run number) where
      pub there : run.replay ≡ after (at_mesh m) front
      there = ap (λ (s : LogState). s.replay) so_far.at ∙ replay_with (without_lines m) front

      reached : IsReached Finds (without_lines m) lines (number + 1) run line
      reached = record {
        front = front;
        rest = left;
        split = sym so_far.split;
        stand = so_far.stand;
        here_is = so_far.at;
        number_is = omega (arith, so_far.number_is);
      }

      -- one more
      pub one_more : (next : LogState) → Stands Finds (number + 1) run line → Goes run line next → Judging (front ++ line ∷ []) left next (number + 1)
      one_more next stands goes =
          let same : number + 1 ≡ 1 + length front = omega (arith, so_far.number_is) in
          record {
            split = append_assoc front (line ∷ []) left ∙ so_far.split;
            stand = stands_one_more 1 (without_lines m) front line so_far.stand (subst (λ n. Stands Finds n (with_lines (without_lines m) front) line) same (subst (λ s. Stands Finds (number + 1) s line) so_far.at stands));
            keep = keeps_one_more (at_mesh m) front line so_far.keep (subst (λ r. LineKeepsTheMesh r line) there goes.keeps);
            at = goes.taken ∙ ap (λ s. with_line s line) so_far.at ∙ sym (with_one_more (without_lines m) front line);
            valid = goes.valid;
            number_is = omega (arith, so_far.number_is, length-append front (line ∷ []));
          }

      -- it does not fit
      pub unfit_here : (beyond : Option ℕ) → (LineFits run line → ⊥) → EndsJudged Finds beyond m lines (Some (AtReplay (number + 1)))
      unfit_here beyond unfit = inr (record { here = run; line = line; reached = reached; unfit = unfit })

      -- something is against it
      pub bad_here : (beyond : Option ℕ) (verdict : Verdict) → LineFits run line → Finds (number + 1) run line verdict → (verdict ≡ Accepted → ⊥) → EndsJudged Finds beyond m lines (Some (Motion (number + 1) verdict))
      bad_here beyond verdict fits found against = inl (record { here = run; line = line; reached = reached; fits = fits; found = found; against = against })

    -- ---- no line is left

    module _ (front : List LogLine) (run : LogState) (number : ℕ) (so_far : Judging front [] run number) where
      pub all_are : front ≡ lines
      all_are = sym (append-nil front) ∙ so_far.split

      empty : (xs : List LogLine) → length xs ≡ 0 → xs ≡ []
      empty [] e = refl
      empty (x ∷ xs) e = absurd (omega (arith, e))

      -- and there was none
      pub none_at_all : (beyond : Option ℕ) → number ≡ 0 → EndsJudged Finds beyond m lines (Some (AtReplay 1))
      none_at_all beyond zero_is = inl (record { none = sym all_are ∙ empty front (omega (arith, zero_is, so_far.number_is)); number_is = refl })

      -- and there were some
      pub all_stand : (number ≡ 0 → ⊥) → AllStand Finds (without_lines m) lines
      all_stand some = record {
        some = λ none. some (so_far.number_is ∙ ap length all_are ∙ ap length none);
        each = subst (EachStands Finds 1 (without_lines m)) all_are so_far.stand;
      }

      pub all_keep : LinesKeepTheMesh (at_mesh m) lines
      all_keep = subst (LinesKeepTheMesh (at_mesh m)) all_are so_far.keep
