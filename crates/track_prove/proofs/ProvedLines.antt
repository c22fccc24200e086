-- The certificates so far, and how a log's lines are proved.
use Rattle.std.proofs.Common.{◌≡◌, ℕ, suc, ◌+◌, ◌<◌, ◌≤◌, List, [], ◌∷◌, ◌++◌, length, Option, Some, None, Result, Ok, Err, false, refl, ap, sym, ◌∙◌, subst, arith}
use Rattle.std.proofs.lemmas.List.{length-append}
use Rattle.mesh_base.specs.Mesh.{Mesh}
use Rattle.motion_proof.specs.declared.Verdict.{Verdict}
use Rattle.motion_proof.specs.declared.Verdict.TheVariants.{Accepted}
use Rattle.proof_text.specs.declared.ProofAt.{ProofAt}
use Rattle.proof_text.specs.Plain.{PlainProof}
use Rattle.proof_text.specs.Lines.{text_of}
use Rattle.proof_text.specs.Views.{proofs_view}
use Rattle.log_text.specs.declared.LogLine.{LogLine}
use Rattle.log_replay.specs.Replay.{Replay, after, at_mesh}
use Rattle.log_run.specs.Fits.{LineFits}
use Rattle.log_run.specs.Laws.{IsValidState}
use Rattle.log_run.specs.Motions.{MotionAt, moved_in, motions_from}
use Rattle.log_run.specs.States.{LogState, without_lines}
use Rattle.track_log.specs.declared.refusal.LogRefusal.{LogRefusal}
use Rattle.track_log.specs.declared.refusal.LogRefusal.TheVariants as log
use Rattle.track_log.specs.LogJob.{LogInput}
use Rattle.track_log.proofs.ToldTexts.{refused_some}
use Rattle.track_prove.specs.declared.taken_lines.LineOutcome.{LineOutcome}
use Rattle.track_prove.specs.declared.taken_lines.LineOutcome.TheVariants.{Fits, Unfit, Bad}
use Rattle.track_prove.specs.declared.report.Report.{Report}
use Rattle.track_prove.specs.declared.report.Report.TheVariants.{Refused, Text}
use Rattle.track_prove.specs.Judged.{EndsJudged}
use Rattle.track_prove.specs.Proving.{MakesVerdict, ProveFinds, AreProofsOf, ProveEnds}
use Rattle.track_prove.specs.Headline.{IsSafe}
use Rattle.track_prove.specs.Taking.{IsTaken, Goes, AddsProof}
use Rattle.track_prove.specs.Doing.{EndsWellWith, ProvesLines}
use Rattle.track_prove.proofs.Judging.{Judging, judging_none, unspent, few, there, one_more, unfit_here, bad_here, none_at_all, all_are, all_stand, all_keep}
use Rattle.track_prove.proofs.Motions.{motions_one_more, proofs_with}
use Rattle.track_prove.proofs.Lines.{taken_fits, taken_unfit, taken_bad}

-- the text of a proof is not empty
proof_some : (proofs : List PlainProof) → 0 < length (text_of proofs)
proof_some proofs = omega (arith, length-append {A = ℕ})

module _ (m : Mesh) (lines : List LogLine) where
  -- the lines so far stand, and there are these certificates of their motions
  pub record Proving (left : List LogLine) (run : LogState) (number : ℕ) (proofs : List ProofAt) : Type 0 where
    pub front : List LogLine
    pub judging : Judging ProveFinds m lines front left run number
    pub are : AreProofsOf (motions_from 1 (at_mesh m) front) proofs

  -- none yet
  pub proving_none : (run : LogState) (proofs : List ProofAt) → run ≡ without_lines m → IsValidState run → proofs ≡ [] → Proving lines run 0 proofs
  proving_none run proofs at valid none = record {
    front = [];
    judging = judging_none ProveFinds m lines run at valid;
    are = subst (AreProofsOf []) (sym none) tt;
  }

  pub proving_unspent : (left : List LogLine) (run : LogState) (number : ℕ) (proofs : List ProofAt) → Proving left run number proofs → run.is_spent ≡ false
  proving_unspent left run number proofs so_far = unspent ProveFinds m lines so_far.front left run number so_far.judging

  pub proving_few : (left : List LogLine) (run : LogState) (number : ℕ) (proofs : List ProofAt) → Proving left run number proofs → number ≤ length lines
  proving_few left run number proofs so_far = few ProveFinds m lines so_far.front left run number so_far.judging

  refused : (why : LogRefusal) → EndsJudged ProveFinds None m lines (Some why) → ProvesLines m lines (Refused why)
  refused why ends = record { ends = (ends, refl); some = refused_some why; safe = λ e. absurd cc }

  module _ (ahead : List LogLine) (line : LogLine) (others : List LogLine) (first : ahead ≡ line ∷ others) (run : LogState) (number : ℕ) (proofs : List ProofAt) (h : Proving ahead run number proofs) (x : LineOutcome) (told : IsTaken (MakesVerdict (moved_in run.replay line)) run line x) where
    here : Proving (line ∷ others) run number proofs
    here = subst (λ l. Proving l run number proofs) first h

    -- it does not fit
    pub proving_unfit : x ≡ Unfit → ProvesLines m lines (Refused (log.Replay (number + 1)))
    proving_unfit is = refused (log.Replay (number + 1)) (unfit_here ProveFinds m lines line here.front others run number here.judging None (taken_unfit (MakesVerdict (moved_in run.replay line)) run line x is told))

    -- something is against it
    pub proving_bad : (verdict : Verdict) → x ≡ Bad verdict → ProvesLines m lines (Refused (log.Motion (number + 1) verdict))
    proving_bad verdict is =
        let bad = taken_bad (MakesVerdict (moved_in run.replay line)) run line x verdict is told in
        refused (log.Motion (number + 1) verdict) (bad_here ProveFinds m lines line here.front others run number here.judging None verdict bad.0 bad.1.0 bad.1.1)

    -- one more
    pub proving_more : x ≡ Fits → (next : LogState) (new : List ProofAt) → Goes run line next → AddsProof (number + 1) (moved_in run.replay line) proofs new → Proving others next (number + 1) new
    proving_more is next new goes adds =
        let fits = taken_fits (MakesVerdict (moved_in run.replay line)) run line x is told in
        let there_is = there ProveFinds m lines line here.front others run number here.judging in
        let same : number + 1 ≡ 1 + length here.front = omega (arith, here.judging.number_is) in
        let adds_there = subst (λ r. AddsProof (1 + length here.front) (moved_in r line) proofs new) there_is (subst (λ n. AddsProof n (moved_in run.replay line) proofs new) same adds) in
        record {
          front = here.front ++ line ∷ [];
          judging = one_more ProveFinds m lines line here.front others run number here.judging next (record { fits = fits.0; found = fits.1 }) goes;
          are = subst (λ l. AreProofsOf l new) (sym (motions_one_more 1 (at_mesh m) here.front line))
              (proofs_with (motions_from 1 (at_mesh m) here.front) proofs new (1 + length here.front) (moved_in (after (at_mesh m) here.front) line) here.are adds_there);
        }

  module _ (ahead : List LogLine) (none : ahead ≡ []) (run : LogState) (number : ℕ) (proofs : List ProofAt) (h : Proving ahead run number proofs) where
    at_end : Proving [] run number proofs
    at_end = subst (λ l. Proving l run number proofs) none h

    -- there was no line
    pub proving_no_line : number ≡ 0 → ProvesLines m lines (Refused (log.Replay 1))
    proving_no_line zero_is = refused (log.Replay 1) (none_at_all ProveFinds m lines at_end.front run number at_end.judging None zero_is)

    -- each line stands
    pub proving_done : (number ≡ 0 → ⊥) → (found : Report) → EndsWellWith found (text_of (proofs_view proofs)) → ProvesLines m lines found
    proving_done some (Refused why) is = absurd is
    proving_done some (Text text) is = record {
      ends = (
        (all_stand ProveFinds m lines at_end.front run number at_end.judging some, refl),
        record {
          proofs = proofs;
          are = subst (λ l. AreProofsOf (motions_from 1 (at_mesh m) l) proofs) (all_are ProveFinds m lines at_end.front run number at_end.judging) at_end.are;
          text_is = is;
        },
      );
      some = omega (arith, proof_some (proofs_view proofs), ap length is);
      safe = λ e. all_keep ProveFinds m lines at_end.front run number at_end.judging;
    }
