-- The certificates that are used so far, and how a proof of a log's lines is tested.
use Rattle.std.proofs.Common.{◌≡◌, inr, ℕ, suc, ◌+◌, ◌<◌, ◌≤◌, List, [], ◌∷◌, ◌++◌, append_assoc, append-nil, length, Option, Some, None, Result, Ok, Err, IfOk, false, refl, ap, sym, ◌∙◌, subst, arith, codes, decimal}
use Rattle.std.specs.Prelude.{option_to_list}
use Rattle.std.proofs.lemmas.List.{length-append}
use Rattle.std.proofs.lemmas.Option.{none-some}
use Rattle.grid_base.specs.declared.NoMemory.{NoMemory}
use Rattle.mesh_base.specs.Mesh.{Mesh}
use Rattle.motion_proof.specs.declared.Verdict.{Verdict}
use Rattle.motion_proof.specs.declared.Verdict.TheVariants.{Accepted, NoMotion}
use Rattle.proof_text.specs.Laws.{AreProofs}
use Rattle.proof_text.specs.Plain.{PlainProof}
use Rattle.log_text.specs.declared.LogLine.{LogLine}
use Rattle.log_replay.specs.Replay.{Replay, after, at_mesh}
use Rattle.log_run.specs.Laws.{IsValidState}
use Rattle.log_run.specs.Motions.{MotionAt, moved_in, one_motion, motions_from, motions_of}
use Rattle.log_run.specs.States.{LogState, without_lines}
use Rattle.track_log.specs.declared.refusal.LogRefusal.{LogRefusal}
use Rattle.track_log.specs.declared.refusal.LogRefusal.TheVariants as log
use Rattle.track_log.proofs.ToldTexts.{line_some, refused_some}
use Rattle.track_prove.specs.declared.taken_lines.LineOutcome.{LineOutcome}
use Rattle.track_prove.specs.declared.taken_lines.LineOutcome.TheVariants.{Fits, Unfit, Bad}
use Rattle.track_prove.specs.declared.report.Report.{Report}
use Rattle.track_prove.specs.declared.report.Report.TheVariants.{Refused, Text}
use Rattle.track_prove.specs.Judged.{EndsJudged}
use Rattle.track_prove.specs.Verifying.{proof_at, beyond, FoundOf, VerifyFinds, verified_text, VerifyEnds}
use Rattle.track_prove.specs.Taking.{IsTaken, Goes, Passes, front_at, behind, first_line}
use Rattle.track_prove.specs.Doing.{EndsWellWith, VerifiesLines}
use Rattle.track_prove.proofs.Judging.{Judging, judging_none, unspent, few, there, one_more, unfit_here, bad_here, none_at_all, all_are, all_stand, all_keep}
use Rattle.track_prove.proofs.Motions.{motions_one_more}
use Rattle.track_prove.proofs.Lines.{taken_fits, taken_unfit, taken_bad}
use Rattle.track_prove.proofs.Certificates.{AreUpTo, RiseFrom, proofs_rise, proof_in_front, one_proof, front_split, used_up, rise_behind, as_many, none_beyond, first_beyond}

at_most_one : (p : Option PlainProof) → length (option_to_list p) ≤ 1
at_most_one None = omega arith
at_most_one (Some p) = omega arith

same_one : (p : Option PlainProof) → length (option_to_list p) ≡ length (one_proof p)
same_one None = refl
same_one (Some p) = refl

module _ (m : Mesh) (lines : List LogLine) (all : List PlainProof) where
  -- the lines so far stand, each by its certificate; so many were used, and these are left
  pub record Verifying (left : List LogLine) (run : LogState) (number count : ℕ) (rest : List PlainProof) : Type 0 where
    pub front : List LogLine
    pub used : List PlainProof
    pub judging : Judging (VerifyFinds all) m lines front left run number
    pub split : used ++ rest ≡ all
    pub before : AreUpTo number used
    pub rise : RiseFrom number rest
    pub many : length (motions_from 1 (at_mesh m) front) ≡ length used
    pub count_is : count ≡ length used
    pub count_few : count ≤ number

  -- none yet
  pub verifying_none : (run : LogState) → run ≡ without_lines m → IsValidState run → AreProofs all → Verifying lines run 0 0 all
  verifying_none run at valid order = record {
    front = [];
    used = [];
    judging = judging_none (VerifyFinds all) m lines run at valid;
    split = refl;
    before = tt;
    rise = proofs_rise all order;
    many = refl;
    count_is = refl;
    count_few = omega arith;
  }

  pub verifying_unspent : (left : List LogLine) (run : LogState) (number count : ℕ) (rest : List PlainProof) → Verifying left run number count rest → run.is_spent ≡ false
  verifying_unspent left run number count rest so_far = unspent (VerifyFinds all) m lines so_far.front left run number so_far.judging

  pub verifying_few : (left : List LogLine) (run : LogState) (number count : ℕ) (rest : List PlainProof) → Verifying left run number count rest → number ≤ length lines
  verifying_few left run number count rest so_far = few (VerifyFinds all) m lines so_far.front left run number so_far.judging

  refused : (why : LogRefusal) → EndsJudged (VerifyFinds all) (beyond (length lines) all) m lines (Some why) → VerifiesLines m lines all (Refused why)
  refused why ends = record { ends = (ends, refl); some = refused_some why; safe = λ e. absurd cc }

  module _ (ahead : List LogLine) (line : LogLine) (others : List LogLine) (first : ahead ≡ line ∷ others) (run : LogState) (number count : ℕ) (rest : List PlainProof) (h : Verifying ahead run number count rest) (x : LineOutcome) (told : IsTaken (FoundOf (moved_in run.replay line) (front_at rest (number + 1))) run line x) where
    here : Verifying (line ∷ others) run number count rest
    here = subst (λ l. Verifying l run number count rest) first h

    in_front : proof_at all (number + 1) ≡ front_at rest (number + 1)
    in_front = proof_in_front all here.used rest number here.split here.before here.rise

    found_there : (v : Verdict) → FoundOf (moved_in run.replay line) (front_at rest (number + 1)) v → VerifyFinds all (number + 1) run line v
    found_there v found = subst (λ p. FoundOf (moved_in run.replay line) p v) (sym in_front) found

    -- it does not fit
    pub verifying_unfit : x ≡ Unfit → VerifiesLines m lines all (Refused (log.Replay (number + 1)))
    verifying_unfit is =
        refused (log.Replay (number + 1)) (unfit_here (VerifyFinds all) m lines line here.front others run number here.judging (beyond (length lines) all)
        (taken_unfit (FoundOf (moved_in run.replay line) (front_at rest (number + 1))) run line x is told))

    -- something is against it
    pub verifying_bad : (verdict : Verdict) → x ≡ Bad verdict → VerifiesLines m lines all (Refused (log.Motion (number + 1) verdict))
    verifying_bad verdict is =
        let bad = taken_bad (FoundOf (moved_in run.replay line) (front_at rest (number + 1))) run line x verdict is told in
        refused (log.Motion (number + 1) verdict) (bad_here (VerifyFinds all) m lines line here.front others run number here.judging (beyond (length lines) all) verdict bad.0 (found_there verdict bad.1.0) bad.1.1)

    -- so many certificates stay few
    pub verifying_count : (left : List PlainProof) (more : ℕ) → Passes (number + 1) rest left more → count + more ≤ number + 1
    verifying_count left more passes = omega (arith, passes.count_is, at_most_one (front_at rest (number + 1)), here.count_few)

    -- one more
    pub verifying_more : x ≡ Fits → (next : LogState) (left : List PlainProof) (more : ℕ) → Goes run line next → Passes (number + 1) rest left more → Verifying others next (number + 1) (count + more) left
    verifying_more is next left more goes passes =
        let behind_is = passes.left in
        let fits = taken_fits (FoundOf (moved_in run.replay line) (front_at rest (number + 1))) run line x is told in
        let there_is = there (VerifyFinds all) m lines line here.front others run number here.judging in
        let one = one_proof (front_at rest (number + 1)) in
        let motion = moved_in (after (at_mesh m) here.front) line in
        let found_is = subst (λ r. FoundOf (moved_in r line) (front_at rest (number + 1)) Accepted) there_is fits.1 in
        record {
          front = here.front ++ line ∷ [];
          used = here.used ++ one;
          judging = one_more (VerifyFinds all) m lines line here.front others run number here.judging next (record { fits = fits.0; found = found_there Accepted fits.1 }) goes;
          split = append_assoc here.used one left ∙ ap (λ l. here.used ++ l) (ap (λ l. one ++ l) behind_is ∙ front_split rest (number + 1)) ∙ here.split;
          before = used_up here.used rest number here.before;
          rise = subst (RiseFrom (number + 1)) (sym behind_is) (rise_behind rest number here.rise);
          many =
              ap length (motions_one_more 1 (at_mesh m) here.front line)
              ∙ counted (motions_from 1 (at_mesh m) here.front) (one_motion (1 + length here.front) motion) here.used one here.many (as_many (1 + length here.front) motion (front_at rest (number + 1)) found_is);
          count_is = omega (arith, here.count_is, passes.count_is, same_one (front_at rest (number + 1)), length-append here.used one);
          count_few = verifying_count left more passes;
        }
      where
        counted : (xs ys : List MotionAt) (us vs : List PlainProof) → length xs ≡ length us → length ys ≡ length vs → length (xs ++ ys) ≡ length (us ++ vs)
        counted xs ys us vs e f = omega (arith, e, f, length-append xs ys, length-append us vs)

  module _ (ahead : List LogLine) (no_line : ahead ≡ []) (run : LogState) (number count : ℕ) (rest : List PlainProof) (h : Verifying ahead run number count rest) where
    at_end : Verifying [] run number count rest
    at_end = subst (λ l. Verifying l run number count rest) no_line h

    -- there was no line
    pub verifying_no_line : number ≡ 0 → VerifiesLines m lines all (Refused (log.Replay 1))
    verifying_no_line zero_is = refused (log.Replay 1) (none_at_all (VerifyFinds all) m lines at_end.front run number at_end.judging (beyond (length lines) all) zero_is)

    lines_are : at_end.front ≡ lines
    lines_are = all_are (VerifyFinds all) m lines at_end.front run number at_end.judging

    number_of_lines : number ≡ length lines
    number_of_lines = at_end.judging.number_is ∙ ap length lines_are

    used_before : AreUpTo (length lines) at_end.used
    used_before = subst (λ n. AreUpTo n at_end.used) number_of_lines at_end.before

    -- a motion of the proof is behind the log
    beyond_by : (number ≡ 0 → ⊥) → (ps : List PlainProof) (line : ℕ) → rest ≡ ps → Some line ≡ first_line ps → VerifiesLines m lines all (Refused (log.Motion line NoMotion))
    beyond_by some [] line is e = absurd (none-some line (sym e))
    beyond_by some (p ∷ others) line is e =
        let more : RiseFrom number (p ∷ others) = subst (RiseFrom number) is at_end.rise in
        let split : at_end.used ++ p ∷ others ≡ all = ap (λ l. at_end.used ++ l) (sym is) ∙ at_end.split in
        refused (log.Motion line NoMotion) (inr (record {
          all = all_stand (VerifyFinds all) m lines at_end.front run number at_end.judging some;
          number_is = first_beyond all at_end.used others p (length lines) split used_before (omega (arith, number_of_lines, more.0)) ∙ sym e;
          verdict_is = refl;
        }))

    pub verifying_beyond : (number ≡ 0 → ⊥) → (line : ℕ) → Some line ≡ first_line rest → VerifiesLines m lines all (Refused (log.Motion line NoMotion))
    verifying_beyond some line e = beyond_by some rest line refl e

    none_left : (ps : List PlainProof) → None ≡ first_line ps → ps ≡ []
    none_left [] e = refl
    none_left (p ∷ ps) e = absurd (none-some p.line e)

    -- each line stands, and each certificate is used
    verifying_done : (number ≡ 0 → ⊥) → rest ≡ [] → (found : Report) → EndsWellWith found (verified_text count) → VerifiesLines m lines all found
    verifying_done some none (Refused why) is = absurd is
    verifying_done some none (Text text) is =
        let split : at_end.used ++ [] ≡ all = ap (λ l. at_end.used ++ l) (sym none) ∙ at_end.split in
        let many : count ≡ length (motions_of m lines) = at_end.count_is ∙ sym at_end.many ∙ ap (λ l. length (motions_from 1 (at_mesh m) l)) lines_are in
        record {
          ends = ((all_stand (VerifyFinds all) m lines at_end.front run number at_end.judging some, none_beyond all at_end.used (length lines) split used_before), is ∙ ap verified_text many);
          some = omega (arith, line_some (codes "verified") (decimal count) [], ap length is);
          safe = λ e. all_keep (VerifyFinds all) m lines at_end.front run number at_end.judging;
        }

    pub verifying_end : (number ≡ 0 → ⊥) → None ≡ first_line rest → (r : Result Report NoMemory) → IfOk r (λ found. EndsWellWith found (verified_text count)) → IfOk r (VerifiesLines m lines all)
    verifying_end some none (Err fault) well = tt
    verifying_end some none (Ok found) well = verifying_done some (none_left rest none) found well
