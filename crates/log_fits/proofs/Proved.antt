-- The logs of runs are proved, and their proofs verified.
use Rattle.std.proofs.Common.{◌≡◌, ◌⊎◌, inl, inr, ℕ, suc, ◌≤◌, List, [], ◌∷◌, ◌++◌, length, Option, Some, None, Result, Ok, Err, refl, ap, sym, ◌∙◌, subst, arith}
use Rattle.std.specs.Prelude.{IfSome}
use Rattle.mesh_base.specs.Mesh.{Mesh, IsSound}
use Rattle.mesh_base.specs.Valid.{IsValidSurface}
use Rattle.mesh_base.proofs.MeshLaws.{small_texts_of}
use Rattle.edit_base.specs.Scaffold.{Scaffold, motion_of}
use Rattle.edit_scaffold.specs.Made.{claim_of}
use Rattle.motion_proof.specs.declared.Verdict.{Verdict}
use Rattle.motion_proof.specs.declared.Verdict.TheVariants.{Accepted, NoMotion, Stranger, Invalid, Missing}
use Rattle.motion_proof.specs.Verdicts.{IsVerdict}
use Rattle.motion_proof.proofs.MakeSteps.{by_rule_accepted}
use Rattle.obj_text.specs.Obj.{Lists}
use Rattle.step_text.specs.declared.Placed.{Placed}
use Rattle.proof_text.specs.declared.ProofAt.{ProofAt}
use Rattle.proof_text.specs.Plain.{PlainProof}
use Rattle.proof_text.specs.Lines.{text_of}
use Rattle.proof_text.specs.Order.{proofs_of}
use Rattle.proof_text.specs.Views.{entries_view, proofs_view}
use Rattle.proof_text.proofs.TextLaws.{proofs_are_their_texts_lem}
use Rattle.log_text.specs.declared.LogLine.{LogLine}
use Rattle.log_text.specs.declared.TheConstants.{COUNT_MAX}
use Rattle.log_text.specs.Lines.{text_of_lines}
use Rattle.log_read.specs.Reading.{log_of as lines_of_text}
use Rattle.log_replay.specs.Again.{LinesAreAgain}
use Rattle.log_run.specs.States.{without_lines}
use Rattle.log_run.specs.Laws.{IsValidState}
use Rattle.log_run.specs.Motions.{moved_in, motions_of}
use Rattle.log_run.proofs.StepMoves.{none_moves}
use Rattle.log_run.proofs.MotionLaws.{fitting_passes}
use Rattle.outside_io.specs.declared.stop.Stop.{Stop}
use Rattle.outside_io.specs.declared.stop.Stop.TheVariants as stop
use Rattle.outside_io.specs.Desk.{Files}
use Rattle.track_input.specs.Source.{Bytes, IsSource}
use Rattle.track_input.specs.Words.{LogNames}
use Rattle.track_input.specs.Job.{Job, mesh_of_lists, mesh_of_job}
use Rattle.track_log.specs.declared.LogRefusal.{LogRefusal}
use Rattle.track_log.specs.LogJob.{LogJob, IsLogJob, input_of, fetched_of, read_of_lists, read_of_shape, read_of_log, input_of_test}
use Rattle.track_log.specs.Taking.{with_lines}
use Rattle.track_log.proofs.PrepareLemmas.{few_lines}
use Rattle.track_engine.specs.Answers.{Answers}
use Rattle.track_engine.specs.Answered.{Known}
use Rattle.track_engine.specs.Kept.{LogIsSafe}
use Rattle.track_prove.specs.Judged.{EndsJudged}
use Rattle.track_prove.specs.Proving.{IsProofOf, AreProofsOf, ProveEnds, ProveFinds}
use Rattle.track_prove.specs.Verifying.{FoundOf, IsVerdictOn, proof_at, beyond, ProofJob, fetched_with_proof, read_with_proof, read_of_bytes, with_proofs, proof_input_of_read, proof_input_of, VerifyFinds, VerifyEnds}
use Rattle.track_prove.specs.Headline.{IsToldBy}
use Rattle.track_prove.proofs.Alike.{one_verdict}
use Rattle.track_run.specs.declared.outcome.Outcome.{Outcome}
use Rattle.track_run.specs.declared.outcome.Outcome.TheVariants as outcome
use Rattle.track_run.specs.Causes.{HasClear}
use Rattle.track_run.specs.Job.{log_of, replay_of}
use Rattle.track_run.specs.Outcomes.{outcome_by_log}
use Rattle.log_fits.specs.Fitting.{LinesFit}
use Rattle.log_fits.specs.Measured.{IsWithLogOf}
use Rattle.log_fits.specs.Proved.{LogsOfRunsAreProved, ProofsOfRunsAreVerified}
use Rattle.log_fits.proofs.Certified.{nothing_against, ends_well}
use Rattle.log_fits.proofs.Jobs.{job_logs_fit}
use Rattle.track_log.proofs.ValidInputs.{valid_mesh}
use Rattle.log_fits.proofs.Lookup.{IsThere, AreBetween, found_at, between, none_beyond}
use Rattle.log_fits.proofs.Measured.{given_is, mesh_is}
use Rattle.log_fits.proofs.Ranged.{moved_is_sound, are_in_range}
use Rattle.log_fits.proofs.Reached.{IsAtLine, reached, step_passes_again}

-- ---- the certificates of the rule are accepted, as a text tells of them

-- nothing is found against a motion whose certificate by the rule stands at its line
accepted_found : (number : ℕ) (o : Option Scaffold) (q : Option PlainProof) (v : Verdict) → IfSome o (λ motion. IsSound motion.mesh) → IsThere number o q → FoundOf o q v → v ≡ Accepted
accepted_found number None None v sound there found = found
accepted_found number None (Some q) v sound there found = absurd there
accepted_found number (Some motion) None v sound there found = absurd there
accepted_found number (Some motion) (Some q) v sound there found = by_verdict v found
  where
    is : IsProofOf (record { line = number; motion = motion }) there.0
    is = there.1

    claim_is : q.claim ≡ claim_of motion.touch
    claim_is = ap (λ (p : PlainProof). p.claim) there.2 ∙ is.claim

    told : entries_view there.0.proof.entries ≡ q.entries
    told = sym (ap (λ (p : PlainProof). p.entries) there.2)

    accepted : IsVerdict motion.mesh (motion_of motion) (claim_of motion.touch) there.0.proof.entries Accepted
    accepted = by_rule_accepted motion.mesh (motion_of motion) (claim_of motion.touch) sound there.0.proof.entries is.ruled

    verdict_is : (u : Verdict) → IsVerdictOn motion q.entries u → u ≡ Accepted
    verdict_is u on = sym (one_verdict motion.mesh (motion_of motion) (claim_of motion.touch) there.0.proof.entries on.entries Accepted u (told ∙ sym on.told_are) accepted on.verdict_is)

    by_verdict : (u : Verdict) → FoundOf (Some motion) (Some q) u → u ≡ Accepted
    by_verdict Accepted h = refl
    by_verdict NoMotion h = absurd (h claim_is)
    by_verdict (Stranger n) h = verdict_is (Stranger n) h.1
    by_verdict (Invalid n) h = verdict_is (Invalid n) h.1
    by_verdict (Missing n) h = verdict_is (Missing n) h.1

-- ---- a log of which each line fits, is safe and can be done again

module _ (m : Mesh) (lines : List LogLine) (good : IsValidSurface m) (some : lines ≡ [] → ⊥)
    (fit : LinesFit (without_lines m) lines) (safe : LogIsSafe (without_lines m).replay lines) (again : LinesAreAgain (without_lines m).replay lines) where
  valid : IsValidState (without_lines m)
  valid = record { now = good; groups = tt; moves = none_moves m; between = λ e. refl }

  at : (front rest : List LogLine) (l : LogLine) → lines ≡ front ++ l ∷ rest → IsAtLine (with_lines (without_lines m) front) l
  at front rest l split = reached (without_lines m) lines front rest l valid fit safe again split

  proved_at : (front rest : List LogLine) (l : LogLine) (v : Verdict) → lines ≡ front ++ l ∷ rest → ProveFinds (suc (length front)) (with_lines (without_lines m) front) l v → v ≡ Accepted
  proved_at front rest l v split found = let here = at front rest l split in nothing_against (moved_in (with_lines (without_lines m) front).replay l) v (fitting_passes (with_lines (without_lines m) front) l here.valid here.fits (step_passes_again (with_lines (without_lines m) front).replay l here.again)) found

  -- it is proved
  pub proved_well : (ending : Option LogRefusal) → EndsJudged ProveFinds None m lines ending → ending ≡ None
  proved_well = ends_well ProveFinds None m lines some at proved_at refl

  module _ (proofs : List ProofAt) (are : AreProofsOf (motions_of m lines) proofs) where
    verified_at : (front rest : List LogLine) (l : LogLine) (v : Verdict) → lines ≡ front ++ l ∷ rest → VerifyFinds (proofs_view proofs) (suc (length front)) (with_lines (without_lines m) front) l v → v ≡ Accepted
    verified_at front rest l v split found =
        let here = at front rest l split in
        let motion = moved_in (with_lines (without_lines m) front).replay l in
        let There : ℕ → Type 0 = λ n. IsThere n motion (proof_at (proofs_view proofs) n) in
        accepted_found (suc (length front)) motion (proof_at (proofs_view proofs) (suc (length front))) v (moved_is_sound (with_lines (without_lines m) front) l here.valid here.fits)
        (subst There (omega arith) (found_at 1 (without_lines m) lines front rest l proofs are split)) found

    -- and each proof by the rule is verified
    pub verified_well : (ending : Option LogRefusal) → EndsJudged (VerifyFinds (proofs_view proofs)) (beyond (length lines) (proofs_view proofs)) m lines ending → ending ≡ None
    verified_well = ends_well (VerifyFinds (proofs_view proofs)) (beyond (length lines) (proofs_view proofs)) m lines some at verified_at
        (none_beyond 1 (length lines) proofs (subst (λ n. AreBetween 1 n proofs) (omega arith) (between 1 (without_lines m).replay lines proofs are)))

    -- its text is read as it
    pub read_well : length lines ≤ COUNT_MAX → proofs_of (text_of (proofs_view proofs)) ≡ Ok (proofs_view proofs)
    read_well few = (proofs_are_their_texts_lem (text_of (proofs_view proofs)) (proofs_view proofs)).1 (are_in_range (without_lines m) lines proofs valid fit safe are few, refl)

-- ---- the log of a job

module _ (job : Job) (lists : Lists) (directives : List Placed) (clear : HasClear job lists directives) (answers : Answers) (back : lines_of_text job.scale (text_of_lines (log_of job answers).lines) ≡ Ok (log_of job answers).lines)
    (safe : LogIsSafe (replay_of job) (log_of job answers).lines) (again : LinesAreAgain (replay_of job) (log_of job answers).lines) where
  abbrev lines : List LogLine
  lines = (log_of job answers).lines

  abbrev m : Mesh
  m = mesh_of_lists job.scale lists

  same : mesh_of_job job ≡ m
  same = mesh_is job lists directives clear

  good : IsValidSurface m
  good = valid_mesh job.scale lists clear.steps_read.mesh_read.good clear.none_meets

  has_lines : lines ≡ [] → ⊥
  has_lines none = absurd cc

  fit : LinesFit (without_lines m) lines
  fit = subst (λ n. LinesFit (without_lines n) lines) same (job_logs_fit job answers)

  safe_here : LogIsSafe (without_lines m).replay lines
  safe_here = subst (λ n. LogIsSafe (without_lines n).replay lines) same safe

  again_here : LinesAreAgain (without_lines m).replay lines
  again_here = subst (λ n. LinesAreAgain (without_lines n).replay lines) same again

  pub job_proved : (read : LogJob) → IsWithLogOf job answers read → (ending : Option LogRefusal) (text : List ℕ) → ProveEnds (input_of read) ending text → ending ≡ None
  job_proved read is ending text ends =
      let there = subst (λ i. ProveEnds i ending text) (given_is job lists directives clear answers read is back) ends in
      proved_well m lines good has_lines fit safe_here again_here ending there.0

  module _ (read : ProofJob) (is : IsWithLogOf job answers read.log) (proofs : List ProofAt) (are : AreProofsOf (motions_of m lines) proofs) (file : read.proof_file ≡ Bytes (text_of (proofs_view proofs))) (few : length lines ≤ COUNT_MAX) where
    text : List ℕ
    text = text_of_lines lines

    proof : List ℕ
    proof = text_of (proofs_view proofs)

    given_with : proof_input_of read ≡ Ok (record { log = record { mesh = m; lines = lines }; proofs = proofs_view proofs })
    unfolding text proof
    given_with =
        let mesh_read = clear.steps_read.mesh_read in
        let files = mesh_read.lists_read in
        ap (λ s. proof_input_of_read s (read_of_bytes s read.log.decimals (fetched_with_proof (fetched_of read.log.mesh_file read.log.log_file) read.proof_file))) is.scale
        ∙ ap (proof_input_of_read job.scale) (
        ap (λ d. read_of_bytes job.scale d (fetched_with_proof (fetched_of read.log.mesh_file read.log.log_file) read.proof_file)) is.decimals
        ∙ ap (λ f. read_of_bytes job.scale job.decimals (fetched_with_proof (fetched_of f read.log.log_file) read.proof_file)) (is.mesh ∙ files.mesh_file)
        ∙ ap (λ f. read_of_bytes job.scale job.decimals (fetched_with_proof (fetched_of (Bytes files.mesh) f) read.proof_file)) is.log
        ∙ ap (λ f. read_of_bytes job.scale job.decimals (fetched_with_proof (fetched_of (Bytes files.mesh) (Bytes text)) f)) file
        ∙ ap (λ r. read_with_proof (read_of_lists job.scale r text) (proofs_of proof)) files.read
        ∙ ap (λ o. read_with_proof (read_of_shape job.scale lists o text) (proofs_of proof)) mesh_read.good
        ∙ ap (λ r. read_with_proof (read_of_log lists r) (proofs_of proof)) back
        ∙ ap (read_with_proof (Ok (record { lists = lists; lines = lines }))) (read_well m lines good has_lines fit safe_here again_here proofs are few)
        ) ∙ ap (λ o. with_proofs (input_of_test m o lines) (proofs_view proofs)) clear.clear

    pub job_verified : (ending : Option LogRefusal) (said : List ℕ) → VerifyEnds (proof_input_of read) ending said → ending ≡ None
    job_verified ending said ends =
        let there = subst (λ i. VerifyEnds i ending said) given_with ends in
        verified_well m lines good has_lines fit safe_here again_here proofs are ending there.0

-- a log that is no longer than a text may be has few lines
job_few : (job : Job) (answers : Answers) → lines_of_text job.scale (text_of_lines (log_of job answers).lines) ≡ Ok (log_of job answers).lines → (files : Option Files) (names : LogNames) (read : LogJob) → IsWithLogOf job answers read → IsLogJob files names read → length (log_of job answers).lines ≤ COUNT_MAX
job_few job answers back files names read is job_is =
    let there : IsSource names.scale files names.log (Bytes (text_of_lines (log_of job answers).lines)) = subst (IsSource names.scale files names.log) is.log job_is.log in
    omega (arith, few_lines job.scale (text_of_lines (log_of job answers).lines) (log_of job answers).lines back (omega (arith, there.0, small_texts_of names.scale)))

-- ---- how a command ends

module _ (Ends : Option LogRefusal → List ℕ → Type 0) (well : (ending : Option LogRefusal) (text : List ℕ) → Ends ending text → ending ≡ None) (was now : Option (List ℕ)) (result : Outcome) (desk sink : Type 0) (no_desk : desk → ⊥) (no_sink : sink → ⊥) where
  pub done_or_no_memory : (ended : Result (Option LogRefusal) Stop) → result ≡ outcome_by_log ended → IsToldBy Ends was now ended → (ended ≡ Err stop.DeskFault → desk) → (ended ≡ Err stop.SinkFault → sink) → (result ≡ outcome.Done) ⊎ (result ≡ outcome.NoMemory)
  done_or_no_memory (Ok ending) is told at_desk at_sink = inl (is ∙ ap (λ e. outcome_by_log (Ok e)) (well ending told.text told.ends))
  done_or_no_memory (Err stop.NoMemory) is told at_desk at_sink = inr is
  done_or_no_memory (Err stop.DeskFault) is told at_desk at_sink = absurd (no_desk (at_desk refl))
  done_or_no_memory (Err stop.SinkFault) is told at_desk at_sink = absurd (no_sink (at_sink refl))

pub runs_are_proved : (known : Known) → LogsOfRunsAreProved known
runs_are_proved known scale mesh_name step_name to tracked before after track lists directives clear names result old new run is none =
    let promises = track.tracks.promises in
    done_or_no_memory (ProveEnds (input_of run.proves.job)) (job_proved track.job lists directives clear track.tracks.answers track.read_back promises.safe promises.again run.proves.job is)
    old.holds.written new.holds.written result _ _ none.desk none.sink run.ended run.outcome_is run.proves.told run.proves.faults.desk_fault run.proves.faults.sink_fault

pub proofs_are_verified : (known : Known) → ProofsOfRunsAreVerified known
proofs_are_verified known scale mesh_name step_name to tracked before after track lists directives clear text proof names result old new run is file none =
    let promises = track.tracks.promises in
    done_or_no_memory (VerifyEnds (proof_input_of run.verifies.job))
    (job_verified track.job lists directives clear track.tracks.answers track.read_back promises.safe promises.again run.verifies.job is proof.proofs proof.are (file ∙ ap Bytes proof.text_is) (job_few track.job track.tracks.answers track.read_back old.holds.files names.names run.verifies.job.log is run.verifies.is_job.log))
    old.holds.written new.holds.written result _ _ none.desk none.sink run.ended run.outcome_is run.verifies.told run.verifies.faults.desk_fault run.verifies.faults.sink_fault
