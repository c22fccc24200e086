-- The whole of a command from its parts.
use Rattle.std.proofs.Common.{◌≡◌, ◌⊎◌, inl, inr, ℕ, List, Option, Some, None, Result, Ok, Err, IfOk, refl, ap, sym, ◌∙◌, subst}
use Rattle.mesh_journal.specs.Journal.{mesh_in}
use Rattle.log_text.specs.declared.LogLine.{LogLine}
use Rattle.proof_text.specs.Plain.{PlainProof}
use Rattle.outside_io.specs.declared.stop.Stop.{Stop}
use Rattle.outside_io.specs.Desk.{Files}
use Rattle.outside_io.specs.Outside.{Around, HasCauses, OnlyLooks, written_of}
use Rattle.outside_io.specs.Sink.{appended, AppendsPart}
use Rattle.outside_io.specs.World.{World, Contents}
use Rattle.outside_io.proofs.Outsides.{counts_then, counts_stopped}
use Rattle.track_input.specs.Words.{LogNames, ProofNames}
use Rattle.track_input.proofs.Sources.{some_source}
use Rattle.track_log.specs.declared.refusal.LogRefusal.{LogRefusal}
use Rattle.track_log.specs.declared.PreparedLog.{PreparedLog}
use Rattle.track_log.specs.declared.PreparedLog.TheVariants as prepared
use Rattle.track_log.specs.LogJob.{LogJob, IsLogJob, LogInput, input_of}
use Rattle.track_log.specs.Preparing.{PreparesLog}
use Rattle.track_log.specs.Preparing.{input_by as log_input_by}
use Rattle.track_log.specs.Refused.{refused_text}
use Rattle.track_log.specs.Telling.{Tells}
use Rattle.track_log.proofs.PrepareLemmas.{some_log_job}
use Rattle.track_log.proofs.ToldTexts.{refused_some}
use Rattle.track_prove.specs.declared.inputs.Inputs.{Inputs}
use Rattle.track_prove.specs.declared.inputs.Inputs.TheVariants as given
use Rattle.track_prove.specs.declared.report.Report.{Report}
use Rattle.track_prove.specs.declared.report.Report.TheVariants.{Refused}
use Rattle.track_prove.specs.Proving.{ProveEnds}
use Rattle.track_prove.specs.Verifying.{ProofJob, IsProofJob, ProofInput, proof_input_of, VerifyEnds}
use Rattle.track_prove.specs.Headline.{IsToldBy, IsStopped, IsTheOnly, IsSafeLog, IsSafeProof, Proves, Verifies}
use Rattle.track_prove.proofs.Endings.{one_proved, one_verified}
use Rattle.track_prove.specs.Doing.{ending_of, text_told, IsReport, ProvesLines, ProvesFiles, VerifiesLines, VerifiesFiles, PreparesProof, input_by}

-- ---- what is given is refused, or its lines are taken

pub files_refused : (files : Option Files) (names : LogNames) (x : PreparedLog) (why : LogRefusal) → PreparesLog files names x → x ≡ prepared.No why → ProvesFiles files names (Refused why)
files_refused files names x why prepares is =
    let P : Result LogInput LogRefusal → Type 0 = λ i. IsReport (ProveEnds i) (IsSafeLog i) (Refused why) in
    record {
      job = prepares.job;
      is_job = prepares.is_job;
      report = subst P (sym (prepares.input ∙ ap log_input_by is)) (record { ends = (refl, refl); some = refused_some why; safe = λ e. absurd cc });
    }

pub files_proved : (files : Option Files) (names : LogNames) (x : PreparedLog) (mesh : _) (lines : List LogLine) (found : Report) → PreparesLog files names x → x ≡ prepared.Yes mesh lines → ProvesLines (mesh_in mesh) lines found → ProvesFiles files names found
files_proved files names x mesh lines found prepares is done =
    let P : Result LogInput LogRefusal → Type 0 = λ i. IsReport (ProveEnds i) (IsSafeLog i) found in
    record {
      job = prepares.job;
      is_job = prepares.is_job;
      report = subst P (sym (prepares.input ∙ ap log_input_by is)) done;
    }

pub proof_refused : (files : Option Files) (names : ProofNames) (x : Inputs) (why : LogRefusal) → PreparesProof files names x → x ≡ given.No why → VerifiesFiles files names (Refused why)
proof_refused files names x why prepares is =
    let P : Result ProofInput LogRefusal → Type 0 = λ i. IsReport (VerifyEnds i) (IsSafeProof i) (Refused why) in
    record {
      job = prepares.job;
      is_job = prepares.is_job;
      report = subst P (sym (prepares.input ∙ ap input_by is)) (record { ends = (refl, refl); some = refused_some why; safe = λ e. absurd cc });
    }

pub proof_verified : (files : Option Files) (names : ProofNames) (x : Inputs) (mesh : _) (lines : List LogLine) (proofs : List PlainProof) (found : Report) → PreparesProof files names x → x ≡ given.Yes mesh lines proofs → VerifiesLines (mesh_in mesh) lines proofs found → VerifiesFiles files names found
proof_verified files names x mesh lines proofs found prepares is done =
    let P : Result ProofInput LogRefusal → Type 0 = λ i. IsReport (VerifyEnds i) (IsSafeProof i) found in
    record {
      job = prepares.job;
      is_job = prepares.is_job;
      report = subst P (sym (prepares.input ∙ ap input_by is)) done;
    }

-- ---- what is told

stop_is_no_end : (stop : Stop) → ◌≡◌ {A = Result (Option LogRefusal) Stop} (Err stop) (Ok None) → ⊥
stop_is_no_end stop e = absurd cc

end_is_none : (ending : Option LogRefusal) → ◌≡◌ {A = Result (Option LogRefusal) Stop} (Ok ending) (Ok None) → ending ≡ None
end_is_none ending e = cc

-- it is stopped before something is told
pub told_nothing : (Ends : Option LogRefusal → List ℕ → Type 0) (a b : Around) (stop : Stop) → OnlyLooks {T = Report} a b (Err stop) → IsToldBy Ends (written_of a) (written_of b) (Err stop)
told_nothing Ends a b stop looks = inl (ap (λ (w : Contents). w.written) looks.kept)

module _ (Ends : Option LogRefusal → List ℕ → Type 0) (Safe : Type 0) (found : Report) (done : IsReport Ends Safe found) where
  pub told_done : (a b c : Around) → written_of b ≡ written_of a → (r : Result (Option LogRefusal) Stop) → Tells (text_told found) b c r → IfOk r (λ e. e ≡ ending_of found) → IsToldBy Ends (written_of a) (written_of c) r
  told_done a b c same (Ok ending) tells is = record {
    text = text_told found;
    ends = subst (λ e. Ends e (text_told found)) (sym is) done.ends;
    whole = tells.whole ∙ ap (λ w. appended w (text_told found)) same;
  }
  told_done a b c same (Err stop) tells is = inr (record {
    ending = ending_of found;
    text = text_told found;
    ends = done.ends;
    part = (let P : Option (List ℕ) → Type 0 = λ w. AppendsPart w (written_of c) (text_told found) in subst P same tells.part);
  })

  pub safe_done : (r : Result (Option LogRefusal) Stop) → IfOk r (λ e. e ≡ ending_of found) → r ≡ Ok None → Safe
  safe_done (Ok ending) is e = done.safe (sym is ∙ end_is_none ending e)
  safe_done (Err stop) is e = absurd (stop_is_no_end stop e)

-- there is no other ending
only_one : (Ends : Option LogRefusal → List ℕ → Type 0) → ((a b : Option LogRefusal) (t u : List ℕ) → Ends a t → Ends b u → a ≡ b) → (old new : Option (List ℕ)) (r : Result (Option LogRefusal) Stop) → IsToldBy Ends old new r → IsTheOnly Ends r
only_one Ends one old new (Ok e) told ending text h = inl (ap Ok (one e ending told.text text told.ends h))
only_one Ends one old new (Err stop) told ending text h = inr tt

-- ---- the two commands

module _ (names : LogNames) (a b : Around) where
  pub proves_stopped : (stop : Stop) → OnlyLooks {T = Report} a b (Err stop) → Proves names (Err stop) a.world b.world
  proves_stopped stop looks =
      let some = some_log_job a.world.holds.files names in
      record {
        job = some.0;
        is_job = some.1;
        told = told_nothing (ProveEnds (input_of some.0)) a b stop looks;
        only = λ ending text h. inr tt;
        safe = λ e. absurd (stop_is_no_end stop e);
        files = ap (λ (w : Contents). w.files) looks.kept;
        faults = (counts_stopped a b stop looks.counts).causes;
      }

  pub proves_told : (c : Around) (p : Result Report Stop) (found : Report) → OnlyLooks a b p → ProvesFiles a.world.holds.files names found → (r : Result (Option LogRefusal) Stop) → Tells (text_told found) b c r → IfOk r (λ e. e ≡ ending_of found) → Proves names r a.world c.world
  proves_told c p found looks proves r tells is =
      let told = told_done (ProveEnds (input_of proves.job)) (IsSafeLog (input_of proves.job)) found proves.report a b c (ap (λ (w : Contents). w.written) looks.kept) r tells is in
      record {
        job = proves.job;
        is_job = proves.is_job;
        told = told;
        only = only_one (ProveEnds (input_of proves.job)) (one_proved (input_of proves.job)) (written_of a) (written_of c) r told;
        safe = safe_done (ProveEnds (input_of proves.job)) (IsSafeLog (input_of proves.job)) found proves.report r is;
        files = tells.nothing_stored.files ∙ ap (λ (w : Contents). w.files) looks.kept;
        faults = (counts_then a b c p r looks.counts tells.nothing_stored.counts).causes;
      }

module _ (names : ProofNames) (a b : Around) where
  pub verifies_stopped : (stop : Stop) → OnlyLooks {T = Report} a b (Err stop) → Verifies names (Err stop) a.world b.world
  verifies_stopped stop looks =
      let some = some_log_job a.world.holds.files names.names in
      let source = some_source names.names.scale a.world.holds.files names.proof in
      let job : ProofJob = record { log = some.0; proof_file = source.0 } in
      record {
        job = job;
        is_job = record { log = some.1; proof = source.1 };
        told = told_nothing (VerifyEnds (proof_input_of job)) a b stop looks;
        only = λ ending text h. inr tt;
        safe = λ e. absurd (stop_is_no_end stop e);
        files = ap (λ (w : Contents). w.files) looks.kept;
        faults = (counts_stopped a b stop looks.counts).causes;
      }

  pub verifies_told : (c : Around) (p : Result Report Stop) (found : Report) → OnlyLooks a b p → VerifiesFiles a.world.holds.files names found → (r : Result (Option LogRefusal) Stop) → Tells (text_told found) b c r → IfOk r (λ e. e ≡ ending_of found) → Verifies names r a.world c.world
  verifies_told c p found looks verifies r tells is =
      let told = told_done (VerifyEnds (proof_input_of verifies.job)) (IsSafeProof (proof_input_of verifies.job)) found verifies.report a b c (ap (λ (w : Contents). w.written) looks.kept) r tells is in
      record {
        job = verifies.job;
        is_job = verifies.is_job;
        told = told;
        only = only_one (VerifyEnds (proof_input_of verifies.job)) (one_verified (proof_input_of verifies.job)) (written_of a) (written_of c) r told;
        safe = safe_done (VerifyEnds (proof_input_of verifies.job)) (IsSafeProof (proof_input_of verifies.job)) found verifies.report r is;
        files = tells.nothing_stored.files ∙ ap (λ (w : Contents). w.files) looks.kept;
        faults = (counts_then a b c p r looks.counts tells.nothing_stored.counts).causes;
      }
