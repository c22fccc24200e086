-- What is given to `verify`, by what was fetched and read.
use Rattle.std.proofs.Common.{◌≡◌, ℕ, ◌<◌, ◌≤◌, ◌^◌, List, length, Option, Some, None, Result, Ok, Err, refl, ap, sym, ◌∙◌, subst}
use Rattle.std.specs.Prelude.{IfOk}
use Rattle.grid_base.specs.declared.NoMemory.{NoMemory}
use Rattle.mesh_base.specs.declared.Scale.{Scale}
use Rattle.mesh_base.specs.declared.MeshLists.{MeshLists}
use Rattle.mesh_base.specs.declared.FileWord.TheVariants as file
use Rattle.mesh_journal.specs.Journal.{mesh_in}
use Rattle.line_text.specs.declared.TextFault.{TextFault}
use Rattle.obj_text.specs.Obj.{lists_of}
use Rattle.obj_text.specs.Views.{lists_view}
use Rattle.proof_text.specs.Laws.{AreProofs}
use Rattle.proof_text.specs.Order.{proofs_of}
use Rattle.proof_text.specs.Plain.{PlainProof}
use Rattle.log_text.specs.declared.LogLine.{LogLine}
use Rattle.log_text.specs.declared.Refusal.TheVariants as refusal
use Rattle.outside_io.specs.declared.outside.Fetched.{Fetched}
use Rattle.outside_io.specs.Desk.{Files}
use Rattle.track_input.specs.Fetched.{source_of}
use Rattle.track_input.specs.Source.{Source, Bytes, Absent, TooLong, IsSource}
use Rattle.track_input.specs.Words.{ProofNames}
use Rattle.track_input.specs.Job.{met_first}
use Rattle.track_input.proofs.Sources.{some_source}
use Rattle.track_input.proofs.ReadLemmas.{same_mesh}
use Rattle.track_log.specs.declared.FetchedLog.{FetchedLog}
use Rattle.track_log.specs.declared.FetchedLog.TheVariants as fetched
use Rattle.track_log.specs.declared.PreparedLog.{PreparedLog}
use Rattle.track_log.specs.declared.PreparedLog.TheVariants as prepared
use Rattle.track_log.specs.declared.Texts.{Texts}
use Rattle.track_log.specs.declared.Texts.TheVariants as texts
use Rattle.track_log.specs.declared.refusal.LogRefusal.{LogRefusal}
use Rattle.track_log.specs.declared.refusal.LogRefusal.TheVariants.{Input, Proof}
use Rattle.track_log.specs.Fetching.{FetchesLog, fetched_by}
use Rattle.track_log.specs.LogJob.{LogJob, BothTexts, TextsRead, LogInput, fetched_of, input_of_read, input_of_test, read_of_lists}
use Rattle.track_log.specs.Preparing.{ReadsTexts, Tests, IsPrepared, read_by}
use Rattle.track_log.specs.Preparing.{input_by as log_input_by}
use Rattle.track_prove.specs.declared.inputs.Inputs.{Inputs}
use Rattle.track_prove.specs.declared.inputs.Inputs.TheVariants as given
use Rattle.track_prove.specs.Verifying.{ProofJob, IsProofJob, ProofBytes, ProofTexts, ProofInput, fetched_with_proof, read_with_proof, read_of_bytes, with_proofs, proof_input_of_read, proof_input_of}
use Rattle.track_prove.specs.Doing.{texts_of, input_by, IsReady, GivesInput, PreparesProof}

-- ---- the mesh is tested

module _ (scale : Scale) (lists : MeshLists) (lines : List LogLine) (ps : List PlainProof) (x : PreparedLog) (tests : Tests scale lists lines x) where
  tested_input : proof_input_of_read scale (read_with_proof (Ok (texts_of lists lines)) (Ok ps)) ≡ with_proofs (log_input_by x) ps
  tested_input = ap (λ r. with_proofs r ps) (ap (λ m. input_of_test m (met_first m) lines) (same_mesh scale lists) ∙ tests.input)

  pub gives_meeting : (why : LogRefusal) → x ≡ prepared.No why → GivesInput scale (read_with_proof (Ok (texts_of lists lines)) (Ok ps)) (given.No why)
  gives_meeting why is = record { input = tested_input ∙ ap (λ p. with_proofs (log_input_by p) ps) is; ready = tt }

  pub gives_all : (mesh : _) (left : List LogLine) → x ≡ prepared.Yes mesh left → length lines < 2 ^ 31 → AreProofs ps → GivesInput scale (read_with_proof (Ok (texts_of lists lines)) (Ok ps)) (given.Yes mesh left ps)
  gives_all mesh left is few order =
      let both : IsPrepared (prepared.Yes mesh left) = subst IsPrepared is (tests.ready few) in
      record {
        input = tested_input ∙ ap (λ p. with_proofs (log_input_by p) ps) is;
        ready = (both.0, (both.1, order));
      }

-- ---- the text of the proof is read

pub gives_fault : (scale : Scale) (lists : MeshLists) (lines : List LogLine) (proof : List ℕ) (fault : TextFault) → proofs_of proof ≡ Err fault → GivesInput scale (read_with_proof (Ok (texts_of lists lines)) (proofs_of proof)) (given.No (Proof fault))
gives_fault scale lists lines proof fault e = record { input = ap (λ r. proof_input_of_read scale (read_with_proof (Ok (texts_of lists lines)) r)) e; ready = tt }

pub gives_read : (scale : Scale) (lists : MeshLists) (lines : List LogLine) (proof : List ℕ) (ps : List PlainProof) (r : Result Inputs NoMemory) → proofs_of proof ≡ Ok ps → IfOk r (GivesInput scale (read_with_proof (Ok (texts_of lists lines)) (Ok ps))) → IfOk r (GivesInput scale (read_with_proof (Ok (texts_of lists lines)) (proofs_of proof)))
gives_read scale lists lines proof ps r e h =
    let P : Result (List PlainProof) TextFault → Type 0 = λ x. IfOk r (GivesInput scale (read_with_proof (Ok (texts_of lists lines)) x)) in
    subst P (sym e) h

-- ---- the texts of the mesh and of the log are read

module _ (scale : Scale) (decimals : ℕ) (mesh log proof : List ℕ) (x : Texts) (reads : ReadsTexts scale decimals mesh log x) where
  pub gives_no_texts : (why : LogRefusal) → x ≡ texts.No why → GivesInput scale (read_with_proof (read_of_lists scale (lists_of decimals mesh) log) (proofs_of proof)) (given.No why)
  gives_no_texts why is = record {
    input = ap (λ r. proof_input_of_read scale (read_with_proof r (proofs_of proof))) (reads.texts ∙ ap read_by is);
    ready = tt;
  }

  pub gives_texts : (lists : MeshLists) (lines : List LogLine) → x ≡ texts.Yes lists lines → (r : Result Inputs NoMemory) → IfOk r (GivesInput scale (read_with_proof (Ok (texts_of lists lines)) (proofs_of proof))) → IfOk r (GivesInput scale (read_with_proof (read_of_lists scale (lists_of decimals mesh) log) (proofs_of proof)))
  gives_texts lists lines is r h =
      let P : Result TextsRead LogRefusal → Type 0 = λ t. IfOk r (GivesInput scale (read_with_proof t (proofs_of proof))) in
      subst P (sym (reads.texts ∙ ap read_by is)) h

-- ---- the files are fetched

source_at : (scale : Scale) (files : Option Files) (name : List ℕ) (f : Fetched) (s : Source) → source_of f ≡ s → IsSource scale files name (source_of f) → IsSource scale files name s
source_at scale files name f s e h = subst (IsSource scale files name) e h

module _ (files : Option Files) (names : ProofNames) (x : FetchedLog) (fetches : FetchesLog files names.names x) where
  -- a file is missing or too long
  pub prepares_no_log : (why : LogRefusal) → x ≡ fetched.No why → PreparesProof files names (given.No why)
  prepares_no_log why is =
      let source = some_source names.names.scale files names.proof in
      record {
        job = record { log = fetches.job; proof_file = source.0 };
        is_job = record { log = fetches.is_job; proof = source.1 };
        input = ap (λ b. proof_input_of_read fetches.job.scale (read_of_bytes fetches.job.scale fetches.job.decimals (fetched_with_proof b source.0))) (fetches.fetched ∙ ap fetched_by is);
        ready = tt;
      }

  module _ (mesh log : List ℕ) (is : fetched_by x ≡ Ok (record { mesh = mesh; log = log })) (f : Fetched) (found : IsSource names.names.scale files names.proof (source_of f)) where
    -- what the three files hold
    input_with : (s : Source) → proof_input_of (record { log = fetches.job; proof_file = s }) ≡ proof_input_of_read fetches.job.scale (read_of_bytes fetches.job.scale fetches.job.decimals (fetched_with_proof (Ok (record { mesh = mesh; log = log })) s))
    input_with s = ap (λ b. proof_input_of_read fetches.job.scale (read_of_bytes fetches.job.scale fetches.job.decimals (fetched_with_proof b s))) (fetches.fetched ∙ is)

    pub prepares_no_proof : source_of f ≡ Absent → PreparesProof files names (given.No (Input (refusal.Missing file.Proof)))
    prepares_no_proof e = record {
      job = record { log = fetches.job; proof_file = Absent };
      is_job = record { log = fetches.is_job; proof = source_at names.names.scale files names.proof f Absent e found };
      input = input_with Absent;
      ready = tt;
    }

    pub prepares_long_proof : (seen : ℕ) → source_of f ≡ TooLong seen → PreparesProof files names (given.No (Input (refusal.Long file.Proof seen)))
    prepares_long_proof seen e = record {
      job = record { log = fetches.job; proof_file = TooLong seen };
      is_job = record { log = fetches.is_job; proof = source_at names.names.scale files names.proof f (TooLong seen) e found };
      input = input_with (TooLong seen);
      ready = tt;
    }

    pub prepares_proof : (proof : List ℕ) → source_of f ≡ Bytes proof → (g : Inputs) → GivesInput names.names.scale (read_with_proof (read_of_lists names.names.scale (lists_of names.names.decimals mesh) log) (proofs_of proof)) g → PreparesProof files names g
    prepares_proof proof e g gives = record {
      job = record { log = fetches.job; proof_file = Bytes proof };
      is_job = record { log = fetches.is_job; proof = source_at names.names.scale files names.proof f (Bytes proof) e found };
      input =
          input_with (Bytes proof)
          ∙ ap (λ s. proof_input_of_read s (read_with_proof (read_of_lists s (lists_of fetches.job.decimals mesh) log) (proofs_of proof))) fetches.is_job.scale_is
          ∙ ap (λ d. proof_input_of_read names.names.scale (read_with_proof (read_of_lists names.names.scale (lists_of d mesh) log) (proofs_of proof))) fetches.is_job.decimals_are
          ∙ gives.input;
      ready = gives.ready;
    }

    -- with the slice of the mesh that was read
    pub prepares_read : (proof : List ℕ) → source_of f ≡ Bytes proof → (a : List ℕ) → a ≡ mesh → (g : Inputs) → GivesInput names.names.scale (read_with_proof (read_of_lists names.names.scale (lists_of names.names.decimals a) log) (proofs_of proof)) g → PreparesProof files names g
    prepares_read proof e a mesh_is g gives =
        let P : List ℕ → Type 0 = λ x. GivesInput names.names.scale (read_with_proof (read_of_lists names.names.scale (lists_of names.names.decimals x) log) (proofs_of proof)) g in
        prepares_proof proof e g (subst P mesh_is gives)
