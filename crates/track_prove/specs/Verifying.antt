-- How `verify` ends, and the text that it writes.
use Rattle.std.specs.Prelude.{◌≡◌, ℕ, ◌==◌, nat_lt, List, [], ◌∷◌, length, Option, Some, None, option_map, Result, Ok, Err, codes, decimal}
use Rattle.std.specs.List.{find}
use Rattle.mesh_base.specs.declared.Scale.{Scale}
use Rattle.mesh_base.specs.declared.FileWord.TheVariants as file
use Rattle.line_text.specs.declared.TextFault.{TextFault}
use Rattle.line_text.specs.WrittenLines.{line_of_words}
use Rattle.edit_base.specs.Scaffold.{Scaffold, motion_of}
use Rattle.edit_scaffold.specs.Made.{claim_of}
use Rattle.motion_proof.specs.declared.Entry.{Entry}
use Rattle.motion_proof.specs.declared.Verdict.{Verdict}
use Rattle.motion_proof.specs.declared.Verdict.TheVariants.{Accepted, NoMotion}
use Rattle.motion_proof.specs.Verdicts.{IsVerdict}
use Rattle.proof_text.specs.Plain.{PlainEntry, PlainProof}
use Rattle.proof_text.specs.Views.{entries_view}
use Rattle.proof_text.specs.Order.{proofs_of}
use Rattle.obj_text.specs.Obj.{lists_of}
use Rattle.log_text.specs.declared.LogLine.{LogLine}
use Rattle.log_text.specs.declared.Refusal.TheVariants as refusal
use Rattle.log_run.specs.States.{LogState}
use Rattle.log_run.specs.Motions.{moved_in, motions_of}
use Rattle.outside_io.specs.Desk.{Files}
use Rattle.track_input.specs.Source.{Source, Bytes, Absent, TooLong, IsSource}
use Rattle.track_input.specs.Words.{ProofNames}
use Rattle.track_log.specs.declared.refusal.LogRefusal.{LogRefusal}
use Rattle.track_log.specs.declared.refusal.LogRefusal.TheVariants.{Input, Proof}
use Rattle.track_log.specs.LogJob.{LogJob, IsLogJob, BothTexts, TextsRead, LogInput, fetched_of, read_of_lists, input_of_read}
use Rattle.track_log.specs.Refused.{refused_text}
use Rattle.track_prove.specs.Judged.{EndsJudged}

-- ---- what is found of a line

-- the certificate that stands in a proof at the number of a line, if one does
abbrev pub proof_at : List PlainProof → ℕ → Option PlainProof
proof_at proofs number = find (λ p. p.line == number) proofs

-- the line of the first certificate of a proof behind so many lines, if there is one
abbrev pub beyond : ℕ → List PlainProof → Option ℕ
beyond count proofs = option_map (λ p. p.line) (find (λ p. nat_lt count p.line) proofs)

-- The verdict on the entries of a certificate of a motion as a text tells of them: it is that
-- wherever their trees lie in memory.
pub record IsVerdictOn (motion : Scaffold) (told : List PlainEntry)
    (verdict : Verdict) : Type 0 where
  pub entries : List Entry
  pub told_are : entries_view entries ≡ told
  pub verdict_is : IsVerdict motion.mesh (motion_of motion) (claim_of motion.touch) entries verdict

-- What is found of a motion and of a certificate, where there are such: each without the other is
-- refused, and so is a certificate of another claim than the motion asks for; else it is the
-- verdict on the certificate's entries.
abbrev pub FoundOf : Option Scaffold → Option PlainProof → Verdict → Type 0
FoundOf None None verdict = verdict ≡ Accepted
FoundOf None (Some p) verdict = verdict ≡ NoMotion
FoundOf (Some motion) None verdict = verdict ≡ NoMotion
FoundOf (Some motion) (Some p) NoMotion = ¬ (p.claim ≡ claim_of motion.touch)
FoundOf (Some motion) (Some p) verdict =
    (p.claim ≡ claim_of motion.touch) × IsVerdictOn motion p.entries verdict

-- what is found of a line: of the motion of which it tells, and the certificate at its number
abbrev pub VerifyFinds : List PlainProof → ℕ → LogState → LogLine → Verdict → Type 0
VerifyFinds proofs number s line verdict =
    FoundOf (moved_in s.replay line) (proof_at proofs number) verdict

-- ---- what was given

-- the mesh, the log, the scale and the decimals of a job, and the file of a proof
pub record ProofJob : Type 0 where
  pub log : LogJob
  pub proof_file : Source

-- the job of these names, where the desk holds these files
pub record IsProofJob (files : Option Files) (names : ProofNames) (job : ProofJob) : Type 0 where
  pub log : IsLogJob files names.names job.log
  pub proof : IsSource names.names.scale files names.proof job.proof_file

-- the bytes of the three files
pub record ProofBytes : Type 0 where
  pub both : BothTexts
  pub proof : List ℕ

-- what the three texts give that are read without a fault
pub record ProofTexts : Type 0 where
  pub texts : TextsRead
  pub proofs : List PlainProof

-- what a job gives of which nothing is refused before its lines are taken
pub record ProofInput : Type 0 where
  pub log : LogInput
  pub proofs : List PlainProof

-- ---- what is given, or the first refusal that applies: the files of the mesh, of the log and of
-- the proof are fetched, the texts of the mesh and of the log are read, and then that of the proof,
-- and the mesh is tested for a pair that meets

-- the bytes of the proof beside those of mesh and log
abbrev pub fetched_with_proof : Result BothTexts LogRefusal → Source → Result ProofBytes LogRefusal
fetched_with_proof (Err why) proof = Err why
fetched_with_proof (Ok both) (TooLong seen) = Err (Input (refusal.Long file.Proof seen))
fetched_with_proof (Ok both) Absent = Err (Input (refusal.Missing file.Proof))
fetched_with_proof (Ok both) (Bytes proof) = Ok (record { both = both; proof = proof })

-- the certificates beside the lists and the lines
abbrev pub read_with_proof : Result TextsRead LogRefusal → Result (List PlainProof) TextFault →
    Result ProofTexts LogRefusal
read_with_proof (Err why) proofs = Err why
read_with_proof (Ok texts) (Err fault) = Err (Proof fault)
read_with_proof (Ok texts) (Ok proofs) = Ok (record { texts = texts; proofs = proofs })

-- what the bytes of the three files are read as
abbrev pub read_of_bytes : Scale → ℕ → Result ProofBytes LogRefusal →
    Result ProofTexts LogRefusal
read_of_bytes scale decimals (Err why) = Err why
read_of_bytes scale decimals (Ok bytes) =
    read_with_proof (read_of_lists scale (lists_of decimals bytes.both.mesh) bytes.both.log)
    (proofs_of bytes.proof)

-- the certificates beside a mesh and a log
abbrev pub with_proofs : Result LogInput LogRefusal → List PlainProof → Result ProofInput LogRefusal
with_proofs (Err why) proofs = Err why
with_proofs (Ok log) proofs = Ok (record { log = log; proofs = proofs })

-- a mesh, a log and certificates, after the mesh was tested
abbrev pub proof_input_of_read : Scale → Result ProofTexts LogRefusal →
    Result ProofInput LogRefusal
proof_input_of_read scale (Err why) = Err why
proof_input_of_read scale (Ok read) =
    with_proofs (input_of_read scale (Ok read.texts)) read.proofs

-- the mesh, the log and the proof of a job
abbrev pub proof_input_of : ProofJob → Result ProofInput LogRefusal
proof_input_of job =
    let bytes = fetched_with_proof (fetched_of job.log.mesh_file job.log.log_file) job.proof_file in
    proof_input_of_read job.log.scale (read_of_bytes job.log.scale job.log.decimals bytes)

-- ---- how it ends

-- `verified` and the number of motions
abbrev pub verified_text : ℕ → List ℕ
verified_text motions = line_of_words (codes "verified" ∷ decimal motions ∷ [])

-- the text of an ending of the lines
abbrev pub verify_text : LogInput → Option LogRefusal → List ℕ
verify_text log None = verified_text (length (motions_of log.mesh log.lines))
verify_text log (Some why) = refused_text why

-- how the lines end, each judged by the proof
abbrev pub EndsVerified : ProofInput → Option LogRefusal → Type 0
EndsVerified input ending =
    EndsJudged (VerifyFinds input.proofs)
    (beyond (length input.log.lines) input.proofs) input.log.mesh input.log.lines ending

-- How it ends for what was given, and the text that is written in whole with that ending: the
-- refusal of what was given; or the number of the motions of a log of which each line fits and
-- each motion is proved; or the refusal of the first line that does not, or of the first
-- motion of the proof behind the log.
abbrev pub VerifyEnds : Result ProofInput LogRefusal → Option LogRefusal → List ℕ → Type 0
VerifyEnds (Err why) ending text = (ending ≡ Some why) × (text ≡ refused_text why)
VerifyEnds (Ok input) ending text =
    EndsVerified input ending × (text ≡ verify_text input.log ending)
