-- What the parts of both commands give, up to the report of which the text is written.
use Rattle.std.specs.Prelude.{◌≡◌, ◌<◌, ◌^◌, ℕ, List, length, Option, Some, None, Result, Ok, Err}
use Rattle.mesh_base.specs.declared.Scale.{Scale}
use Rattle.mesh_base.specs.Mesh.{Mesh}
use Rattle.mesh_base.specs.Valid.{IsValidSurface}
use Rattle.mesh_base.specs.declared.MeshLists.{MeshLists}
use Rattle.mesh_journal.specs.Journal.{mesh_in}
use Rattle.obj_text.specs.Obj.{lists_of}
use Rattle.obj_text.specs.Views.{lists_view}
use Rattle.proof_text.specs.Laws.{AreProofs}
use Rattle.proof_text.specs.Order.{proofs_of}
use Rattle.proof_text.specs.Plain.{PlainProof}
use Rattle.log_text.specs.declared.LogLine.{LogLine}
use Rattle.outside_io.specs.Desk.{Files}
use Rattle.track_input.specs.Words.{LogNames, ProofNames}
use Rattle.track_log.specs.declared.refusal.LogRefusal.{LogRefusal}
use Rattle.track_log.specs.LogJob.{LogJob, IsLogJob, LogInput, TextsRead, input_of, read_of_lists}
use Rattle.track_log.specs.Refused.{refused_text}
use Rattle.track_prove.specs.declared.report.Report.{Report}
use Rattle.track_prove.specs.declared.report.Report.TheVariants.{Refused, Text}
use Rattle.track_prove.specs.declared.inputs.Inputs.{Inputs}
use Rattle.track_prove.specs.declared.inputs.Inputs.TheVariants as given
use Rattle.track_prove.specs.Proving.{ProveEnds}
use Rattle.track_prove.specs.Verifying.{ProofJob, IsProofJob, ProofTexts, ProofInput, read_with_proof}
use Rattle.track_prove.specs.Verifying.{proof_input_of_read, proof_input_of, VerifyEnds}
use Rattle.track_prove.specs.Headline.{IsSafe, IsSafeLog, IsSafeProof}

-- the ending that is told, and its text
abbrev pub ending_of : Report → Option LogRefusal
ending_of (Refused why) = Some why
ending_of (Text text) = None

-- and its text
abbrev pub text_told : Report → List ℕ
text_told (Refused why) = refused_text why
text_told (Text text) = text.items

-- it ends well, with this text
abbrev pub EndsWellWith : Report → List ℕ → Type 0
EndsWellWith (Refused why) told = ⊥
EndsWellWith (Text text) told = text.items ≡ told

-- how it ends, and that a log is safe where nothing is refused
pub record IsReport (Ends : Option LogRefusal → List ℕ → Type 0) (Safe : Type 0)
    (found : Report) : Type 0 where
  pub ends : Ends (ending_of found) (text_told found)
  pub some : 0 < length (text_told found)
  pub safe : ending_of found ≡ None → Safe

-- the lines of a log that begins with a mesh are proved
abbrev pub ProvesLines : Mesh → List LogLine → Report → Type 0
ProvesLines m lines found =
    let log : LogInput = record { mesh = m; lines = lines } in
    IsReport (ProveEnds (Ok log)) (IsSafe log) found

-- or what the files of two names give
pub record ProvesFiles (files : Option Files) (names : LogNames) (found : Report) : Type 0 where
  pub job : LogJob
  pub is_job : IsLogJob files names job
  pub report : IsReport (ProveEnds (input_of job)) (IsSafeLog (input_of job)) found

-- a proof of the lines of a log that begins with a mesh is tested
abbrev pub VerifiesLines : Mesh → List LogLine → List PlainProof → Report → Type 0
VerifiesLines m lines proofs found =
    let log : LogInput = record { mesh = m; lines = lines } in
    IsReport (VerifyEnds (Ok (record { log = log; proofs = proofs }))) (IsSafe log) found

-- or what the files of three names give
pub record VerifiesFiles (files : Option Files) (names : ProofNames) (found : Report) : Type 0 where
  pub job : ProofJob
  pub is_job : IsProofJob files names job
  pub report : IsReport (VerifyEnds (proof_input_of job)) (IsSafeProof (proof_input_of job)) found

-- ---- what is given to `verify`

-- what was prepared, as a job gives it
abbrev pub input_by : Inputs → Result ProofInput LogRefusal
input_by (given.No why) = Err why
input_by (given.Yes mesh lines proofs) =
    Ok (record { log = record { mesh = mesh_in mesh; lines = lines }; proofs = proofs })

-- the mesh is sound, closed and clear, the lines are few, and the certificates stand in order
abbrev pub IsReady : Inputs → Type 0
IsReady (given.No why) = Unit {0}
IsReady (given.Yes mesh lines proofs) =
    IsValidSurface (mesh_in mesh) × ((length lines < 2 ^ 31) × AreProofs proofs)

-- what a read mesh, a read log and a read proof give
pub record GivesInput (scale : Scale) (read : Result ProofTexts LogRefusal)
    (found : Inputs) : Type 0 where
  pub input : proof_input_of_read scale read ≡ input_by found
  pub ready : IsReady found

-- lists of good shape and the lines of a log, as texts give them
abbrev pub texts_of : MeshLists → List LogLine → TextsRead
texts_of lists lines = record { lists = lists_view lists; lines = lines }

-- what the files of three names give
pub record PreparesProof (files : Option Files) (names : ProofNames) (found : Inputs) : Type 0 where
  pub job : ProofJob
  pub is_job : IsProofJob files names job
  pub input : proof_input_of job ≡ input_by found
  pub ready : IsReady found
