-- A log that was written is taken by each command that reads one.
use Rattle.std.proofs.Common.{◌≡◌, ℕ, ◌≤◌, List, [], ◌∷◌, length, Option, None, Result, Ok, refl, ap, sym, ◌∙◌, subst, arith}
use Rattle.mesh_base.specs.Mesh.{Mesh}
use Rattle.mesh_base.specs.Valid.{IsValidSurface}
use Rattle.mesh_base.proofs.MeshLaws.{small_texts_of}
use Rattle.obj_text.specs.Obj.{Lists}
use Rattle.proof_text.specs.Lines.{text_of}
use Rattle.proof_text.specs.Order.{proofs_of}
use Rattle.proof_text.specs.Views.{proofs_view}
use Rattle.proof_text.specs.declared.ProofAt.{ProofAt}
use Rattle.log_text.specs.declared.LogLine.{LogLine}
use Rattle.log_text.specs.declared.TheConstants.{COUNT_MAX}
use Rattle.log_text.specs.declared.LogLine.TheVariants.{First}
use Rattle.log_read.specs.Reading.{log_of as lines_of_text}
use Rattle.log_text.specs.Lines.{text_of_lines}
use Rattle.log_run.specs.Motions.{motions_of}
use Rattle.log_run.specs.States.{without_lines}
use Rattle.outside_io.specs.Desk.{Files}
use Rattle.track_input.specs.Job.{mesh_of_lists}
use Rattle.track_input.specs.Source.{Bytes, IsSource}
use Rattle.track_input.specs.Words.{LogNames}
use Rattle.track_log.specs.declared.LogRefusal.{LogRefusal}
use Rattle.track_log.specs.Ending.{EndsBy}
use Rattle.track_log.specs.LogJob.{LogJob, LogInput, IsLogJob, fetched_of, read_of_files, read_of_lists, read_of_shape, read_of_log, input_of_test, input_of_read, input_of}
use Rattle.track_log.specs.Taking.{FitsTested, AllFit}
use Rattle.track_log.proofs.PrepareLemmas.{few_lines}
use Rattle.track_log.proofs.ValidInputs.{valid_where_clear}
use Rattle.track_prove.specs.Proving.{AreProofsOf, ProveEnds}
use Rattle.track_prove.specs.Verifying.{ProofJob, fetched_with_proof, read_with_proof, read_of_bytes, with_proofs, proof_input_of_read, proof_input_of, VerifyEnds}
use Rattle.log_fits.specs.Logs.{IsLogOf}
use Rattle.log_fits.specs.Taken.{IsOfLog, LogsAreMeasured, LogsAreReplayed, LogsAreProved, ProofsAreVerified}
use Rattle.log_fits.proofs.Logs.{logs_are_read}
use Rattle.log_fits.proofs.Measured.{each_fits, by_end as measured_by_end}
use Rattle.log_fits.proofs.Replayed.{by_end as replayed_by_end}
use Rattle.log_fits.proofs.Proved.{proved_well, verified_well, read_well, done_or_no_memory}

module _ (read : LogJob) (lists : Lists) (lines : List LogLine) (is : IsOfLog read lists lines) where
  abbrev m : Mesh
  m = mesh_of_lists read.scale lists

  text : List ℕ
  text = text_of_lines lines

  good : IsValidSurface m
  good = valid_where_clear read.scale lists is.mesh.shape is.mesh.none_meets

  abbrev log : IsLogOf read.scale m lines
  log = is.log

  log_read : lines_of_text read.scale (text_of_lines lines) ≡ Ok lines
  log_read = logs_are_read read.scale m lines is.log

  has_lines : lines ≡ [] → ⊥
  has_lines none = let first : First log.version ∷ log.rest ≡ [] = sym log.lines_are ∙ none in absurd cc

  given : input_of read ≡ Ok (record { mesh = m; lines = lines })
  unfolding text
  given =
      ap (input_of_read read.scale) (
      ap (λ f. read_of_files read.scale read.decimals f read.log_file) is.mesh.mesh_file
      ∙ ap (λ f. read_of_files read.scale read.decimals (Bytes is.mesh.bytes) f) is.log_file
      ∙ ap (λ r. read_of_lists read.scale r text) is.mesh.lists_are
      ∙ ap (λ o. read_of_shape read.scale lists o text) is.mesh.shape
      ∙ ap (read_of_log lists) log_read
      ) ∙ ap (λ o. input_of_test m o lines) is.mesh.none_meets

  all_fit : AllFit FitsTested (without_lines m) lines
  all_fit = record { some = λ none. absurd cc; each = each_fits (without_lines m) lines log.fits log.again }

  ends_well : EndsBy FitsTested (input_of read) None
  ends_well = let P : Result LogInput LogRefusal → Type 0 = λ input. EndsBy FitsTested input None in subst P (sym given) all_fit

  log_proved : (ending : Option LogRefusal) (said : List ℕ) → ProveEnds (input_of read) ending said → ending ≡ None
  log_proved ending said ends =
      let there = subst (λ i. ProveEnds i ending said) given ends in
      proved_well m lines good has_lines log.fits log.safe log.again ending there.0

  few_told : (files : Option Files) (names : LogNames) → IsLogJob files names read → length lines ≤ COUNT_MAX
  few_told files names job_is =
      let there : IsSource names.scale files names.log (Bytes (text_of_lines lines)) = subst (IsSource names.scale files names.log) is.log_file job_is.log in
      omega (arith, few_lines read.scale (text_of_lines lines) lines log_read (omega (arith, there.0, small_texts_of names.scale)))

module _ (read : ProofJob) (lists : Lists) (all : List LogLine) (is : IsOfLog read.log lists all) (proofs : List ProofAt) (are : AreProofsOf (motions_of (mesh_of_lists read.log.scale lists) all) proofs)
    (file : read.proof_file ≡ Bytes (text_of (proofs_view proofs))) (few : length all ≤ COUNT_MAX) where
  abbrev n : Mesh
  n = mesh_of_lists read.log.scale lists

  abbrev those : IsLogOf read.log.scale n all
  those = is.log

  sound : IsValidSurface n
  sound = good read.log lists all is

  some : all ≡ [] → ⊥
  some = has_lines read.log lists all is

  written : List ℕ
  written = text_of_lines all

  proof : List ℕ
  proof = text_of (proofs_view proofs)

  given_with : proof_input_of read ≡ Ok (record { log = record { mesh = n; lines = all }; proofs = proofs_view proofs })
  unfolding written proof
  given_with =
      ap (proof_input_of_read read.log.scale) (
      ap (λ f. read_of_bytes read.log.scale read.log.decimals (fetched_with_proof (fetched_of f read.log.log_file) read.proof_file)) is.mesh.mesh_file
      ∙ ap (λ f. read_of_bytes read.log.scale read.log.decimals (fetched_with_proof (fetched_of (Bytes is.mesh.bytes) f) read.proof_file)) is.log_file
      ∙ ap (λ f. read_of_bytes read.log.scale read.log.decimals (fetched_with_proof (fetched_of (Bytes is.mesh.bytes) (Bytes written)) f)) file
      ∙ ap (λ r. read_with_proof (read_of_lists read.log.scale r written) (proofs_of proof)) is.mesh.lists_are
      ∙ ap (λ o. read_with_proof (read_of_shape read.log.scale lists o written) (proofs_of proof)) is.mesh.shape
      ∙ ap (λ r. read_with_proof (read_of_log lists r) (proofs_of proof)) (log_read read.log lists all is)
      ∙ ap (read_with_proof (Ok (record { lists = lists; lines = all }))) (read_well n all sound some those.fits those.safe those.again proofs are few)
      ) ∙ ap (λ o. with_proofs (input_of_test n o all) (proofs_view proofs)) is.mesh.none_meets

  log_verified : (ending : Option LogRefusal) (said : List ℕ) → VerifyEnds (proof_input_of read) ending said → ending ≡ None
  log_verified ending said ends =
      let there = subst (λ i. VerifyEnds i ending said) given_with ends in
      verified_well n all sound some those.fits those.safe those.again proofs are ending there.0

pub logs_are_measured : LogsAreMeasured
logs_are_measured lists lines names result old new run is none =
    measured_by_end result old new names run none run.ended refl (run.measures.only None (ends_well run.measures.job lists lines is))

pub logs_are_replayed : LogsAreReplayed
logs_are_replayed lists lines names result old new run is none =
    replayed_by_end result old new names run none run.ended refl (run.replays.only None (ends_well run.replays.job lists lines is))

pub logs_are_proved : LogsAreProved
logs_are_proved lists lines names result old new run is none =
    done_or_no_memory (ProveEnds (input_of run.proves.job)) (log_proved run.proves.job lists lines is)
    old.holds.written new.holds.written result _ _ none.desk none.sink run.ended run.outcome_is run.proves.told run.proves.faults.desk_fault run.proves.faults.sink_fault

pub proofs_are_verified : ProofsAreVerified
proofs_are_verified lists lines text names result old new run proof_is is file none =
    done_or_no_memory (VerifyEnds (proof_input_of run.verifies.job))
    (log_verified run.verifies.job lists lines is proof_is.proofs proof_is.are (file ∙ ap Bytes proof_is.text_is) (few_told run.verifies.job.log lists lines is old.holds.files names.names run.verifies.is_job.log))
    old.holds.written new.holds.written result _ _ none.desk none.sink run.ended run.outcome_is run.verifies.told run.verifies.faults.desk_fault run.verifies.faults.sink_fault
