-- The logs of runs are measured.
use Rattle.std.proofs.Common.{◌≡◌, ◌⊎◌, inl, inr, ℕ, Bool, true, false, List, [], ◌∷◌, Option, None, Result, Ok, Err, refl, ap, sym, ◌∙◌, subst}
use Rattle.std.specs.Prelude.{MatchBool}
use Rattle.std.specs.FinMap as finite
use Rattle.mesh_base.specs.Mesh.{Mesh}
use Rattle.obj_text.specs.Obj.{Lists}
use Rattle.step_text.specs.declared.Placed.{Placed}
use Rattle.log_text.specs.declared.LogLine.{LogLine}
use Rattle.log_text.specs.declared.LogLine.TheVariants as line
use Rattle.log_text.specs.Lines.{text_of_lines}
use Rattle.log_read.specs.Reading.{log_of as lines_of_text}
use Rattle.log_replay.specs.Replay.{Replay}
use Rattle.log_replay.specs.Again.{LineIsAgain, LinesAreAgain}
use Rattle.log_run.specs.States.{LogState, with_line, without_lines}
use Rattle.outside_io.specs.declared.stop.Stop.{Stop}
use Rattle.outside_io.specs.declared.stop.Stop.TheVariants as stop
use Rattle.outside_io.specs.World.{World}
use Rattle.track_input.specs.Source.{Bytes}
use Rattle.track_input.specs.Words.{LogNames}
use Rattle.track_input.specs.Job.{Job, mesh_of_lists, mesh_of_job, mesh_in, mesh_read}
use Rattle.track_log.specs.declared.LogRefusal.{LogRefusal}
use Rattle.track_log.specs.LogJob.{LogJob, LogInput, read_of_files, read_of_lists, read_of_shape, read_of_log, input_of_test, input_of_read, input_of}
use Rattle.track_log.specs.Taking.{StepPasses, FitsTested, EachFits, AllFit}
use Rattle.track_log.specs.Ending.{EndsBy}
use Rattle.track_measure.specs.Headline.{IsStopped}
use Rattle.track_engine.specs.Answers.{Answers}
use Rattle.track_engine.specs.Answered.{Known}
use Rattle.track_run.specs.declared.outcome.Outcome.{Outcome}
use Rattle.track_run.specs.declared.outcome.Outcome.TheVariants as outcome
use Rattle.track_run.specs.Causes.{HasClear}
use Rattle.track_run.specs.Complete.{NoneFailed}
use Rattle.track_run.specs.Headline.{MeasuresCommand}
use Rattle.track_run.specs.Job.{log_of, replay_of}
use Rattle.track_run.specs.Outcomes.{outcome_by_log}
use Rattle.log_fits.specs.Fitting.{LinesFit}
use Rattle.log_fits.specs.Measured.{IsWithLogOf, LogsOfRunsAreMeasured, MeshLinesTell}
use Rattle.log_fits.proofs.Jobs.{job_logs_fit}

mesh_tells : (has_line : Bool) (P : Type 0) → MatchBool has_line P ⊥ → P
mesh_tells true P h = h
mesh_tells false P h = absurd h

pub mesh_lines_tell : MeshLinesTell
mesh_lines_tell s k vertices faces fits =
    let told = mesh_tells s.has_line ((s.is_begun ≡ false) × (vertices ≡ finite.len s.replay.mesh.points) × (faces ≡ finite.len s.replay.mesh.faces)) fits in
    (told.1, told.2)

-- a step that can be done again passes
step_passes : (r : Replay) (l : LogLine) → LineIsAgain r l → StepPasses r l
step_passes r (line.Moved how) again = again.passes
step_passes r (line.First version) again = tt
step_passes r (line.Mesh k vertices faces) again = tt
step_passes r (line.Step k) again = tt
step_passes r (line.Solid v) again = tt
step_passes r (line.Hit pair) again = tt
step_passes r (line.Vertices new) again = tt
step_passes r (line.Faces new) again = tt
step_passes r (line.Block ids) again = tt
step_passes r (line.Move shift) again = tt
step_passes r (line.Pass kind) again = tt
step_passes r line.PassFit again = tt
step_passes r (line.Did change) again = tt
step_passes r (line.No what why) again = tt
step_passes r line.Group again = tt
step_passes r (line.Close kept) again = tt
step_passes r (line.Refused why) again = tt
step_passes r line.End again = tt

pub each_fits : (s : LogState) (lines : List LogLine) → LinesFit s lines → LinesAreAgain s.replay lines → EachFits FitsTested s lines
each_fits s [] fit again = tt
each_fits s (l ∷ lines) fit again = (record { fits = fit.0; passes = step_passes s.replay l again.0 }, each_fits (with_line s l) lines fit.1 again.1)

-- the mesh of a job whose files were read is that of its lists
pub mesh_is : (job : Job) (lists : Lists) (directives : List Placed) → HasClear job lists directives → mesh_of_job job ≡ mesh_of_lists job.scale lists
mesh_is job lists directives clear = let files = clear.steps_read.mesh_read.lists_read in ap (mesh_in job.scale job.decimals) files.mesh_file ∙ ap (mesh_read job.scale) files.read

module _ (job : Job) (lists : Lists) (directives : List Placed) (clear : HasClear job lists directives) (answers : Answers) (read : LogJob) (is : IsWithLogOf job answers read) (back : lines_of_text job.scale (text_of_lines (log_of job answers).lines) ≡ Ok (log_of job answers).lines) where
  abbrev lines : List LogLine
  lines = (log_of job answers).lines

  text : List ℕ
  text = text_of_lines lines

  pub given_is : input_of read ≡ Ok (record { mesh = mesh_of_lists job.scale lists; lines = lines })
  unfolding text
  given_is =
      let good = clear.steps_read.mesh_read in
      let files = good.lists_read in
      let m = mesh_of_lists job.scale lists in
      ap (λ s. input_of_read s (read_of_files s read.decimals read.mesh_file read.log_file)) is.scale
      ∙ ap (input_of_read job.scale) (
      ap (λ d. read_of_files job.scale d read.mesh_file read.log_file) is.decimals
      ∙ ap (λ f. read_of_files job.scale job.decimals f read.log_file) (is.mesh ∙ files.mesh_file)
      ∙ ap (λ f. read_of_files job.scale job.decimals (Bytes files.mesh) f) is.log
      ∙ ap (λ r. read_of_lists job.scale r text) files.read
      ∙ ap (λ o. read_of_shape job.scale lists o text) good.good
      ∙ ap (read_of_log lists) back
      ) ∙ ap (λ o. input_of_test m o lines) clear.clear

  all_fit : LinesAreAgain (replay_of job) lines → AllFit FitsTested (without_lines (mesh_of_lists job.scale lists)) lines
  all_fit again = record {
    some = λ none. absurd cc;
    each = (let P : Mesh → Type 0 = λ m. EachFits FitsTested (without_lines m) lines in subst P (mesh_is job lists directives clear) (each_fits (without_lines (mesh_of_job job)) lines (job_logs_fit job answers) again));
  }

  pub ends_well : LinesAreAgain (replay_of job) lines → EndsBy FitsTested (input_of read) None
  ends_well again = let P : Result LogInput LogRefusal → Type 0 = λ input. EndsBy FitsTested input None in subst P (sym given_is) (all_fit again)

pub by_end : (result : Outcome) (old new : World) (names : LogNames) (run : MeasuresCommand names result old new) → NoneFailed old new → (ended : Result (Option LogRefusal) Stop) → run.ended ≡ ended → (ended ≡ Ok None) ⊎ IsStopped ended → (result ≡ outcome.Done) ⊎ (result ≡ outcome.NoMemory)
by_end result old new names run none (Ok ending) e (inl same) = inl (run.outcome_is ∙ ap outcome_by_log (e ∙ same))
by_end result old new names run none (Ok ending) e (inr stops) = absurd stops
by_end result old new names run none (Err stop.NoMemory) e h = inr (run.outcome_is ∙ ap outcome_by_log e)
by_end result old new names run none (Err stop.DeskFault) e h = absurd (none.desk (run.measures.faults.desk_fault e))
by_end result old new names run none (Err stop.SinkFault) e h = absurd (none.sink (run.measures.faults.sink_fault e))

pub runs_are_measured : (known : Known) → LogsOfRunsAreMeasured known
runs_are_measured known scale mesh_name step_name to tracked before after track lists directives clear names result old new run is none =
    let ends = ends_well track.job lists directives clear track.tracks.answers run.measures.job is track.read_back track.tracks.promises.again in
    by_end result old new names run none run.ended refl (run.measures.only None ends)
