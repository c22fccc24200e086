-- A run of a job of which nothing is refused is done, or finds no memory, where neither side fails.
use Rattle.std.proofs.Common.{◌≡◌, ◌⊎◌, ℕ, List, map, length, true, Option, Some, None, Result, Ok, Err, is_ok, refl, ap, ◌∙◌, subst, inl, inr, sym}
use Rattle.std.specs.Prelude.{IsNone}
use Rattle.std.proofs.lemmas.Bool.{false≢true}
use Rattle.std.proofs.lemmas.List.{length-map}
use Rattle.grid_base.specs.Points.{point_at}
use Rattle.mesh_base.specs.declared.PairName.{PairName}
use Rattle.mesh_base.specs.declared.Scale.{Scale}
use Rattle.mesh_shape.specs.Shape.{shape_fault}
use Rattle.mesh_shape.proofs.Lists.{sound-mesh_under}
use Rattle.pair_scan.proofs.Clear.{clear_exactly}
use Rattle.obj_text.specs.Obj.{Lists, lists_of}
use Rattle.outside_io.specs.Desk.{Files}
use Rattle.step_text.specs.declared.Placed.{Placed}
use Rattle.log_text.specs.declared.Refusal.{Refusal}
use Rattle.track_input.specs.Source.{Source, Bytes, IsSource}
use Rattle.track_convert.proofs.Caused.{fetched}
use Rattle.track_input.specs.Job.{Job, IsJob, Input, met_first, input_of, input_of_files, input_of_lists, input_of_shape, input_of_steps, mesh_of_lists}
use Rattle.outside_io.specs.declared.stop.Stop.{Stop}
use Rattle.outside_io.specs.declared.stop.Stop.TheVariants as stop
use Rattle.track_engine.specs.State.{start}
use Rattle.track_engine.specs.Answered.{Known, AreAnswered}
use Rattle.track_engine.specs.Saved.{Target}
use Rattle.track_engine.specs.World.{World}
use Rattle.track_run.specs.declared.outcome.Outcome.{Outcome}
use Rattle.track_run.specs.declared.outcome.Outcome.TheVariants as outcome
use Rattle.track_run.specs.Answered.{IsInputAnswered}
use Rattle.track_run.specs.Outcomes.{outcome_from, outcome_of_try}
use Rattle.track_run.specs.Causes.{Cause, IsStopped, HasClear}
use Rattle.track_run.specs.Headline.{TracksCommand}
use Rattle.track_run.specs.Complete.{IsHeld, IsLawful, NoneFailed, LawfulJobsAreDone, TriesAreDone}

none_is : (o : Option PairName) → IsNone o → o ≡ None
none_is None h = refl
none_is (Some pair) h = absurd (false≢true (sym h))

-- ---- what the files give, where nothing is refused
module _ (scale : Scale) (fields : Known) (files : Option Files) (mesh_name step_name : List ℕ) (decimals : ℕ) (job : Job) (lawful : IsLawful job.scale fields files mesh_name step_name decimals) (is : IsJob scale files mesh_name step_name decimals job) where
  held : (name bytes : List ℕ) → IsHeld job.scale files name bytes → (s : Source) → IsSource scale files name s → s ≡ Bytes bytes
  held name bytes h s source =
      let here : IsSource job.scale files name s = subst (λ (c : Scale). IsSource c files name s) (sym is.scale_is) source in
      let P : Option Files → Type 0 = λ f. IsSource job.scale f name s in
      fetched job.scale h.told name bytes s h.file h.small (subst P h.files_are here)

  none_met : met_first (mesh_of_lists job.scale lawful.lists) ≡ None
  none_met =
      let points = map point_at lawful.lists.points in
      let m = mesh_of_lists job.scale lawful.lists in
      let shaped : shape_fault job.scale (length points) lawful.lists.faces ≡ None = ap (λ n. shape_fault job.scale n lawful.lists.faces) (length-map lawful.lists.points point_at) ∙ lawful.good in
      none_is (met_first m) ((clear_exactly m (met_first m) (sound-mesh_under job.scale points lawful.lists.faces shaped) refl).1 lawful.clear)

  pub job_is_clear : HasClear job lawful.lists lawful.directives
  job_is_clear = record {
    steps_read = record {
      steps = lawful.steps;
      mesh_read = record {
        lists_read = record {
          mesh = lawful.mesh;
          mesh_file = held mesh_name lawful.mesh lawful.mesh_file job.mesh_file is.mesh;
          step_file = held step_name lawful.steps lawful.step_file job.step_file is.steps;
          read = ap (λ d. lists_of d lawful.mesh) is.decimals_are ∙ lawful.read;
        };
        good = lawful.good;
      };
      read = lawful.directed;
    };
    clear = none_met;
    none_meets = lawful.clear;
  }

-- what a job gives whose files are read without a fault
input_read : (job : Job) (lists : Lists) (directives : List Placed) → HasClear job lists directives → input_of job ≡ Ok (record { lists = lists; steps = directives })
input_read job lists directives clear =
    let read = clear.steps_read in
    let good = read.mesh_read in
    let files = good.lists_read in
    ap (λ f. input_of_files job.scale job.decimals f job.step_file) files.mesh_file
    ∙ ap (λ f. input_of_files job.scale job.decimals (Bytes files.mesh) f) files.step_file
    ∙ ap (λ r. input_of_lists job.scale r read.steps) files.read
    ∙ ap (λ o. input_of_shape lists o read.steps) good.good
    ∙ ap (input_of_steps lists) read.read

-- a run that is stopped found no memory, or one side failed
stopped_by : (result : Outcome) → IsStopped result → (result ≡ outcome.NoMemory) ⊎ (result ≡ outcome.DeskFault) ⊎ (result ≡ outcome.SinkFault)
stopped_by outcome.NoMemory s = inl refl
stopped_by outcome.DeskFault s = inr (inl refl)
stopped_by outcome.SinkFault s = inr (inr refl)
stopped_by outcome.Done s = absurd s
stopped_by outcome.Usage s = absurd s
stopped_by (outcome.TooLong f seen) s = absurd s
stopped_by (outcome.MeshText f) s = absurd s
stopped_by (outcome.MeshShape f) s = absurd s
stopped_by (outcome.MeshMeets p) s = absurd s
stopped_by (outcome.StepText f) s = absurd s
stopped_by (outcome.StepUse line why) s = absurd s
stopped_by (outcome.Missing f) s = absurd s
stopped_by (outcome.LogText f) s = absurd s
stopped_by (outcome.LogUse line) s = absurd s
stopped_by (outcome.ProofText fault) s = absurd s
stopped_by (outcome.ProofBad line verdict) s = absurd s

module _ (fields : Known) (scale : Scale) (mesh_name step_name : List ℕ) (to : Target) (result : Outcome) (old new : World) (run : TracksCommand scale fields mesh_name step_name to result old new) (lawful : IsLawful run.job.scale fields old.holds.files mesh_name step_name to.decimals) (none : NoneFailed old new) where
  clear : HasClear run.job lawful.lists lawful.directives
  clear = job_is_clear scale fields old.holds.files mesh_name step_name to.decimals run.job lawful run.is_job

  abbrev IsEnd : Type 0
  IsEnd = (result ≡ outcome.Done) ⊎ (result ≡ outcome.NoMemory)

  without_faults : (result ≡ outcome.NoMemory) ⊎ (result ≡ outcome.DeskFault) ⊎ (result ≡ outcome.SinkFault) → IsEnd
  without_faults (inl memory) = inr memory
  without_faults (inr (inl desk)) = absurd (none.desk (run.faults.desk_fault desk))
  without_faults (inr (inr sink)) = absurd (none.sink (run.faults.sink_fault sink))

  -- how a run that was stopped ended
  at_stop : (s : Stop) → result ≡ outcome_from (Err s) → (result ≡ outcome.NoMemory) ⊎ (result ≡ outcome.DeskFault) ⊎ (result ≡ outcome.SinkFault)
  at_stop stop.NoMemory is = inl is
  at_stop stop.DeskFault is = inr (inl is)
  at_stop stop.SinkFault is = inr (inr is)

  -- where the log is whole, the job is the cause of being done, and of nothing else
  is_done : Cause run.job run.tracks.answers outcome.Done → IsEnd
  is_done cause = elim (run.tracks.caused.no_other outcome.Done cause) [
    | inl same ↦ inl same
    | inr (inl never) ↦ absurd never
    | inr (inr stops) ↦ without_faults (stopped_by result stops)
  ]

  at_whole : AreAnswered fields true run.tracks.answers lawful.directives (start (mesh_of_lists run.job.scale lawful.lists)) → IsEnd
  at_whole answered =
      let there = lawful.taken run.tracks.answers answered in
      is_done (lawful.lists, lawful.directives, clear, there.0, there.1)

  by_end : (ended : Result (Option Refusal) Stop) → result ≡ outcome_from ended → IsInputAnswered run.job.scale fields (is_ok ended) run.tracks.answers (input_of run.job) → IsEnd
  by_end (Err s) is answered = without_faults (at_stop s is)
  by_end (Ok ending) is answered =
      let P : Result Input Refusal → Type 0 = λ r. IsInputAnswered run.job.scale fields true run.tracks.answers r in
      at_whole (subst P (input_read run.job lawful.lists lawful.directives clear) answered clear.clear)

  pub ends_well : IsEnd
  ends_well = by_end run.tracks.ended run.tracks.outcome_is run.tracks.answered

pub lawful_jobs_are_done : (fields : Known) → LawfulJobsAreDone fields
lawful_jobs_are_done fields scale mesh_name step_name to result old new run lawful none =
    let P : Scale → Type 0 = λ c. IsLawful c fields old.holds.files mesh_name step_name to.decimals in
    ends_well fields scale mesh_name step_name to result old new run (subst P (sym run.is_job.scale_is) lawful) none

-- ---- a try

pub tries_are_done : TriesAreDone
tries_are_done cubes key result old new run none = by_end run.ended run.outcome_is run.no_desk
  where
    by_end : (ended : Result (Unit {0}) Stop) → result ≡ outcome_of_try ended → (ended ≡ Err stop.DeskFault → ⊥) → (result ≡ outcome.Done) ⊎ (result ≡ outcome.NoMemory)
    by_end (Ok done) is no_desk = inl is
    by_end (Err stop.NoMemory) is no_desk = inr is
    by_end (Err stop.DeskFault) is no_desk = absurd (no_desk refl)
    by_end (Err stop.SinkFault) is no_desk = absurd (none (run.sink_fault is))
