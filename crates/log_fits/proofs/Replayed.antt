-- The logs of runs are replayed.
use Rattle.std.proofs.Common.{◌≡◌, ◌⊎◌, inl, inr, ℕ, List, Option, Some, None, Result, Ok, Err, refl, ap, sym, ◌∙◌, subst}
use Rattle.std.specs.Prelude.{IsErr}
use Rattle.log_text.specs.declared.LogLine.{LogLine}
use Rattle.log_text.specs.declared.Refusal.{Refusal}
use Rattle.log_text.specs.declared.Refusal.TheVariants as refusal
use Rattle.log_replay.specs.Replay.{at_mesh}
use Rattle.outside_io.specs.declared.stop.Stop.{Stop}
use Rattle.outside_io.specs.declared.stop.Stop.TheVariants as stop
use Rattle.outside_io.specs.World.{World}
use Rattle.track_input.specs.Words.{ReplayNames}
use Rattle.track_input.specs.Job.{mesh_of_job, mesh_of_lists}
use Rattle.track_log.specs.declared.LogRefusal.{LogRefusal}
use Rattle.track_log.specs.declared.LogRefusal.TheVariants as log
use Rattle.track_log.specs.LogJob.{LogInput, input_of}
use Rattle.track_replay.specs.Wanted.{NamedTexts}
use Rattle.track_replay.specs.Headline.{ComesToEnd, IsReplayOf, target_in, texts_stored}
use Rattle.track_replay.proofs.WantedLines.{each_wanted}
use Rattle.track_engine.specs.Answered.{Known}
use Rattle.track_engine.specs.Saved.{Target, files_of, stored}
use Rattle.track_run.specs.declared.outcome.Outcome.{Outcome}
use Rattle.track_run.specs.declared.outcome.Outcome.TheVariants as outcome
use Rattle.track_run.specs.Complete.{NoneFailed}
use Rattle.track_run.specs.Headline.{ReplaysCommand}
use Rattle.track_run.specs.Job.{log_of}
use Rattle.track_run.specs.Outcomes.{outcome_of, outcome_by_log}
use Rattle.log_fits.specs.Replayed.{LogsOfRunsAreReplayed, MeshesOfRunsAreStoredAgain}
use Rattle.log_fits.proofs.Measured.{ends_well, given_is, mesh_is}

pub by_end : (result : Outcome) (old new : World) (names : ReplayNames) (run : ReplaysCommand names result old new) → NoneFailed old new → (ended : Result (Option LogRefusal) Stop) → run.ended ≡ ended → (ended ≡ Ok None) ⊎ IsErr ended → (result ≡ outcome.Done) ⊎ (result ≡ outcome.NoMemory)
by_end result old new names run none (Ok ending) e (inl same) = inl (run.outcome_is ∙ ap outcome_by_log (e ∙ same))
by_end result old new names run none (Ok ending) e (inr stops) = absurd (cc)
by_end result old new names run none (Err stop.NoMemory) e h = inr (run.outcome_is ∙ ap outcome_by_log e)
by_end result old new names run none (Err stop.DeskFault) e h = absurd (none.desk (run.replays.faults.desk_fault e))
by_end result old new names run none (Err stop.SinkFault) e h = absurd (none.sink (run.replays.faults.sink_fault e))

pub runs_are_replayed : (known : Known) → LogsOfRunsAreReplayed known
runs_are_replayed known scale mesh_name step_name to tracked before after track lists directives clear names result old new run is none =
    let ends = ends_well track.job lists directives clear track.tracks.answers run.replays.job is track.read_back track.tracks.promises.again in
    by_end result old new names run none run.ended refl (run.replays.only None ends)

-- ---- what is stored

input_is_not_done : (why : Refusal) → outcome_of (Some why) ≡ outcome.Done → ⊥
input_is_not_done (refusal.Long file seen) e = cc
input_is_not_done (refusal.Missing file) e = cc
input_is_not_done (refusal.Mesh fault) e = cc
input_is_not_done (refusal.Shape fault) e = cc
input_is_not_done (refusal.Meets pair) e = cc
input_is_not_done (refusal.Steps fault) e = cc
input_is_not_done (refusal.StepUse line why) e = cc

refusal_is_not_done : (why : LogRefusal) → outcome_by_log (Ok (Some why)) ≡ outcome.Done → ⊥
refusal_is_not_done (log.Input why) e = input_is_not_done why e
refusal_is_not_done (log.Log fault) e = cc
refusal_is_not_done (log.Proof fault) e = cc
refusal_is_not_done (log.Replay line) e = cc
refusal_is_not_done (log.Motion line verdict) e = cc

stop_is_not_done : (s : Stop) → outcome_by_log (Err s) ≡ outcome.Done → ⊥
stop_is_not_done stop.NoMemory e = cc
stop_is_not_done stop.DeskFault e = cc
stop_is_not_done stop.SinkFault e = cc

-- a command that reads a log is done where it refused nothing
done_refuses_nothing : (ended : Result (Option LogRefusal) Stop) → outcome_by_log ended ≡ outcome.Done → ended ≡ Ok None
done_refuses_nothing (Ok None) e = refl
done_refuses_nothing (Ok (Some why)) e = absurd (refusal_is_not_done why e)
done_refuses_nothing (Err s) e = absurd (stop_is_not_done s e)

pub meshes_are_stored_again : (known : Known) → MeshesOfRunsAreStoredAgain known
meshes_are_stored_again known scale mesh_name step_name to tracked before after track lists directives clear names result old new run is only done =
    let job = track.job in
    let m = mesh_of_lists job.scale lists in
    let lines : List LogLine = (log_of job track.tracks.answers).lines in
    let again : Target = target_in names in
    let ended : run.ended ≡ Ok None = done_refuses_nothing run.ended (sym run.outcome_is ∙ done) in
    let comes : ComesToEnd names.only again (input_of run.replays.job) None old.holds new.holds =
    subst (λ (e : Result (Option LogRefusal) Stop). IsReplayOf names.only again (input_of run.replays.job) old.holds new.holds e) ended run.replays.done in
    let given : input_of run.replays.job ≡ Ok (record { mesh = m; lines = lines }) =
    given_is job lists directives clear track.tracks.answers run.replays.job is track.read_back in
    let decimals : names.names.decimals ≡ to.decimals = sym run.replays.is_job.decimals_are ∙ is.decimals ∙ track.is_job.decimals_are in
    let texts : texts_stored names.only again (input_of run.replays.job) None ≡ files_of (record to { prefix = names.prefix }) (at_mesh m) lines =
    ap (λ (o : Option ℕ). texts_stored o again (input_of run.replays.job) None) only
    ∙ ap (λ (i : Result LogInput LogRefusal). texts_stored None again i None) given
    ∙ each_wanted again (at_mesh m) lines
    ∙ ap (λ (d : ℕ). files_of (record { prefix = names.prefix; decimals = d }) (at_mesh m) lines) decimals in
    let mesh : at_mesh m ≡ at_mesh (mesh_of_job job) = ap at_mesh (sym (mesh_is job lists directives clear)) in
    comes.files ∙ ap (λ (t : NamedTexts). stored t old.holds.files)
    (texts ∙ ap (λ r. files_of (record to { prefix = names.prefix }) r lines) mesh)
