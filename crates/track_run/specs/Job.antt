-- The log of a job.
use Rattle.std.specs.Prelude.{List, [], ◌∷◌, Option, Some, None, Result, Ok, Err}
use Rattle.mesh_base.specs.declared.PairName.{PairName}
use Rattle.mesh_base.specs.declared.Scale.{Scale}
use Rattle.mesh_base.specs.Mesh.{Mesh}
use Rattle.step_text.specs.declared.Placed.{Placed}
use Rattle.log_text.specs.declared.TheConstants.{VERSION}
use Rattle.log_text.specs.declared.Refusal.{Refusal}
use Rattle.log_text.specs.declared.Refusal.TheVariants as refusal
use Rattle.log_text.specs.declared.LogLine.TheVariants.{First}
use Rattle.log_replay.specs.Replay.{Replay, at_mesh}
use Rattle.track_input.specs.Job.{Job, Input, input_of, mesh_of_lists, mesh_of_job, met_first}
use Rattle.track_engine.specs.Answers.{Answers}
use Rattle.track_engine.specs.Effects.{ExpectedLog, with_log, log_of_mesh, refused}

-- the log from the test of the mesh on
abbrev pub log_of_test : Answers → Mesh → List Placed → Option PairName → ExpectedLog
log_of_test answers m steps (Some pair) = refused (refusal.Meets pair)
log_of_test answers m steps None = log_of_mesh answers m steps

-- the log of what was read: the refusal, or the test of the mesh, and then the directives
abbrev pub log_of_input : Scale → Answers → Result Input Refusal → ExpectedLog
log_of_input scale answers (Err why) = refused why
log_of_input scale answers (Ok input) =
    let m = mesh_of_lists scale input.lists in log_of_test answers m input.steps (met_first m)

-- The log of a job, as far as its directives are answered, and how it ends: it is the whole log,
-- or cut short before the first drive that is not answered, or in the first pass by the sizing
-- that is not answered to its end.
abbrev pub log_of : Job → Answers → ExpectedLog
log_of job answers = with_log (First VERSION ∷ []) (log_of_input job.scale answers (input_of job))

-- the replay begins with the mesh of the job
abbrev pub replay_of : Job → Replay
replay_of job = at_mesh (mesh_of_job job)
