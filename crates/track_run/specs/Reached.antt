-- Where a run of a job stands between two directives, and what holds there.
use Rattle.std.specs.Prelude.{◌≡◌, List, ◌++◌}
use Rattle.step_choose.specs.Settings.{AreWithinLimits}
use Rattle.obj_text.specs.Obj.{Lists}
use Rattle.step_text.specs.declared.Placed.{Placed}
use Rattle.log_text.specs.declared.LogLine.{LogLine}
use Rattle.log_replay.specs.Replay.{after}
use Rattle.track_input.specs.Job.{Job, mesh_of_lists}
use Rattle.track_engine.specs.State.{State, start, standing}
use Rattle.track_engine.specs.Answers.{Answers}
use Rattle.track_engine.specs.Effects.{log_from}
use Rattle.track_engine.specs.Invariant.{IsRunInvariant}
use Rattle.track_run.specs.Job.{log_of, replay_of}
use Rattle.track_run.specs.Causes.{HasClear, Reaches}

-- a run of the job, answered so, stands there when the first of its directives are all taken
pub record IsReached (job : Job) (answers : Answers) (s : State) : Type 0 where
  pub lists : Lists
  pub directives : List Placed
  pub clear : HasClear job lists directives
  pub front : List Placed
  pub rest : List Placed
  pub split : directives ≡ front ++ rest
  pub reached : Reaches answers (start (mesh_of_lists job.scale lists)) front s

-- What holds where a run stands before the directives to come, to which the answers to come are
-- left: the log is the lines so far and then theirs, the replay of the lines so far stands there
-- too, and the settings are within their limits.
pub record AgreesWithReplay (job : Job) (answers : Answers) (s : State) (rest : List Placed)
    (left : Answers) : Type 0 where
  pub so_far : List LogLine
  pub log : (log_of job answers).lines ≡ so_far ++ (log_from left rest s).lines
  pub replay : after (replay_of job) so_far ≡ standing s
  pub kept : IsRunInvariant s
  pub limits : AreWithinLimits s.set
