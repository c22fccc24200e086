-- When answers are those of the stored fields and the sizing to the directives of a job.
use Rattle.std.specs.Prelude.{◌≡◌, Bool, is_ok, List, Option, None, Result, Ok, Err}
use Rattle.mesh_base.specs.declared.Scale.{Scale}
use Rattle.mesh_base.specs.Mesh.{Mesh}
use Rattle.step_text.specs.declared.Placed.{Placed}
use Rattle.log_text.specs.declared.Refusal.{Refusal}
use Rattle.log_replay.specs.Replay.{at_mesh}
use Rattle.track_input.specs.Job.{Input, mesh_of_lists, met_first}
use Rattle.outside_io.specs.declared.stop.Stop.{Stop}
use Rattle.track_engine.specs.State.{start}
use Rattle.track_engine.specs.Answers.{Answers}
use Rattle.track_engine.specs.Answered.{Known, AreAnswered}
use Rattle.track_engine.specs.Effects.{log_of_mesh}
use Rattle.track_engine.specs.Saved.{Target}
use Rattle.track_engine.specs.World.{Contents, Follows}
use Rattle.track_run.specs.Job.{log_of_test}

-- the directives of what was read are answered so, from where they
-- begin, if no pair of its mesh meets
abbrev pub IsInputAnswered : Scale → Known → Bool → Answers → Result Input Refusal → Type 0
IsInputAnswered scale fields whole answers (Err why) = Unit {0}
IsInputAnswered scale fields whole answers (Ok input) =
    let m = mesh_of_lists scale input.lists in
    met_first m ≡ None → AreAnswered fields whole answers input.steps (start m)

-- ---- what parts of a run do, as the fields and the sizing answer

-- the mesh is saved and the directives are followed
pub record FollowsMesh (fields : Known) (to : Target) (m : Mesh) (steps : List Placed)
    (old new : Contents) (result : Result (Option Refusal) Stop) : Type 0 where
  pub answers : Answers
  pub answered : AreAnswered fields (is_ok result) answers steps (start m)
  pub follows : Follows to (at_mesh m) (log_of_mesh answers m steps) old new result

-- the mesh is tested, and then the same, where no pair meets
pub record FollowsTest (fields : Known) (to : Target) (m : Mesh) (steps : List Placed)
    (old new : Contents) (result : Result (Option Refusal) Stop) : Type 0 where
  pub answers : Answers
  pub answered : met_first m ≡ None → AreAnswered fields (is_ok result) answers steps (start m)
  pub follows : Follows to (at_mesh m) (log_of_test answers m steps (met_first m)) old new result
