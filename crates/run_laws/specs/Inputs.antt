-- What the two files of a job give is in the log's ranges, as statements.
use Rattle.std.specs.Prelude.{◌+◌, ◌≤◌, List, ◌∷◌, length, Result, Ok, Err}
use Rattle.std.specs.List.{All}
use Rattle.grid_base.specs.declared.TheConstants.{TEXT_MAX}
use Rattle.mesh_base.specs.declared.Scale.{Scale}
use Rattle.mesh_base.specs.Mesh.{Mesh, IsSound}
use Rattle.mesh_base.specs.Sides.{IsClosed}
use Rattle.mesh_base.specs.Valid.{IsValidSurface}
use Rattle.step_text.specs.declared.Placed.{Placed}
use Rattle.log_text.specs.declared.Refusal.{Refusal}
use Rattle.log_text.specs.declared.TheConstants.{COUNT_MAX, SEEN_MAX}
use Rattle.log_read.specs.Laws.{IsRefusalInRange}
use Rattle.log_replay.specs.Laws.{IsWithin}
use Rattle.run_laws.specs.Lines.{AreInRange}
use Rattle.run_laws.specs.Texts.{IsPlacedInRange}
use Rattle.track_input.specs.Source.{Source, Bytes, Absent, TooLong}
use Rattle.track_input.specs.Job.{Job, Input, input_of, mesh_of_lists}
use Rattle.track_engine.specs.State.{start}
use Rattle.track_engine.specs.Answers.{Answers}
use Rattle.track_engine.specs.Effects.{mesh_line, log_from}

-- what was fetched has at most as many bytes as may be read, or is seen to
-- have more, in a number of the log
abbrev pub IsSeen : Source → Type 0
IsSeen (Bytes bytes) = length bytes ≤ TEXT_MAX
IsSeen Absent = Unit {0}
IsSeen (TooLong seen) = seen ≤ SEEN_MAX

-- directives in range, fewer than a log can count
pub record AreCounted (steps : List Placed) : Type 0 where
  pub placed : All IsPlacedInRange steps
  pub few : length steps + 1 ≤ COUNT_MAX

-- a sound and closed mesh, by how large it may be, and such directives
pub record IsReadInRange (scale : Scale) (input : Input) : Type 0 where
  pub sound : IsSound (mesh_of_lists scale input.lists)
  pub closed : IsClosed (mesh_of_lists scale input.lists)
  pub steps : AreCounted input.steps

-- that, or the refusal
abbrev pub IsInputInRange : Scale → Result Input Refusal → Type 0
IsInputInRange scale (Ok input) = IsReadInRange scale input
IsInputInRange scale (Err why) = IsRefusalInRange why

-- what a job gives
abbrev pub InputsAreInRange : Type 0
InputsAreInRange =
    (job : Job) → IsSeen job.mesh_file → IsSeen job.step_file →
    IsInputInRange job.scale (input_of job)

-- the log of a mesh within the limits of a scale and of directives, from the line of the mesh on,
-- whatever is given to the directives
abbrev pub LogsOfMeshesAreInRange : Type 0
LogsOfMeshesAreInRange =
    (scale : Scale) (answers : Answers) (m : Mesh) (steps : List Placed) →
    IsWithin scale m.limits → IsValidSurface m → AreCounted steps →
    AreInRange scale (mesh_line 0 m ∷ (log_from answers steps (start m)).lines)
