-- Jobs of which nothing is refused, and how a run of one ends.
use Rattle.std.specs.Prelude.{◌≡◌, ◌≤◌, ◌⊎◌, ℕ, true, List, length, Option, Some, None, Ok}
use Rattle.std.specs.FinMap.{get}
use Rattle.std.specs.Fn.{Shared}
use Rattle.grid_base.specs.declared.Point.{Point}
use Rattle.grid_base.specs.declared.Shift.{Shift}
use Rattle.mesh_field.specs.Stored.{StoredFields}
use Rattle.mesh_sizing.specs.declared.sizing.Band.{Band}
use Rattle.mesh_base.specs.declared.Scale.{Scale}
use Rattle.mesh_base.specs.Limits.{text_most}
use Rattle.mesh_base.specs.Placements.{IsClearMesh}
use Rattle.mesh_shape.specs.Shape.{shape_fault}
use Rattle.obj_text.specs.Obj.{Lists, lists_of}
use Rattle.step_text.specs.declared.Placed.{Placed}
use Rattle.step_text.specs.Steps.{steps_of}
use Rattle.outside_io.specs.Causes.{Rose}
use Rattle.outside_io.specs.Desk.{Files}
use Rattle.track_input.specs.Job.{mesh_of_lists}
use Rattle.track_engine.specs.State.{State, start}
use Rattle.track_engine.specs.Answers.{Answers}
use Rattle.track_engine.specs.Answered.{Known, known, AreAnswered}
use Rattle.track_engine.specs.Saved.{Target}
use Rattle.track_engine.specs.World.{World}
use Rattle.track_run.specs.declared.outcome.Outcome.{Outcome}
use Rattle.track_run.specs.declared.outcome.Outcome.TheVariants.{Done, NoMemory}
use Rattle.track_run.specs.Causes.{Reaches}
use Rattle.track_run.specs.Headline.{TracksCommand, TriesCommand}

-- the desk tells a file of that name, which is no longer than a text of a job of this scale may be
pub record IsHeld (scale : Scale) (files : Option Files) (name bytes : List ℕ) : Type 0 where
  pub told : Files
  pub files_are : files ≡ Some told
  pub file : get told name ≡ Some bytes
  pub small : length bytes ≤ text_most scale

-- Nothing of the job of this scale and of two names is refused, where the desk tells these files:
-- both are there, no longer than a text may be, and are read without a fault; the mesh is of good
-- shape, and no edge of it meets a face that shares no vertex with it; and each directive is taken,
-- whatever the fields and the sizing may answer.
pub record IsLawful (scale : Scale) (fields : Known) (files : Option Files)
    (mesh_name step_name : List ℕ) (decimals : ℕ) : Type 0 where
  pub mesh : List ℕ
  pub steps : List ℕ
  pub mesh_file : IsHeld scale files mesh_name mesh
  pub step_file : IsHeld scale files step_name steps
  pub lists : Lists
  pub read : lists_of decimals mesh ≡ Ok lists
  pub good : shape_fault scale (length lists.points) lists.faces ≡ None
  pub clear : IsClearMesh (mesh_of_lists scale lists)
  pub directives : List Placed
  pub directed : steps_of steps ≡ Ok directives
  pub taken : (answers : Answers)
      → AreAnswered fields true answers directives (start (mesh_of_lists scale lists))
      → (end : State) × Reaches answers (start (mesh_of_lists scale lists)) directives end

-- neither side has failed; a count of faults that stands at its end can't tell
pub record NoneFailed (old new : World) : Type 0 where
  pub desk : ¬ Rose old.desk_faults new.desk_faults
  pub sink : ¬ Rose old.sink_faults new.sink_faults

-- Where neither side fails, a run of such a job is done, or finds no memory.
abbrev pub LawfulJobsAreDone : Known → Type 0
LawfulJobsAreDone fields =
    (scale : Scale) (mesh_name step_name : List ℕ) (to : Target) (result : Outcome)
    (old new : World)
    → TracksCommand scale fields mesh_name step_name to result old new
    → IsLawful scale fields old.holds.files mesh_name step_name to.decimals
    → NoneFailed old new
    → (result ≡ Done) ⊎ (result ≡ NoMemory)

-- That holds for each of the stored fields and each sizing, by these closures.
abbrev pub AllLawfulJobsAreDone : {F G : Type 0} → Shared F (ℕ × (Point × Unit {0})) Shift →
    Shared G (Point × Unit {0}) Band → Type 0
AllLawfulJobsAreDone {F} {G} closures sizings =
    (fields : StoredFields F) (sizing : G) →
    LawfulJobsAreDone (known closures fields sizings sizing)

-- Where the sink does not fail, a try is done, or finds no memory.
abbrev pub TriesAreDone : Type 0
TriesAreDone =
    (cubes key : ℕ) (result : Outcome) (old new : World)
    → TriesCommand cubes key result old new → ¬ Rose old.sink_faults new.sink_faults
    → (result ≡ Done) ⊎ (result ≡ NoMemory)
