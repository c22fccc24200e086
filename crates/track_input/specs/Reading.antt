-- What reading two files answers.
use Rattle.std.specs.Prelude.{◌≡◌, ◌<◌, ℕ, ◌^◌, List, length, Option, None, Result, Ok, Err}
use Rattle.mesh_base.specs.declared.MeshLists.{MeshLists}
use Rattle.mesh_base.specs.Mesh.{Mesh}
use Rattle.mesh_base.specs.declared.Scale.{Scale}
use Rattle.mesh_base.specs.Given.{mesh_under}
use Rattle.mesh_shape.specs.Shape.{shape_fault}
use Rattle.obj_text.specs.Obj.{lists_of}
use Rattle.obj_text.specs.Views.{lists_view}
use Rattle.step_text.specs.declared.Placed.{Placed}
use Rattle.step_text.specs.Ranges.{AreInRange}
use Rattle.log_text.specs.declared.Refusal.{Refusal}
use Rattle.outside_io.specs.Desk.{Files}
use Rattle.track_input.specs.declared.inputs.Ready.{Ready}
use Rattle.track_input.specs.declared.inputs.Ready.TheVariants as ready
use Rattle.track_input.specs.Job.{Job, IsJob, Input, input_of, input_of_lists, mesh_of_job, mesh_read}

-- the mesh of lists that were read, with the limits of a scale
abbrev pub given : Scale → MeshLists → Mesh
given scale lists = mesh_under scale lists.points lists.faces

-- the lists are of good shape, and within these limits
abbrev pub AreGood : Scale → MeshLists → Type 0
AreGood scale lists = shape_fault scale (length lists.points) lists.faces ≡ None

-- what was read, as a job gives it
abbrev pub input_by : Ready → Result Input Refusal
input_by (ready.No why) = Err why
input_by (ready.Yes lists steps) = Ok (record { lists = lists_view lists; steps = steps })

-- The lists are of good shape and make this mesh, and the directives are few
-- and set nothing beyond its limits.
pub record IsReadyAt (scale : Scale) (m : Mesh) (lists : MeshLists)
    (steps : List Placed) : Type 0 where
  pub mesh : given scale lists ≡ m
  pub good : AreGood scale lists
  pub few : length steps < 2 ^ 31
  pub ranges : AreInRange steps

-- what was read without a fault is ready
abbrev pub IsReady : Scale → Mesh → Ready → Type 0
IsReady scale m (ready.No why) = Unit {0}
IsReady scale m (ready.Yes lists steps) = IsReadyAt scale m lists steps

-- what two texts give
pub record Reads (scale : Scale) (decimals : ℕ) (mesh steps : List ℕ)
    (found : Ready) : Type 0 where
  pub input : input_of_lists scale (lists_of decimals mesh) steps ≡ input_by found
  pub ready : IsReady scale (mesh_read scale (lists_of decimals mesh)) found

-- what the files of two names give: what was read is what their job
-- gives, and its mesh is the job's
pub record Prepares (scale : Scale) (files : Option Files) (mesh_name step_name : List ℕ)
    (decimals : ℕ) (found : Ready) : Type 0 where
  pub job : Job
  pub is_job : IsJob scale files mesh_name step_name decimals job
  pub input : input_of job ≡ input_by found
  pub ready : IsReady scale (mesh_of_job job) found
