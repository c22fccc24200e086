-- A job: two files, the decimals of the points and how large its meshes and texts may be, and
-- what they give.
use Rattle.std.specs.Prelude.{◌≡◌, ℕ, List, [], length, map, Option, Some, None, Result, Ok, Err}
use Rattle.grid_base.specs.Points.{point_at}
use Rattle.grid_decided.specs.Decided.{meets_exactly}
use Rattle.mesh_base.specs.declared.PairName.{PairName}
use Rattle.mesh_base.specs.declared.ShapeFault.{ShapeFault}
use Rattle.mesh_base.specs.declared.FileWord.TheVariants as file
use Rattle.mesh_base.specs.Mesh.{Mesh}
use Rattle.mesh_base.specs.declared.Scale.{Scale}
use Rattle.mesh_base.specs.Given.{mesh_under}
use Rattle.mesh_base.specs.Placements.{rest_positions}
use Rattle.mesh_base.specs.Failing.{first_meeting}
use Rattle.mesh_shape.specs.Shape.{shape_fault}
use Rattle.line_text.specs.declared.TextFault.{TextFault}
use Rattle.obj_text.specs.Obj.{Lists, lists_of}
use Rattle.step_text.specs.declared.Placed.{Placed}
use Rattle.step_text.specs.Steps.{steps_of}
use Rattle.log_text.specs.declared.Refusal.{Refusal}
use Rattle.log_text.specs.declared.Refusal.TheVariants as refusal
use Rattle.outside_io.specs.Desk.{Files}
use Rattle.track_input.specs.Source.{Source, Bytes, Absent, TooLong, IsSource}

-- the two files, the decimals of the points, and how large its meshes and texts may be
pub record Job : Type 0 where
  pub mesh_file : Source
  pub step_file : Source
  pub scale : Scale
  pub decimals : ℕ

-- the job of this scale, of two names and so many decimals, where the desk holds these files
pub record IsJob (scale : Scale) (files : Option Files) (mesh_name step_name : List ℕ)
    (decimals : ℕ) (job : Job) : Type 0 where
  pub mesh : IsSource scale files mesh_name job.mesh_file
  pub steps : IsSource scale files step_name job.step_file
  pub scale_is : job.scale ≡ scale
  pub decimals_are : job.decimals ≡ decimals

-- the mesh of lists that a text gave, with the limits of a scale
abbrev pub mesh_of_lists : Scale → Lists → Mesh
mesh_of_lists scale lists = mesh_under scale (map point_at lists.points) lists.faces

-- the mesh of the lists that were read, and the empty one where there was a fault
abbrev pub mesh_read : Scale → Result Lists TextFault → Mesh
mesh_read scale (Ok lists) = mesh_of_lists scale lists
mesh_read scale (Err fault) = mesh_under scale [] []

-- the mesh that a file gives
abbrev pub mesh_in : Scale → ℕ → Source → Mesh
mesh_in scale decimals (Bytes bytes) = mesh_read scale (lists_of decimals bytes)
mesh_in scale decimals _ = mesh_under scale [] []

-- the mesh of a job; the empty one, where its file gives none
abbrev pub mesh_of_job : Job → Mesh
mesh_of_job job = mesh_in job.scale job.decimals job.mesh_file

-- the first edge and face of a mesh that meet where its vertices stand
abbrev pub met_first : Mesh → Option PairName
met_first m = first_meeting meets_exactly m (rest_positions m)

-- what a job gives that is read without a fault: lists of good shape, and directives
pub record Input : Type 0 where
  pub lists : Lists
  pub steps : List Placed

-- what a job gives after its mesh: the directives, or the first bad line
abbrev pub input_of_steps : Lists → Result (List Placed) TextFault → Result Input Refusal
input_of_steps lists (Err fault) = Err (refusal.Steps fault)
input_of_steps lists (Ok steps) = Ok (record { lists = lists; steps = steps })

-- what it gives after the shape was looked at
abbrev pub input_of_shape : Lists → Option ShapeFault → List ℕ → Result Input Refusal
input_of_shape lists (Some fault) steps = Err (refusal.Shape fault)
input_of_shape lists None steps = input_of_steps lists (steps_of steps)

-- what it gives after the text of the mesh was read
abbrev pub input_of_lists : Scale → Result Lists TextFault → List ℕ → Result Input Refusal
input_of_lists scale (Err fault) steps = Err (refusal.Mesh fault)
input_of_lists scale (Ok lists) steps =
    input_of_shape lists (shape_fault scale (length lists.points) lists.faces) steps

-- what two files give, or the first refusal
abbrev pub input_of_files : Scale → ℕ → Source → Source → Result Input Refusal
input_of_files scale decimals (TooLong seen) steps = Err (refusal.Long file.Mesh seen)
input_of_files scale decimals Absent steps = Err (refusal.Missing file.Mesh)
input_of_files scale decimals (Bytes mesh) (TooLong seen) = Err (refusal.Long file.Steps seen)
input_of_files scale decimals (Bytes mesh) Absent = Err (refusal.Missing file.Steps)
input_of_files scale decimals (Bytes mesh) (Bytes steps) =
    input_of_lists scale (lists_of decimals mesh) steps

-- what a job gives, or the first refusal that applies, in the order in which the work is done
abbrev pub input_of : Job → Result Input Refusal
input_of job = input_of_files job.scale job.decimals job.mesh_file job.step_file
