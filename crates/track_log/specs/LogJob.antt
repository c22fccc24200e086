-- A mesh and a log that is said to begin with it: two files, the decimals of
-- the points and how large meshes and texts may be, and what they give.
use Rattle.std.specs.Prelude.{◌≡◌, ℕ, List, length, Option, Some, None, Result, Ok, Err}
use Rattle.mesh_base.specs.declared.PairName.{PairName}
use Rattle.mesh_base.specs.declared.ShapeFault.{ShapeFault}
use Rattle.mesh_base.specs.declared.FileWord.TheVariants as file
use Rattle.mesh_base.specs.declared.Scale.{Scale}
use Rattle.mesh_base.specs.Mesh.{Mesh}
use Rattle.mesh_shape.specs.Shape.{shape_fault}
use Rattle.line_text.specs.declared.TextFault.{TextFault}
use Rattle.obj_text.specs.Obj.{Lists, lists_of}
use Rattle.log_text.specs.declared.LogLine.{LogLine}
use Rattle.log_text.specs.declared.Refusal.TheVariants as refusal
use Rattle.log_read.specs.Reading.{log_of}
use Rattle.outside_io.specs.Desk.{Files}
use Rattle.track_input.specs.Source.{Source, Bytes, Absent, TooLong, IsSource}
use Rattle.track_input.specs.Words.{LogNames}
use Rattle.track_input.specs.Job.{mesh_of_lists, met_first}
use Rattle.track_log.specs.declared.refusal.LogRefusal.{LogRefusal}
use Rattle.track_log.specs.declared.refusal.LogRefusal.TheVariants.{Input, Log}

-- the two files, the decimals of the points, and how large meshes and texts may be
pub record LogJob : Type 0 where
  pub mesh_file : Source
  pub log_file : Source
  pub scale : Scale
  pub decimals : ℕ

-- the job of these names, where the desk holds these files
pub record IsLogJob (files : Option Files) (names : LogNames) (job : LogJob) : Type 0 where
  pub mesh : IsSource names.scale files names.mesh job.mesh_file
  pub log : IsSource names.scale files names.log job.log_file
  pub scale_is : job.scale ≡ names.scale
  pub decimals_are : job.decimals ≡ names.decimals

-- the bytes of a mesh file and of the file of a log
pub record BothTexts : Type 0 where
  pub mesh : List ℕ
  pub log : List ℕ

-- what both texts give that are read without a fault: lists of good shape, and the lines of a log
pub record TextsRead : Type 0 where
  pub lists : Lists
  pub lines : List LogLine

-- what a job gives of which nothing is refused before its lines are taken: a mesh of which no edge
-- meets a face that shares no vertex with it, and the lines of a log
pub record LogInput : Type 0 where
  pub mesh : Mesh
  pub lines : List LogLine

-- ---- what is given, or the first refusal that applies, in the order in which the work is done:
-- both files are fetched, the mesh's text is read, its shape is tested, the log's text is read, and
-- the mesh is tested for a pair that meets

-- the lines of the log beside the lists of the mesh
abbrev pub read_of_log : Lists → Result (List LogLine) TextFault → Result TextsRead LogRefusal
read_of_log lists (Err fault) = Err (Log fault)
read_of_log lists (Ok lines) = Ok (record { lists = lists; lines = lines })

-- what is read after the shape was looked at
abbrev pub read_of_shape : Scale → Lists → Option ShapeFault → List ℕ → Result TextsRead LogRefusal
read_of_shape scale lists (Some fault) log = Err (Input (refusal.Shape fault))
read_of_shape scale lists None log = read_of_log lists (log_of scale log)

-- what is read after the text of the mesh
abbrev pub read_of_lists : Scale → Result Lists TextFault → List ℕ → Result TextsRead LogRefusal
read_of_lists scale (Err fault) log = Err (Input (refusal.Mesh fault))
read_of_lists scale (Ok lists) log =
    read_of_shape scale lists (shape_fault scale (length lists.points) lists.faces) log

-- the bytes of both files, or the first of the two that is missing or too long
abbrev pub fetched_of : Source → Source → Result BothTexts LogRefusal
fetched_of (TooLong seen) log = Err (Input (refusal.Long file.Mesh seen))
fetched_of Absent log = Err (Input (refusal.Missing file.Mesh))
fetched_of (Bytes mesh) (TooLong seen) = Err (Input (refusal.Long file.Log seen))
fetched_of (Bytes mesh) Absent = Err (Input (refusal.Missing file.Log))
fetched_of (Bytes mesh) (Bytes log) = Ok (record { mesh = mesh; log = log })

-- the texts of bytes that were fetched
abbrev pub read_of_fetched : Scale → ℕ → Result BothTexts LogRefusal → Result TextsRead LogRefusal
read_of_fetched scale decimals (Err why) = Err why
read_of_fetched scale decimals (Ok both) =
    read_of_lists scale (lists_of decimals both.mesh) both.log

-- the texts of two files
abbrev pub read_of_files : Scale → ℕ → Source → Source → Result TextsRead LogRefusal
read_of_files scale decimals mesh log = read_of_fetched scale decimals (fetched_of mesh log)

-- the texts of a job
abbrev pub read_of : LogJob → Result TextsRead LogRefusal
read_of job = read_of_files job.scale job.decimals job.mesh_file job.log_file

-- a mesh and a log, after the mesh was tested
abbrev pub input_of_test : Mesh → Option PairName → List LogLine → Result LogInput LogRefusal
input_of_test m (Some pair) lines = Err (Input (refusal.Meets pair))
input_of_test m None lines = Ok (record { mesh = m; lines = lines })

-- a mesh and a log, of the texts that were read
abbrev pub input_of_read : Scale → Result TextsRead LogRefusal → Result LogInput LogRefusal
input_of_read scale (Err why) = Err why
input_of_read scale (Ok texts) =
    let m = mesh_of_lists scale texts.lists in input_of_test m (met_first m) texts.lines

-- the mesh and the log of a job
abbrev pub input_of : LogJob → Result LogInput LogRefusal
input_of job = input_of_read job.scale (read_of job)
