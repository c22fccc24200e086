-- A check of a mesh file, and what it tells.
use Rattle.std.specs.Prelude.{◌≡◌, ℕ, List, [], ◌∷◌, ◌++◌, length, map, take, slice_get}
use Rattle.std.specs.Prelude.{option_map, codes, decimal, Option, Some, Result, Ok, Err}
use Rattle.std.specs.List.{flat_map}
use Rattle.line_text.specs.declared.TextFault.{TextFault}
use Rattle.line_text.specs.WrittenLines.{line_of_words}
use Rattle.mesh_base.specs.declared.FileWord.TheVariants as file
use Rattle.mesh_base.specs.declared.PairName.{PairName}
use Rattle.mesh_base.specs.declared.ShapeFault.{ShapeFault}
use Rattle.mesh_base.specs.declared.limits.Scale.{Scale}
use Rattle.mesh_base.specs.Mesh.{Mesh}
use Rattle.mesh_shape.specs.ShapeFaults.{shape_faults}
use Rattle.mesh_faults.specs.MeetingPairs.{meeting_pairs}
use Rattle.obj_text.specs.Obj.{Lists}
use Rattle.log_text.specs.declared.LogLine.TheVariants.{Refused}
use Rattle.log_text.specs.declared.Refusal.{Refusal}
use Rattle.log_text.specs.declared.Refusal.TheVariants as refusal
use Rattle.log_text.specs.Lines.{pair_words, shape_words, text_of_line}
use Rattle.outside_io.specs.Desk.{Files}
use Rattle.track_input.specs.declared.Format.{Format}
use Rattle.track_input.specs.Job.{mesh_of_lists}
use Rattle.track_input.specs.Source.{Source, Bytes, Absent, TooLong, IsSource}
use Rattle.track_input.specs.Words.{MeshName}
use Rattle.track_convert.specs.Formats.{lists_in}
use Rattle.track_check.specs.declared.fault.Fault.{Fault}
use Rattle.track_check.specs.declared.fault.Fault.TheVariants as fault

-- how large the mesh may be, what the fetch of a file answers, the format of its text, and the
-- decimals of the points
pub record Check : Type 0 where
  pub scale : Scale
  pub source : Source
  pub format : Format
  pub decimals : ℕ

-- the check of a file, where the desk holds these
pub record IsCheck (scale : Scale) (files : Option Files) (mesh : MeshName) (decimals : ℕ)
    (c : Check) : Type 0 where
  pub scale_is : c.scale ≡ scale
  pub source : IsSource scale files mesh.name c.source
  pub format_is : c.format ≡ mesh.format
  pub decimals_are : c.decimals ≡ decimals

-- ---- what the file gives: lists of whatever shape, or the refusal of the file

-- what the text of the mesh gives
abbrev pub found_of_lists : Result Lists TextFault → Result Lists Refusal
found_of_lists (Err fault) = Err (refusal.Mesh fault)
found_of_lists (Ok lists) = Ok lists

-- what the file gives
abbrev pub found_of_file : Format → ℕ → Source → Result Lists Refusal
found_of_file format decimals (TooLong seen) = Err (refusal.Long file.Mesh seen)
found_of_file format decimals Absent = Err (refusal.Missing file.Mesh)
found_of_file format decimals (Bytes bytes) = found_of_lists (lists_in format decimals bytes)

-- what the file of a check gives
abbrev pub found_by : Check → Result Lists Refusal
found_by c = found_of_file c.format c.decimals c.source

-- ---- what is wrong with lists

-- a fault of shape
abbrev pub shape_as_fault : ShapeFault → Fault
shape_as_fault f = fault.Shape f

-- a pair that meets
abbrev pub pair_as_fault : PairName → Fault
pair_as_fault p = fault.Meets p

-- all faults of shape; where there is none, all pairs that meet
abbrev pub faults_by : List ShapeFault → Mesh → List Fault
faults_by [] m = map pair_as_fault (meeting_pairs m)
faults_by (first ∷ others) m = map shape_as_fault (first ∷ others)

-- all that is wrong with lists, at a scale
abbrev pub faults_in : Scale → Lists → List Fault
faults_in scale lists =
    faults_by (shape_faults scale (length lists.points) lists.faces) (mesh_of_lists scale lists)

-- those that are told, the first million
abbrev pub faults_told : Scale → Lists → List Fault
faults_told scale lists = take 1000000 (faults_in scale lists)

-- a fault as the refusal of a run that finds it first
abbrev pub refusal_of : Fault → Refusal
refusal_of (fault.Shape f) = refusal.Shape f
refusal_of (fault.Meets pair) = refusal.Meets pair

-- ---- the lines that are written

-- shape and what it lacks, or meets and the pair
abbrev pub fault_words : Fault → List (List ℕ)
fault_words (fault.Shape f) = codes "shape" ∷ shape_words f
fault_words (fault.Meets pair) = codes "meets" ∷ pair_words pair

-- the line of a fault
abbrev pub fault_line : Fault → List ℕ
fault_line f = line_of_words (fault_words f)

-- checked V F faults M, the numbers of points, of faces, and of the lines of faults before it
abbrev pub checked_line : Lists → ℕ → List ℕ
checked_line lists count =
    line_of_words (codes "checked" ∷ decimal (length lists.points) ∷ decimal (length lists.faces)
    ∷ codes "faults" ∷ decimal count ∷ [])

-- a line for each fault, and the last line
abbrev pub report_of : Lists → List Fault → List ℕ
report_of lists faults = flat_map fault_line faults ++ checked_line lists (length faults)

-- that, or the line of the refusal
abbrev pub text_told : Scale → Result Lists Refusal → List ℕ
text_told scale (Ok lists) = report_of lists (faults_told scale lists)
text_told scale (Err why) = text_of_line (Refused why)

-- the first fault, if there is one, or the refusal
abbrev pub ending_told : Scale → Result Lists Refusal → Option Refusal
ending_told scale (Ok lists) = option_map refusal_of (slice_get (faults_in scale lists) 0)
ending_told scale (Err why) = Some why
