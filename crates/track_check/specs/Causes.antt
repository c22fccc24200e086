-- Why a check ends as it does.
use Rattle.std.specs.Prelude.{◌≡◌, ◌≤◌, ℕ, List, length, Option, Some, None, Result, Ok, Err}
use Rattle.std.specs.FinMap.{get}
use Rattle.mesh_base.specs.declared.FileWord.TheVariants as file
use Rattle.mesh_base.specs.declared.limits.Scale.{Scale}
use Rattle.mesh_base.specs.Limits.{text_most}
use Rattle.mesh_shape.specs.Shape.{shape_fault}
use Rattle.obj_text.specs.Obj.{Lists}
use Rattle.log_text.specs.declared.Refusal.{Refusal}
use Rattle.log_text.specs.declared.Refusal.TheVariants as refusal
use Rattle.outside_io.specs.declared.stop.Stop.{Stop}
use Rattle.outside_io.specs.Desk.{Files}
use Rattle.track_input.specs.Job.{mesh_of_lists, met_first}
use Rattle.track_input.specs.Source.{Bytes, Absent, TooLong}
use Rattle.track_input.specs.Words.{MeshName}
use Rattle.track_convert.specs.Formats.{lists_in}
use Rattle.track_check.specs.Check.{Check}

-- the file is there, and its text gives these lists
pub record HasLists (c : Check) (lists : Lists) : Type 0 where
  pub bytes : List ℕ
  pub file : c.source ≡ Bytes bytes
  pub read : lists_in c.format c.decimals bytes ≡ Ok lists

-- Why a check has an ending: that of a run that takes the mesh, as far as the mesh
-- alone decides it. No check has two.
abbrev pub Cause : Check → Result (Option Refusal) Stop → Type 0
Cause c (Ok None) =
    (lists : Lists) × HasLists c lists
    × (shape_fault c.scale (length lists.points) lists.faces ≡ None)
    × (met_first (mesh_of_lists c.scale lists) ≡ None)
Cause c (Ok (Some (refusal.Long file.Mesh seen))) = c.source ≡ TooLong seen
Cause c (Ok (Some (refusal.Missing file.Mesh))) = c.source ≡ Absent
Cause c (Ok (Some (refusal.Mesh fault))) =
    (bytes : List ℕ) × (c.source ≡ Bytes bytes) × (lists_in c.format c.decimals bytes ≡ Err fault)
Cause c (Ok (Some (refusal.Shape fault))) =
    (lists : Lists) × HasLists c lists
    × (shape_fault c.scale (length lists.points) lists.faces ≡ Some fault)
Cause c (Ok (Some (refusal.Meets pair))) =
    (lists : Lists) × HasLists c lists
    × (shape_fault c.scale (length lists.points) lists.faces ≡ None)
    × (met_first (mesh_of_lists c.scale lists) ≡ Some pair)
-- no other refusal is told
Cause c (Ok (Some why)) = ⊥
-- want of memory and faults stop a check, whatever its file
Cause c (Err fault) = Unit {0}

-- the check was stopped before its text was whole
abbrev pub IsStopped : Result (Option Refusal) Stop → Type 0
IsStopped (Ok ending) = ⊥
IsStopped (Err fault) = Unit {0}

-- the desk tells a file of that name, which is no longer than a text may be, and
-- within the grammar of its format
pub record IsReadable (scale : Scale) (files : Option Files) (mesh : MeshName)
    (decimals : ℕ) : Type 0 where
  pub told : Files
  pub files_are : files ≡ Some told
  pub bytes : List ℕ
  pub file : get told mesh.name ≡ Some bytes
  pub small : length bytes ≤ text_most scale
  pub lists : Lists
  pub read : lists_in mesh.format decimals bytes ≡ Ok lists
