-- Why a conversion ends as it does.
use Rattle.std.specs.Prelude.{◌≡◌, ◌≤◌, ℕ, List, length, Option, Some, None, Result, Ok, Err}
use Rattle.std.specs.FinMap.{get}
use Rattle.mesh_base.specs.declared.FileWord.TheVariants as file
use Rattle.mesh_base.specs.declared.limits.Scale.{Scale}
use Rattle.mesh_base.specs.Limits.{text_most}
use Rattle.mesh_shape.specs.Shape.{shape_fault}
use Rattle.obj_text.specs.Obj.{Lists}
use Rattle.log_text.specs.declared.Refusal.{Refusal}
use Rattle.log_text.specs.declared.Refusal.TheVariants as refusal
use Rattle.outside_io.specs.declared.stop.Stop.{Stop}
use Rattle.outside_io.specs.Desk.{Files}
use Rattle.track_input.specs.Source.{Bytes, Absent, TooLong}
use Rattle.track_input.specs.Words.{MeshName}
use Rattle.track_convert.specs.Formats.{lists_in}
use Rattle.track_convert.specs.Conversion.{Conversion}

-- the file is there, and its text gives these lists
pub record HasLists (c : Conversion) (lists : Lists) : Type 0 where
  pub bytes : List ℕ
  pub file : c.source ≡ Bytes bytes
  pub read : lists_in c.from c.decimals bytes ≡ Ok lists

-- Why a conversion has an ending. Each cause holds what must have gone well
-- before it, so no conversion has two.
abbrev pub Cause : Conversion → Result (Option Refusal) Stop → Type 0
Cause c (Ok None) =
    (lists : Lists) × HasLists c lists
    × (shape_fault c.scale (length lists.points) lists.faces ≡ None)
Cause c (Ok (Some (refusal.Long file.Mesh seen))) = c.source ≡ TooLong seen
Cause c (Ok (Some (refusal.Missing file.Mesh))) = c.source ≡ Absent
Cause c (Ok (Some (refusal.Mesh fault))) =
    (bytes : List ℕ) × (c.source ≡ Bytes bytes) × (lists_in c.from c.decimals bytes ≡ Err fault)
Cause c (Ok (Some (refusal.Shape fault))) =
    (lists : Lists) × HasLists c lists
    × (shape_fault c.scale (length lists.points) lists.faces ≡ Some fault)
-- no other refusal is told
Cause c (Ok (Some why)) = ⊥
-- want of memory and faults stop a conversion, whatever its file
Cause c (Err fault) = Unit {0}

-- the conversion was stopped before its line was whole
abbrev pub IsStopped : Result (Option Refusal) Stop → Type 0
IsStopped (Ok ending) = ⊥
IsStopped (Err fault) = Unit {0}

-- the desk tells a file of that name, which is no longer than a text may be, within the grammar
-- of its format, and of good shape
pub record IsConvertible (scale : Scale) (files : Option Files) (from : MeshName)
    (decimals : ℕ) : Type 0 where
  pub told : Files
  pub files_are : files ≡ Some told
  pub bytes : List ℕ
  pub file : get told from.name ≡ Some bytes
  pub small : length bytes ≤ text_most scale
  pub lists : Lists
  pub read : lists_in from.format decimals bytes ≡ Ok lists
  pub good : shape_fault scale (length lists.points) lists.faces ≡ None
