-- What the code found, as a conversion gives it.
use Rattle.std.specs.Prelude.{◌≡◌, ℕ, List, length, Option, None, Result, Ok, Err}
use Rattle.mesh_base.specs.declared.limits.Scale.{Scale}
use Rattle.mesh_shape.specs.Shape.{shape_fault}
use Rattle.obj_text.specs.Obj.{Lists}
use Rattle.obj_text.specs.Views.{lists_view}
use Rattle.log_text.specs.declared.Refusal.{Refusal}
use Rattle.outside_io.specs.Desk.{Files}
use Rattle.track_input.specs.declared.Format.{Format}
use Rattle.track_input.specs.Words.{MeshName}
use Rattle.track_convert.specs.declared.file_lists.FileLists.{FileLists}
use Rattle.track_convert.specs.declared.file_lists.FileLists.TheVariants as found
use Rattle.track_convert.specs.Formats.{lists_in}
use Rattle.track_convert.specs.Conversion.{Conversion, IsConversion, found_of_lists, found_by}

-- what was found, as lists or a refusal
abbrev pub found_view : FileLists → Result Lists Refusal
found_view (found.No why) = Err why
found_view (found.Lists lists) = Ok (lists_view lists)

-- lists that were found are of good shape
abbrev pub IsGood : Scale → FileLists → Type 0
IsGood scale (found.No why) = Unit {0}
IsGood scale (found.Lists lists) = shape_fault scale (length lists.points) lists.faces ≡ None

-- what a text gives
pub record Reads (scale : Scale) (from : Format) (decimals : ℕ) (bytes : List ℕ)
    (found : FileLists) : Type 0 where
  pub given : found_of_lists scale (lists_in from decimals bytes) ≡ found_view found
  pub good : IsGood scale found

-- what the file of a name gives
pub record Finds (scale : Scale) (files : Option Files) (from : MeshName) (decimals : ℕ)
    (found : FileLists) : Type 0 where
  pub conversion : Conversion
  pub is_conversion : IsConversion scale files from decimals conversion
  pub given : found_by conversion ≡ found_view found
  pub good : IsGood scale found
