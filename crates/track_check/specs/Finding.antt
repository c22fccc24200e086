-- What the code found, as a check gives it.
use Rattle.std.specs.Prelude.{◌≡◌, ℕ, List, Option, Result, Ok, Err}
use Rattle.mesh_base.specs.declared.limits.Scale.{Scale}
use Rattle.obj_text.specs.Obj.{Lists}
use Rattle.obj_text.specs.Views.{lists_view}
use Rattle.log_text.specs.declared.Refusal.{Refusal}
use Rattle.outside_io.specs.Desk.{Files}
use Rattle.track_input.specs.declared.Format.{Format}
use Rattle.track_input.specs.Words.{MeshName}
use Rattle.track_convert.specs.Formats.{lists_in}
use Rattle.track_check.specs.declared.file_lists.FileLists.{FileLists}
use Rattle.track_check.specs.declared.file_lists.FileLists.TheVariants as found
use Rattle.track_check.specs.Check.{Check, IsCheck, found_of_lists, found_by}

-- what was found, as lists or a refusal
abbrev pub found_view : FileLists → Result Lists Refusal
found_view (found.No why) = Err why
found_view (found.Lists lists) = Ok (lists_view lists)

-- what a text gives
abbrev pub Reads : Format → ℕ → List ℕ → FileLists → Type 0
Reads format decimals bytes found =
    found_of_lists (lists_in format decimals bytes) ≡ found_view found

-- what the file of a name gives
pub record Finds (scale : Scale) (files : Option Files) (mesh : MeshName) (decimals : ℕ)
    (found : FileLists) : Type 0 where
  pub check : Check
  pub is_check : IsCheck scale files mesh decimals check
  pub given : found_by check ≡ found_view found
