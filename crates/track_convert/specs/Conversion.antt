-- A conversion, and what its file gives.
use Rattle.std.specs.Prelude.{◌≡◌, ℕ, List, [], ◌∷◌, length, codes, decimal, Option, Some, None, Result, Ok, Err}
use Rattle.line_text.specs.declared.TextFault.{TextFault}
use Rattle.line_text.specs.WrittenLines.{line_of_words}
use Rattle.mesh_base.specs.declared.ShapeFault.{ShapeFault}
use Rattle.mesh_base.specs.declared.limits.Scale.{Scale}
use Rattle.mesh_base.specs.declared.FileWord.TheVariants as file
use Rattle.mesh_shape.specs.Shape.{shape_fault}
use Rattle.obj_text.specs.Obj.{Lists}
use Rattle.log_text.specs.declared.LogLine.TheVariants.{Refused}
use Rattle.log_text.specs.declared.Refusal.{Refusal}
use Rattle.log_text.specs.declared.Refusal.TheVariants as refusal
use Rattle.log_text.specs.Lines.{text_of_line}
use Rattle.outside_io.specs.Desk.{Files}
use Rattle.track_input.specs.declared.Format.{Format}
use Rattle.track_input.specs.Source.{Source, Bytes, Absent, TooLong, IsSource}
use Rattle.track_input.specs.Words.{MeshName}
use Rattle.track_convert.specs.Formats.{lists_in}

-- how large the mesh may be, what the fetch of a file answers, the format of its text, and the
-- decimals of the points
pub record Conversion : Type 0 where
  pub scale : Scale
  pub source : Source
  pub from : Format
  pub decimals : ℕ

-- the conversion of a file, where the desk holds these
pub record IsConversion (scale : Scale) (files : Option Files) (from : MeshName) (decimals : ℕ)
    (c : Conversion) : Type 0 where
  pub scale_is : c.scale ≡ scale
  pub source : IsSource scale files from.name c.source
  pub from_is : c.from ≡ from.format
  pub decimals_are : c.decimals ≡ decimals

-- ---- what the file gives: lists of good shape, or the first refusal that applies, in
-- the order in which the work is done

-- lists, after their shape was looked at
abbrev pub found_of_shape : Lists → Option ShapeFault → Result Lists Refusal
found_of_shape lists (Some fault) = Err (refusal.Shape fault)
found_of_shape lists None = Ok lists

-- what the text of the mesh gives
abbrev pub found_of_lists : Scale → Result Lists TextFault → Result Lists Refusal
found_of_lists scale (Err fault) = Err (refusal.Mesh fault)
found_of_lists scale (Ok lists) =
    found_of_shape lists (shape_fault scale (length lists.points) lists.faces)

-- what the file gives
abbrev pub found_of_file : Scale → Format → ℕ → Source → Result Lists Refusal
found_of_file scale from decimals (TooLong seen) = Err (refusal.Long file.Mesh seen)
found_of_file scale from decimals Absent = Err (refusal.Missing file.Mesh)
found_of_file scale from decimals (Bytes bytes) =
    found_of_lists scale (lists_in from decimals bytes)

-- what the file of a conversion gives
abbrev pub found_by : Conversion → Result Lists Refusal
found_by c = found_of_file c.scale c.from c.decimals c.source

-- ---- the one line that is written

-- converted V F, the numbers of points and of faces
abbrev pub converted_line : Lists → List ℕ
converted_line lists =
    line_of_words
    (codes "converted" ∷ decimal (length lists.points) ∷ decimal (length lists.faces) ∷ [])

-- that line, or the line of the refusal
abbrev pub line_told : Result Lists Refusal → List ℕ
line_told (Ok lists) = converted_line lists
line_told (Err why) = text_of_line (Refused why)

-- the refusal that it tells, if it tells one
abbrev pub refusal_told : Result Lists Refusal → Option Refusal
refusal_told (Ok lists) = None
refusal_told (Err why) = Some why
