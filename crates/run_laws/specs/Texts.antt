-- What the two texts of a job give is in the log's ranges, as statements.
-- Texts have at most `TEXT_MAX` bytes.
use Rattle.std.specs.Prelude.{◌≡◌, ℕ, ◌≤◌, List, length, Some, Ok, Err}
use Rattle.std.specs.List.{All}
use Rattle.grid_base.specs.declared.TheConstants.{TEXT_MAX}
use Rattle.line_text.specs.declared.fault.TextFault.{TextFault}
use Rattle.mesh_base.specs.declared.Scale.{Scale}
use Rattle.mesh_base.specs.declared.faults.ShapeFault.{ShapeFault}
use Rattle.mesh_shape.specs.Shape.{shape_fault}
use Rattle.obj_text.specs.Obj.{Lists, lists_of}
use Rattle.step_text.specs.declared.directive.Placed.{Placed}
use Rattle.step_text.specs.Steps.{steps_of}
use Rattle.step_text.specs.Ranges.{IsInRange}
use Rattle.log_text.specs.declared.TheConstants.{COUNT_MAX}
use Rattle.log_text.specs.declared.log_line.Refusal.TheVariants.{Mesh, Shape, Steps}
use Rattle.log_read.specs.Laws.{IsFrom, IsRefusalInRange}

-- a mesh text outside its grammar: the line, and a reason that a mesh text may have
abbrev pub MeshFaultsAreInRange : Type 0
MeshFaultsAreInRange = (decimals : ℕ) (bytes : List ℕ) (fault : TextFault) →
    length bytes ≤ TEXT_MAX → lists_of decimals bytes ≡ Err fault → IsRefusalInRange (Mesh fault)

-- lists of a mesh text that are not of good shape
abbrev pub ShapeFaultsAreInRange : Type 0
ShapeFaultsAreInRange = (scale : Scale) (decimals : ℕ) (bytes : List ℕ) (lists : Lists)
    (fault : ShapeFault) →
    length bytes ≤ TEXT_MAX → lists_of decimals bytes ≡ Ok lists →
    shape_fault scale (length lists.points) lists.faces ≡ Some fault →
    IsRefusalInRange (Shape fault)

-- a step text outside its grammar: the line, and a reason that a step text may have
abbrev pub StepFaultsAreInRange : Type 0
StepFaultsAreInRange = (bytes : List ℕ) (fault : TextFault) → length bytes ≤ TEXT_MAX →
    steps_of bytes ≡ Err fault → IsRefusalInRange (Steps fault)

-- a directive, and the line where it stands
abbrev pub IsPlacedInRange : Placed → Type 0
IsPlacedInRange placed = IsFrom 1 COUNT_MAX placed.line × IsInRange placed.what

-- each of a step text's
abbrev pub DirectivesAreInRange : Type 0
DirectivesAreInRange = (bytes : List ℕ) (steps : List Placed) → length bytes ≤ TEXT_MAX →
    steps_of bytes ≡ Ok steps → All IsPlacedInRange steps

-- and they are no more than the text has bytes
abbrev pub DirectivesAreFew : Type 0
DirectivesAreFew =
    (bytes : List ℕ) (steps : List Placed) → steps_of bytes ≡ Ok steps → length steps ≤ length bytes
