-- What holds of the cubes.
use Rattle.std.specs.Prelude.{ℕ, ◌≡◌, ◌*◌, ◌↔◌, length, None}
use Rattle.mesh_base.specs.Mesh.{IsLiveVertex}
use Rattle.mesh_base.specs.declared.limits.Scale.TheVariants.{Standard}
use Rattle.mesh_shape.specs.Shape.{shape_fault}
use Rattle.obj_text.specs.Obj.{Lists}
use Rattle.step_text.specs.Ranges.{IsFrom}
use Rattle.grid_base.specs.Points.{displacement_of}
use Rattle.mesh_make.specs.Cubes.{cubes_mesh}
use Rattle.mesh_make.specs.CubeSteps.{cube_shift, moved_by}

-- lists are of good shape, at the standard scale
abbrev pub HasNoFault : Lists → Type 0
HasNoFault lists = shape_fault Standard (length lists.points) lists.faces ≡ None

-- the live vertices are numbered from 1, eight for each cube
abbrev pub VerticesAreNumbered : Type 0
VerticesAreNumbered = (n v : ℕ) → (IsLiveVertex (cubes_mesh n) v ↔ IsFrom 1 (8 * (n * n * n)) v)

-- each shift of the job moves by what is said, along each axis
abbrev pub ShiftsMoveAsSaid : Type 0
ShiftsMoveAsSaid =
    (key step number : ℕ) → displacement_of (cube_shift key step number) ≡ moved_by key step number
