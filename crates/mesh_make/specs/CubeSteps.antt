-- The directives of the job of cubes: three steps in which each cube moves by a shift of
-- its own, then a split and a save.
use Rattle.std.specs.Prelude.{ℕ, ◌+◌, ◌-◌, ◌*◌, ◌/◌, ◌%◌, List, [], ◌∷◌, ◌++◌, map}
use Rattle.std.specs.List.{range_with_len, enumerate_from}
use Rattle.grid_base.specs.declared.grid.Shift.{Shift}
use Rattle.grid_base.specs.Triples.{Triple}
use Rattle.grid_base.specs.Points.{shift_by}
use Rattle.edit_base.specs.declared.PassKind.TheVariants as pass
use Rattle.step_text.specs.declared.directive.Directive.{Directive}
use Rattle.step_text.specs.declared.directive.Directive.TheVariants.{ShiftOne, Step, Pass, Save}
use Rattle.step_text.specs.declared.directive.Placed.{Placed}
use Rattle.mesh_make.specs.Cubes.{at}

-- how far a cube, of this number from 1, moves in a step along an axis: 0 for x, 1 for y, 2 for z
abbrev pub moved_along : ℕ → ℕ → ℕ → ℕ → ℕ
moved_along key step number axis = 1 + (key + 31 * step + 7 * number + 13 * axis) % 9

-- the same along the three axes
abbrev pub moved_by : ℕ → ℕ → ℕ → Triple
moved_by key step number =
    at (moved_along key step number 0) (moved_along key step number 1)
    (moved_along key step number 2)

-- its shift in that step
abbrev pub cube_shift : ℕ → ℕ → ℕ → Shift
cube_shift key step number = shift_by (moved_by key step number)

-- the number, from 1, of the cube that has a vertex
abbrev pub cube_with : ℕ → ℕ
cube_with v = (v - 1) / 8 + 1

-- a shift for each vertex of the cubes, by rising id, in a step
abbrev pub shifts_in : ℕ → ℕ → ℕ → List Directive
shifts_in n key step =
    map (λ v. ShiftOne v (cube_shift key step (cube_with v))) (range_with_len 1 (8 * (n * n * n)))

-- the directives of a step
abbrev pub step_of : ℕ → ℕ → ℕ → List Directive
step_of n key step = shifts_in n key step ++ Step ∷ []

-- three steps, then each edge longer than 50 is split, and the mesh is saved
abbrev pub cubes_directives : ℕ → ℕ → List Directive
cubes_directives n key =
    step_of n key 1 ++ step_of n key 2 ++ step_of n key 3 ++ Pass (pass.Split 50) ∷ Save ∷ []

-- each on a line of its own, from line 1
abbrev pub on_lines : List Directive → List Placed
on_lines directives = map (λ d. record { line = d.0; what = d.1 }) (enumerate_from 1 directives)

-- the directives of the job, placed
abbrev pub cubes_steps : ℕ → ℕ → List Placed
cubes_steps n key = on_lines (cubes_directives n key)
