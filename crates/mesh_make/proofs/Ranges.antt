-- The directives of the job are within their limits.
use Rattle.std.proofs.Common.{◌≡◌, ℕ, zero, suc, ◌+◌, ◌*◌, ◌%◌, ◌≤◌, List, [], ◌∷◌, ◌++◌, map, lit≤, le_trans, arith}
use Rattle.std.specs.List.{AllByRecursion, range_with_len, enumerate_from}
use Rattle.grid_base.specs.declared.TheConstants.{ID_MAX, LENGTH_MAX, SHIFT_MAX}
use Rattle.grid_base.specs.Points.{displacement_of}
use Rattle.grid_base.proofs.PointLaws.{displacement_of-shift_by}
use Rattle.mesh_base.proofs.ListedPairs.{all_joined}
use Rattle.step_text.specs.declared.Directive.{Directive}
use Rattle.step_text.specs.declared.Directive.TheVariants.{ShiftOne}
use Rattle.step_text.specs.Ranges.{IsFrom, IsInRange, AreInRange}
use Rattle.mesh_make.specs.Cubes.{IsRow}
use Rattle.mesh_make.specs.CubeSteps.{moved_along, moved_by, cube_shift, cube_with, shifts_in, step_of, cubes_directives, cubes_steps}
use Rattle.mesh_make.proofs.Growing.{cubes-few}

-- those that are numbered are those of the list
on_lines_in_range : (k : ℕ) (xs : List Directive) → AllByRecursion IsInRange xs → AreInRange (map (λ d. record { line = d.0; what = d.1 }) (enumerate_from k xs))
on_lines_in_range k [] all = tt
on_lines_in_range k (x ∷ xs) all = (all.0, on_lines_in_range (k + 1) xs all.1)

shifts_in_range : (key step first count : ℕ) → 1 ≤ first → first + count ≤ ID_MAX + 1 → AllByRecursion IsInRange (map (λ v. ShiftOne v (cube_shift key step (cube_with v))) (range_with_len first count))
shifts_in_range key step first zero low high = tt
shifts_in_range key step first (suc count) low high = ((low, omega arith), shifts_in_range key step (first + 1) count (omega arith) (omega arith))

step_in_range : (n key step : ℕ) → IsRow n → AllByRecursion IsInRange (step_of n key step)
step_in_range n key step row =
    let few = cubes-few n row in
    all_joined IsInRange (shifts_in n key step) _ (shifts_in_range key step 1 (8 * (n * n * n)) (lit≤ tt) (omega arith)) (tt, tt)

pub steps_in_range : (n key : ℕ) → IsRow n → AreInRange (cubes_steps n key)
steps_in_range n key row =
    let step = λ (k : ℕ). step_in_range n key k row in
    let long : 50 ≤ LENGTH_MAX = lit≤ tt in
    on_lines_in_range 1 (cubes_directives n key)
    (all_joined IsInRange (step_of n key 1 ++ step_of n key 2 ++ step_of n key 3) _
    (all_joined IsInRange (step_of n key 1 ++ step_of n key 2) (step_of n key 3)
    (all_joined IsInRange (step_of n key 1) (step_of n key 2) (step 1) (step 2)) (step 3))
    (long, (tt, tt)))

-- ---- shifts
nine_below : (k : ℕ) → IsFrom 1 9 (1 + k % 9)
nine_below k = (omega arith, omega arith)

pub moves_little : (key step number axis : ℕ) → IsFrom 1 9 (moved_along key step number axis)
moves_little key step number axis = nine_below (key + 31 * step + 7 * number + 13 * axis)

pub moves_by : (key step number : ℕ) → displacement_of (cube_shift key step number) ≡ moved_by key step number
moves_by key step number =
    let most : 9 ≤ SHIFT_MAX = lit≤ tt in
    let fits = λ (axis : ℕ). le_trans (moves_little key step number axis).1 most in
    displacement_of-shift_by (moved_by key step number) (record { x_fits = fits 0; y_fits = fits 1; z_fits = fits 2 })
