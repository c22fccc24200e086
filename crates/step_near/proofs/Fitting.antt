-- The moves of vertices that end in the box fit.
use Rattle.std.proofs.Common.{◌≡◌, ◌≤◌, true, [], ◌∷◌, map, ℤ, pos, ◌*ℤ◌, unsigned_abs, arith}
use Rattle.std.proofs.lemmas.Int.{ints}
use Rattle.std.specs.List.{filter, All, AllByRecursion}
use Rattle.std.proofs.lemmas.List.Elements.{All-from_recursion}
use Rattle.grid_base.specs.declared.TheConstants.{BOX, HALF_MAX}
use Rattle.grid_base.specs.Triples.{Triple, IsWithin, times}
use Rattle.grid_base.specs.Points.{is_within}
use Rattle.grid_base.proofs.PointLaws.{within_of}
use Rattle.mesh_base.specs.Mesh.{Mesh}
use Rattle.mesh_base.specs.Shifts.{Shifts, end_in_box}
use Rattle.mesh_base.proofs.Moves.{both_true, own_within}
use Rattle.mesh_base.proofs.MovesNamed.{end_filtered}
use Rattle.edit_check.specs.Untouched.{MoveFits}
use Rattle.step_near.specs.Few.{is_shifted}
use Rattle.step_near.specs.Moving.{end_of, move_by, moves_by}

doubled_within : (t : Triple) → IsWithin BOX t → IsWithin HALF_MAX (times 2 t)
doubled_within t w = record { x_fits = one t.x w.x_fits; y_fits = one t.y w.y_fits; z_fits = one t.z w.z_fits }
  where
    one : (x : ℤ) → unsigned_abs x ≤ BOX → unsigned_abs (pos 2 *ℤ x) ≤ HALF_MAX
    one x h = omega (arith, ints)

each_fits : (m : Mesh) (shifts : Shifts) → end_in_box m shifts ≡ true → AllByRecursion MoveFits (map (move_by m) shifts)
each_fits m [] h = tt
each_fits m (s ∷ rest) h =
    let parts = both_true (is_within BOX (end_of m s)) (end_in_box m rest) h in
    (record { start = doubled_within _ (own_within m s.v); end = doubled_within _ (within_of BOX (end_of m s) parts.0) }, each_fits m rest parts.1)

pub moves_fit : (m : Mesh) (asked : Shifts) → end_in_box m asked ≡ true → All MoveFits (moves_by m asked)
moves_fit m asked h = All-from_recursion MoveFits (moves_by m asked) (each_fits m (filter is_shifted asked) (end_filtered m is_shifted asked h))
