use Rattle.std.proofs.Common.{◌≡◌, map}
use Rattle.std.specs.List.{flat_map, range_with_len}
use Rattle.grid_base.specs.Points.{position_of}
use Rattle.mesh_make.specs.Cubes.{cube_points}
use Rattle.mesh_make.proofs.lists.points_of_cubes.Given as goal

abbrev pub invariant-loop-cube : goal.invariant-loop-cube
invariant-loop-cube l = map position_of l.points ≡ flat_map (cube_points l.n) (range_with_len 0 l.cube)
