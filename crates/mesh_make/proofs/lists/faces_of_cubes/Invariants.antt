use Rattle.std.proofs.Common.{◌≡◌}
use Rattle.std.specs.List.{flat_map, range_with_len}
use Rattle.mesh_make.specs.Cubes.{cube_faces}
use Rattle.mesh_make.proofs.lists.faces_of_cubes.Given as goal

abbrev pub invariant-loop-cube : goal.invariant-loop-cube
invariant-loop-cube l = l.faces ≡ flat_map cube_faces (range_with_len 0 l.cube)
