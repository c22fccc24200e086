use Rattle.std.proofs.Common.{map}
use Rattle.grid_base.specs.Points.{position_of}
use Rattle.mesh_make.specs.Cubes.{cube_points}
use Rattle.mesh_make.proofs.Growing.{pieces_more}
use Rattle.mesh_make.proofs.lists.points_of_cubes.Goals as goal

pub loop-cube-preserved : goal.loop-cube-preserved
loop-cube-preserved c = pieces_more (cube_points c.args.n) c.loop-cube.cube (map position_of c.loop-cube.points) (map position_of c.push_vertices.new.points) c.loop-cube.invariant c.in_ok-push_vertices.ensures
