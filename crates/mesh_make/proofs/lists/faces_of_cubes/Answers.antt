use Rattle.mesh_make.specs.Cubes.{cube_faces}
use Rattle.mesh_make.proofs.Growing.{pieces_more}
use Rattle.mesh_make.proofs.lists.faces_of_cubes.Goals as goal

pub loop-cube-preserved : goal.loop-cube-preserved
loop-cube-preserved c = pieces_more cube_faces c.loop-cube.cube c.loop-cube.faces c.push_faces.new.faces c.loop-cube.invariant c.in_ok-push_faces.ensures
