use Rattle.mesh_make.proofs.Shape.{count-points, count-faces, vertices_numbered, cubes_are_sound, cubes_are_closed, cubes_have_no_fault}
use Rattle.mesh_make.proofs.Clear.{cubes_are_clear}
use Rattle.mesh_make.proofs.laws.cubes_make_a_valid_surface.Goals as goal

pub returns : goal.returns
returns c = record {
  points = count-points;
  faces = count-faces;
  vertices = vertices_numbered;
  shape = cubes_have_no_fault;
  surface = λ n row. record { sound = cubes_are_sound n row; closed = cubes_are_closed n; clear = cubes_are_clear n row };
}
