use Rattle.mesh_make.proofs.Ranges.{moves_by, moves_little}
use Rattle.mesh_make.proofs.laws.cubes_move_a_little.Goals as goal

pub returns : goal.returns
returns c = record { by = moves_by; little = moves_little }
