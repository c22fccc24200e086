use Rattle.mesh_make.proofs.Ranges.{steps_in_range}
use Rattle.mesh_make.proofs.laws.cubes_steps_are_in_range.Goals as goal

pub returns : goal.returns
returns c = steps_in_range
