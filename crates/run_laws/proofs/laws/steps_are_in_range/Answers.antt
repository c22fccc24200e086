use Rattle.run_laws.proofs.StepLines.{step_in_range, mesh_in_range}
use Rattle.run_laws.proofs.Ways.{ways_in_range}
use Rattle.run_laws.proofs.laws.steps_are_in_range.Goals as goal

pub returns : goal.returns
returns c = record { step = step_in_range; way = ways_in_range; mesh = mesh_in_range }
