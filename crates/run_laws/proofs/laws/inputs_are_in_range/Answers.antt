use Rattle.run_laws.proofs.Inputs.{inputs_in_range, mesh_logs_in_range}
use Rattle.run_laws.proofs.laws.inputs_are_in_range.Goals as goal

pub returns : goal.returns
returns c = record { inputs = inputs_in_range; logs = mesh_logs_in_range }
