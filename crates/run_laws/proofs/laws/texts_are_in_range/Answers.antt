use Rattle.run_laws.proofs.Texts.{mesh_faults_in_range, shape_faults_in_range, step_faults_in_range, directives_in_range, directives_are_few}
use Rattle.run_laws.proofs.laws.texts_are_in_range.Goals as goal

pub returns : goal.returns
returns c = record { mesh = mesh_faults_in_range; shape = shape_faults_in_range; steps = step_faults_in_range; directives = directives_in_range; few = directives_are_few }
