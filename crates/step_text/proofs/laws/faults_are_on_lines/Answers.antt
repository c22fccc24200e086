use Rattle.step_text.proofs.StepLaws.{faults_are_on_lines_lem}
use Rattle.step_text.proofs.laws.faults_are_on_lines.Goals as goal

pub returns : goal.returns
returns c = faults_are_on_lines_lem
