use Rattle.step_text.proofs.StepLaws.{lines_are_few_lem}
use Rattle.step_text.proofs.laws.lines_are_few.Goals as goal

pub returns : goal.returns
returns c = lines_are_few_lem
