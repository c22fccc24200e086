use Rattle.step_text.proofs.StepLaws.{steps_are_in_range_lem}
use Rattle.step_text.proofs.laws.steps_are_in_range.Goals as goal

pub returns : goal.returns
returns c = steps_are_in_range_lem
