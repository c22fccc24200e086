use Rattle.grid_base.proofs.SeparationLaws.{AreSeparated-never_meet}
use Rattle.grid_base.proofs.laws.separated_never_meets.Goals as goal

pub returns : goal.returns
returns c = AreSeparated-never_meet
