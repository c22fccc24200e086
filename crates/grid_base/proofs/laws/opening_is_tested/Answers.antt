use Rattle.grid_base.proofs.Reflected.{opens_of, of_opens}
use Rattle.grid_base.proofs.laws.opening_is_tested.Goals as goal

pub returns : goal.returns
returns c = λ depth s t. (opens_of depth s t, of_opens depth s t)
