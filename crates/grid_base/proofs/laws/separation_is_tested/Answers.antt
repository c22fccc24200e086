use Rattle.grid_base.proofs.Reflected.{separated_of, of_separated}
use Rattle.grid_base.proofs.laws.separation_is_tested.Goals as goal

pub returns : goal.returns
returns c = λ depth s t. (separated_of depth s t, of_separated depth s t)
