use Rattle.grid_base.proofs.Reflected.{passes_of, of_passes}
use Rattle.grid_base.proofs.laws.passing_is_tested.Goals as goal

pub returns : goal.returns
returns c = λ meets exact depth s t. (passes_of meets exact depth s t, of_passes meets exact depth s t)
