use Rattle.grid_base.proofs.SeparationLaws.{Opens-at_once}
use Rattle.grid_base.proofs.laws.taken_apart_opens.Goals as goal

pub returns : goal.returns
returns c = Opens-at_once
