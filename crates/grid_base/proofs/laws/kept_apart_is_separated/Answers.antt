use Rattle.grid_base.proofs.SeparationLaws.{AreSeparated-at_once}
use Rattle.grid_base.proofs.laws.kept_apart_is_separated.Goals as goal

pub returns : goal.returns
returns c = AreSeparated-at_once
