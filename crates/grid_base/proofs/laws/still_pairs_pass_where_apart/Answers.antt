use Rattle.grid_base.proofs.SeparationLaws.{Passes-still, still-Passes}
use Rattle.grid_base.proofs.laws.still_pairs_pass_where_apart.Goals as goal

pub returns : goal.returns
returns c = λ depth f. (still-Passes depth f, Passes-still depth f)
