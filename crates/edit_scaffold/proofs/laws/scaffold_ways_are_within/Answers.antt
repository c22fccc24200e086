use Rattle.edit_scaffold.proofs.Fitting.{ways_fit}
use Rattle.edit_scaffold.proofs.laws.scaffold_ways_are_within.Goals as goal

pub returns : goal.returns
returns c = ways_fit
