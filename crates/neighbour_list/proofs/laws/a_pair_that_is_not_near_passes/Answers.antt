use Rattle.neighbour_list.proofs.Apart.{passes_unlisted}
use Rattle.neighbour_list.proofs.laws.a_pair_that_is_not_near_passes.Goals as goal

pub returns : goal.returns
returns c = λ skin depth at w vs p among off start end. passes_unlisted skin at w vs p among off start end depth
