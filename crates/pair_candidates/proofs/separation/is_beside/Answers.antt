use Rattle.pair_candidates.proofs.Beyond.{beside_parts}
use Rattle.pair_candidates.proofs.separation.is_beside.Goals as goal

pub returns : goal.returns
returns c = λ yes. beside_parts c.args.n c.reach.result c.args.e.now c.args.a c.args.b (c.are_beyond.ensures yes) c.reach.ensures
