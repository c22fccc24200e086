use Rattle.std.proofs.Common.{length}
use Rattle.pair_candidates.proofs.slab_tree.+grow.Given as goal

abbrev pub decreases-grow : goal.decreases-grow
decreases-grow l = length l.places.now
