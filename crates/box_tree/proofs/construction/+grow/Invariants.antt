use Rattle.std.proofs.Common.{length}
use Rattle.box_tree.proofs.construction.+grow.Given as goal

abbrev pub decreases-grow : goal.decreases-grow
decreases-grow l = length l.order.now
