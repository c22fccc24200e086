use Rattle.std.proofs.Common.{nat_eq}
use Rattle.std.proofs.lemmas.List.Filters.{dedup_is}
use Rattle.mesh_measure.proofs.EdgesFrom.{same_risen, risen}
use Rattle.mesh_measure.proofs.edge_number.put_in_order.Goals as goal

pub returns-clause-order : goal.returns-clause-order
returns-clause-order c =
    let sorted = c.sort_unstable.new.self.items in
    let left = c.dedup.new.self.items in
    risen sorted left c.sort_unstable.ensures.sorted (dedup_is nat_eq sorted left c.dedup.ensures.filtered)

pub returns-clause-same : goal.returns-clause-same
returns-clause-same c =
    let sorted = c.sort_unstable.new.self.items in
    let left = c.dedup.new.self.items in
    same_risen c.args.near.now.items sorted left c.sort_unstable.ensures.permutation (dedup_is nat_eq sorted left c.dedup.ensures.filtered)
