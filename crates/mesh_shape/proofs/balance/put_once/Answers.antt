use Rattle.std.proofs.Common.{rules}
use Rattle.std.proofs.lemmas.List.Filters.{dedup_is}
use Rattle.std.proofs.lemmas.List.Sorted.{IsNonDecreasingBy-from_sort_by_key}
use Rattle.mesh_base.specs.SideList.{side_rank}
use Rattle.mesh_base.proofs.EdgesInOrder.{same_ends, sides_rise, sides_stay}
use Rattle.mesh_shape.proofs.balance.put_once.Goals as goal

pub returns-clause-order : goal.returns-clause-order
returns-clause-order c =
    let sorted = c.sort_unstable_by_key.new.self.items in
    let left = c.dedup.new.self.items in
    sides_rise c.args.sides.now.items sorted left c.requires c.sort_unstable_by_key.ensures.permutation
    (IsNonDecreasingBy-from_sort_by_key side_rank _ c.sort_unstable_by_key.ensures.sorted (λ a r q k. search rules))
    (dedup_is same_ends sorted left c.dedup.ensures.filtered)

pub returns-clause-same : goal.returns-clause-same
returns-clause-same c =
    let sorted = c.sort_unstable_by_key.new.self.items in
    let left = c.dedup.new.self.items in
    sides_stay c.args.sides.now.items sorted left c.sort_unstable_by_key.ensures.permutation (dedup_is same_ends sorted left c.dedup.ensures.filtered)
