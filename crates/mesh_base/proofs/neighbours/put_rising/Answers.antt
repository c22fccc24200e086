use Rattle.std.proofs.Common.{rules}
use Rattle.std.proofs.lemmas.List.Filters.{dedup_is}
use Rattle.std.proofs.lemmas.List.Sorted.{IsNonDecreasingBy-from_sort_by_key}
use Rattle.mesh_base.proofs.NeighboursAbove.{itself, same_ids, ids_rise, ids_stay}
use Rattle.mesh_base.proofs.neighbours.put_rising.Goals as goal

pub returns-clause-order : goal.returns-clause-order
returns-clause-order c =
    let sorted = c.sort_unstable_by_key.new.self.items in
    let left = c.dedup.new.self.items in
    ids_rise sorted left
    (IsNonDecreasingBy-from_sort_by_key itself _ c.sort_unstable_by_key.ensures.sorted (λ a r q k. search rules))
    (dedup_is same_ids sorted left c.dedup.ensures.filtered)

pub returns-clause-same : goal.returns-clause-same
returns-clause-same c =
    let sorted = c.sort_unstable_by_key.new.self.items in
    let left = c.dedup.new.self.items in
    ids_stay c.args.ids.now.items sorted left c.sort_unstable_by_key.ensures.permutation (dedup_is same_ids sorted left c.dedup.ensures.filtered)
