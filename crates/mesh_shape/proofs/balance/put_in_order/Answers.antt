use Rattle.std.proofs.Common.{rules, cond}
use Rattle.std.proofs.lemmas.List.Sorted.{IsNonDecreasingBy-from_sort_by_key, sum_by-IsPermutation}
use Rattle.mesh_base.specs.SideList.{side_rank}
use Rattle.mesh_shape.specs.Balance.{same_ends}
use Rattle.mesh_shape.proofs.balance.put_in_order.Goals as goal

pub returns-clause-order : goal.returns-clause-order
returns-clause-order c = IsNonDecreasingBy-from_sort_by_key side_rank _ c.sort_unstable_by_key.ensures.sorted (λ a r q k. search rules)

pub returns-clause-same : goal.returns-clause-same
returns-clause-same c u v = sum_by-IsPermutation (λ s. cond (same_ends s (u, v)) 1 0) _ _ c.sort_unstable_by_key.ensures.permutation
