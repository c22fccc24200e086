use Rattle.std.proofs.Common.{subst, map}
use Rattle.std.specs.List.Sorted.{IsPermutation}
use Rattle.std.proofs.lemmas.List.Sorted.{IsPermutation-map}
use Rattle.neighbour_list.proofs.order.corners_along_curve.Goals as goal

pub returns : goal.returns
returns c =
    let sorted = c.sort_unstable_by_key.new.self.items in
    subst (λ xs. IsPermutation xs (map (λ k. k.corners) sorted)) c.in_ok-placed.ensures
    (IsPermutation-map (λ k. k.corners) c.in_ok-placed.placed.items sorted c.sort_unstable_by_key.ensures.permutation)
