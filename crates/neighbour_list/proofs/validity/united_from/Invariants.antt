use Rattle.std.specs.List.{AllWithin}
use Rattle.neighbour_list.specs.Clusters.{HasDriftsOf}
use Rattle.neighbour_list.proofs.validity.united_from.Given as goal

-- the boxes have the drifts of those so far
abbrev pub invariant-loop-b : goal.invariant-loop-b
invariant-loop-b l = AllWithin (λ b. HasDriftsOf b l.all) l.boxes 0 l.b-index
