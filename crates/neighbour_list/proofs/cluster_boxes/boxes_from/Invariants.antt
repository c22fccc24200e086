use Rattle.std.specs.List.{AllWithin}
use Rattle.pair_paths.specs.Paths.{path_along}
use Rattle.neighbour_list.specs.Clusters.{HoldsWay}
use Rattle.neighbour_list.proofs.cluster_boxes.boxes_from.Given as goal

-- the boxes have those so far
abbrev pub invariant-loop-k : goal.invariant-loop-k
invariant-loop-k g l = AllWithin (λ k. HoldsWay l.frame (path_along (g.P.Paths.motion l.paths) k.v) k l.all) l.refs 0 l.k-index
