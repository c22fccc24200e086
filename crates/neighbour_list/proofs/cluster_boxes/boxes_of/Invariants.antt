use Rattle.std.proofs.Common.{◌≡◌, ℕ, ◌<◌, length, Some}
use Rattle.std.specs.Prelude.{slice_get}
use Rattle.neighbour_list.specs.declared.cluster_boxes.ClusterBoxes.{ClusterBoxes}
use Rattle.neighbour_list.specs.Clusters.{Cluster, HoldsCluster}
use Rattle.neighbour_list.proofs.cluster_boxes.boxes_of.Given as goal

-- the boxes so far
abbrev pub invariant-loop-refs : goal.invariant-loop-refs
invariant-loop-refs g l = record {
  as_long : length l.boxes.items ≡ l.refs-index;
  boxed : (k : ℕ) (x : Cluster) → k < l.refs-index → slice_get l.clusters k ≡ Some x → (box : ClusterBoxes) × ((slice_get l.boxes.items k ≡ Some box) × HoldsCluster l.frame (g.P.Paths.motion l.paths) x box);
}
