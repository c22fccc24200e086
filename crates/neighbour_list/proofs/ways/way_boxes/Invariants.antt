use Rattle.std.proofs.Common.{◌≡◌, ℕ, ◌<◌, length, Some}
use Rattle.std.specs.Prelude.{slice_get}
use Rattle.box_tree.specs.declared.LabelledBox.{LabelledBox}
use Rattle.neighbour_list.specs.declared.cluster_boxes.ClusterBoxes.{ClusterBoxes}
use Rattle.neighbour_list.specs.Clusters.{IsWayBox}
use Rattle.neighbour_list.proofs.ways.way_boxes.Given as goal

-- the boxes so far
abbrev pub invariant-loop-b : goal.invariant-loop-b
invariant-loop-b l = record {
  as_long : length l.ways.items ≡ l.b-index;
  boxed : (k : ℕ) (x : ClusterBoxes) → k < l.b-index → slice_get l.boxes k ≡ Some x → (box : LabelledBox) × ((slice_get l.ways.items k ≡ Some box) × IsWayBox x box);
}
