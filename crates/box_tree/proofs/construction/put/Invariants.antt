use Rattle.std.proofs.Common.{◌≡◌, ◌++◌, ◌≤◌, length, reverse, take}
use Rattle.std.specs.List.{filter_map}
use Rattle.box_tree.specs.Nodes.{IsTree, entries, entry_at}
use Rattle.box_tree.proofs.construction.put.Given as goal

abbrev pub invariant-loop-k : goal.invariant-loop-k
invariant-loop-k l = record {
  within : l.k ≤ length l.order;
  tree : IsTree (reverse l.nodes.items);
  all : filter_map (entry_at l.boxes) (take l.k l.order) ++ entries (reverse l.nodes.items) ≡ filter_map (entry_at l.boxes) l.order ++ entries (reverse l.fn.nodes.items);
}

abbrev pub decreases-loop-k : goal.decreases-loop-k
decreases-loop-k l = l.k
