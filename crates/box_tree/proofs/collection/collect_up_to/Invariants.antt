use Rattle.std.proofs.Common.{◌≡◌, ◌++◌, ◌≤◌, length, reverse, take}
use Rattle.box_tree.specs.Nodes.{IsTree, entries}
use Rattle.box_tree.specs.Found.{entries_found}
use Rattle.box_tree.proofs.collection.collect_up_to.Given as goal

abbrev pub invariant-loop-i : goal.invariant-loop-i
invariant-loop-i l = record {
  within : l.i ≤ length l.nodes;
  tree : IsTree (reverse (take l.i l.nodes));
  all : l.into.items ++ entries_found l.q (entries (reverse (take l.i l.nodes))) ≡ l.fn.into.items ++ entries_found l.q (entries (reverse l.nodes));
  few : length l.fn.into.items ≤ l.most → length l.into.items ≤ l.most;
}

abbrev pub decreases-loop-i : goal.decreases-loop-i
decreases-loop-i l = l.i
