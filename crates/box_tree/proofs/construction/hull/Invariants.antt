use Rattle.std.proofs.Common.{◌-◌, ◌≤◌, length, reverse, take}
use Rattle.box_tree.specs.declared.labelled_box.LabelledBox.{LabelledBox}
use Rattle.box_tree.specs.Nodes.{Has, AllIn, IsTree}
use Rattle.box_tree.proofs.construction.hull.Given as goal

abbrev pub invariant-loop-i : goal.invariant-loop-i
invariant-loop-i l = record {
  within : l.i ≤ length l.nodes;
  tree : IsTree (reverse (take l.i l.nodes));
  rest : (f : LabelledBox) → Has f l.e → AllIn f (take (l.i - l.from) (reverse (take l.i l.nodes))) → AllIn f (take (length l.nodes - l.from) (reverse l.nodes));
}

abbrev pub decreases-loop-i : goal.decreases-loop-i
decreases-loop-i l = l.i - l.from
