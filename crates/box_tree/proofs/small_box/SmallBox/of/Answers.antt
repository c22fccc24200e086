use Rattle.box_tree.proofs.SmallBoxes.{narrowed_corners, ordered_as, extent_is}
use Rattle.box_tree.proofs.small_box.SmallBox.of.Goals as goal

pub invariant_of-result : goal.invariant_of-result
invariant_of-result c = (ordered_as c.args.e.now _ _ _ _ _ _ (narrowed_corners c.args.e.now), tt)

pub returns : goal.returns
returns c = extent_is c.args.e.now _ _ _ _ _ _ (narrowed_corners c.args.e.now) _
