use Rattle.box_tree.proofs.Orders.{HaveBefore}
use Rattle.box_tree.proofs.curve_order.with_places.Given as goal

-- each place so far is in the list
abbrev pub invariant-loop-i : goal.invariant-loop-i
invariant-loop-i l = HaveBefore l.i l.keyed.items
