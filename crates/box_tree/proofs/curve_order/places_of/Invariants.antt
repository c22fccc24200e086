use Rattle.std.proofs.Common.{◌≡◌, map, take}
use Rattle.box_tree.proofs.curve_order.places_of.Given as goal

abbrev pub invariant-loop-k : goal.invariant-loop-k
invariant-loop-k l = l.order.items ≡ map (λ k. k.1) (take l.k-index l.keyed)
