use Rattle.std.proofs.Common.{◌∙◌, ap, map}
use Rattle.box_tree.proofs.Orders.{sorted_places, if_ok}
use Rattle.box_tree.proofs.curve_order.places_along_curve.Goals as goal

pub returns : goal.returns
returns c =
    if_ok c.places_of.result
    (λ order is. sorted_places c.args.boxes.now c.in_ok-keyed.keyed.items c.sort_unstable_by_key.new.self.items order.items c.in_ok-keyed.ensures c.sort_unstable_by_key.ensures.permutation (is ∙ ap (map (λ k. k.1)) c.deref-2.ensures.value))
    c.places_of.ensures
