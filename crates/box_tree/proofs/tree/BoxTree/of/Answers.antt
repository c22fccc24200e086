use Rattle.std.proofs.Common.{◌≡◌, ◌∙◌, ◌++◌, ap, append-nil, reverse}
use Rattle.std.specs.List.{filter_map}
use Rattle.box_tree.specs.Nodes.{entries, entry_at}
use Rattle.box_tree.proofs.FoundPlaces.{are_once, get_placed}
use Rattle.box_tree.proofs.tree.BoxTree.of.Goals as goal

-- the entries are the boxes in the order
all_placed : (c : goal.In_ok-grow) → entries (reverse c.grow.new.nodes.items) ≡ filter_map (entry_at c.args.boxes.now) c.in_ok-order.order.items
all_placed c =
    let boxes = c.args.boxes.now in
    c.in_ok-grow.ensures.all
    ∙ ap (λ ns. filter_map (entry_at boxes) c.deref.result.now ++ entries (reverse ns)) c.new-nodes.ensures.items
    ∙ append-nil _
    ∙ ap (filter_map (entry_at boxes)) c.deref.ensures.value

pub invariant_of-result : goal.invariant_of-result
invariant_of-result c = (c.in_ok-grow.ensures.tree, are_once c.args.boxes.now c.in_ok-order.order.items (entries (reverse c.grow.new.nodes.items)) c.in_ok-order.ensures (all_placed c))

pub returns : goal.returns
returns c =
    let boxes = c.args.boxes.now in
    let order = c.in_ok-order.order.items in
    let all = c.in_ok-grow.ensures.all
    ∙ ap (λ ns. filter_map (entry_at boxes) c.deref.result.now ++ entries (reverse ns)) c.new-nodes.ensures.items
    ∙ append-nil _
    ∙ ap (filter_map (entry_at boxes)) c.deref.ensures.value in
    λ i. get_placed boxes order (entries (reverse c.grow.new.nodes.items)) c.in_ok-order.ensures all i
