use Rattle.std.proofs.Common.{◌∙◌, ap, reverse}
use Rattle.box_tree.specs.Nodes.{entries}
use Rattle.box_tree.proofs.Placing.{on_ok, placed_both}
use Rattle.box_tree.proofs.construction.+grow.Goals as goal
use Rattle.box_tree.proofs.construction.+grow.Goals.{then-order-le-LEAF+in_ok-put, else-order-le-LEAF+in_ok-grow+in_ok-grow-2}

pub returns-clause-all : goal.returns-clause-all
returns-clause-all t c = on_ok c.gather.result (λ same. same ∙ elim c.if-order-le-LEAF.branch [
  | then-order-le-LEAF+in_ok-put w ↦ ap (λ v. entries (reverse v.items)) w.nodes-is ∙ w.in_ok-put.ensures.all
  | else-order-le-LEAF+in_ok-grow+in_ok-grow-2 w ↦ ap (λ v. entries (reverse v.items)) w.nodes-is
      ∙ placed_both c.args.boxes.now c.args.order.now w.split_at.result.0.now w.split_at.result.1.now _ _ _ w.split_at.ensures.by_index.0 w.in_ok-grow.ensures.all w.in_ok-grow-2.ensures.all
]) c.gather.ensures.same
