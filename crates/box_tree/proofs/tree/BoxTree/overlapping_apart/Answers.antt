use Rattle.std.proofs.Common.{◌∙◌, ap, reverse}
use Rattle.cell_grid.specs.Filed.{has}
use Rattle.grid_base.specs.declared.Extent.{Extent}
use Rattle.box_tree.specs.declared.question.Question.{Question}
use Rattle.box_tree.specs.Nodes.{entries}
use Rattle.box_tree.proofs.Answered.{added_alone, answer_is}
use Rattle.box_tree.proofs.tree.BoxTree.overlapping_apart.Goals as goal

pub returns-clause-ok : goal.returns-clause-ok
returns-clause-ok c =
    let ns = c.self.inside.nodes.items in
    let ask : Extent → Question = λ at. record { at = at; a = c.args.a; b = c.args.b } in
    let found = added_alone ask c.args.at c.of-at.result ns c.deref.result.now c.clear.new.self.items c.walk.new.into.items c.in_default.ensures c.clear.ensures.items c.of-at.ensures c.deref.ensures.value in
    rw (← c.self.view_is) (answer_is (ask c.args.at) (entries (reverse ns)) c.self.invariant.1 c.rising.new.list.items c.rising.ensures.sorted (λ i. c.rising.ensures.same i ∙ ap (has i) found))
