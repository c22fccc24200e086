use Rattle.std.proofs.Common.{◌∙◌, ◌++◌, ◌<◌, length, ap, subst, reverse}
use Rattle.box_tree.specs.declared.question.Question.{Question}
use Rattle.box_tree.specs.Nodes.{entries}
use Rattle.box_tree.specs.Found.{entries_found}
use Rattle.box_tree.proofs.Answered.{near_is, near_many, none_is_few}
use Rattle.box_tree.proofs.Orders.{if_ok}
use Rattle.box_tree.proofs.tree.BoxTree.near_up_to.Goals as goal

pub returns-clause-near : goal.returns-clause-near
returns-clause-near c =
    let ns = c.self.inside.nodes.items in
    let q : Question = record { at = c.args.at; a = 0; b = 0 } in
    rw (← c.self.view_is) (if_ok c.collect_up_to.result
    (λ all added yes. near_is c.args.at (entries (reverse ns)) c.collect_up_to.new.into.items c.self.invariant.1
    (added yes ∙ ap (λ xs. xs ++ entries_found q (entries (reverse c.deref.result.now))) c.clear.ensures.items ∙ ap (λ ms. entries_found q (entries (reverse ms))) c.deref.ensures.value))
    c.collect_up_to.ensures.all)

pub returns-clause-more : goal.returns-clause-more
returns-clause-more c =
    let ns = c.self.inside.nodes.items in
    let q : Question = record { at = c.args.at; a = 0; b = 0 } in
    rw (← c.self.view_is) (if_ok c.collect_up_to.result
    (λ all longer no'. near_many c.args.at (entries (reverse ns)) c.clear.new.self.items c.args.most c.self.invariant.1 c.clear.ensures.items
    (subst (λ ms. c.args.most < length (c.clear.new.self.items ++ entries_found q (entries (reverse ms)))) c.deref.ensures.value (longer no')))
    c.collect_up_to.ensures.more)

pub returns-clause-few : goal.returns-clause-few
returns-clause-few c = c.collect_up_to.ensures.few (none_is_few c.clear.new.self.items c.args.most c.clear.ensures.items)
