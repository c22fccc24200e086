use Rattle.std.proofs.Common.{subst, sym, ◌∙◌}
use Rattle.mesh_shape.specs.Shape.{runs_in}
use Rattle.mesh_shape.specs.Balance.{HasRuns, IsInOrder}
use Rattle.mesh_shape.proofs.Unbalanced.{differs_where, differing_small}
use Rattle.mesh_shape.proofs.balance.unbalanced_sides.Goals as goal

pub differences-requires-clause-one_order : goal.differences-requires-clause-one_order
differences-requires-clause-one_order c = subst IsInOrder (sym c.deref.ensures.value) c.requires.up_order

pub differences-requires-clause-other_order : goal.differences-requires-clause-other_order
differences-requires-clause-other_order c = subst IsInOrder (sym c.deref-2.ensures.value) c.requires.down_order

pub put_once-requires : goal.put_once-requires
put_once-requires c =
    let one : IsInOrder c.deref.result.now = subst IsInOrder (sym c.deref.ensures.value) c.requires.up_order in
    let other : IsInOrder c.deref-2.result.now = subst IsInOrder (sym c.deref-2.ensures.value) c.requires.down_order in
    differing_small c.deref.result.now c.deref-2.result.now c.in_ok-list.list.items one.small other.small c.in_ok-list.ensures

pub returns-clause-sides : goal.returns-clause-sides
returns-clause-sides c = λ u v.
    let fs = c.args.faces.now in
    c.put_once.ensures.same u v
    ∙ c.in_ok-list.ensures u v
    ∙ differs_where fs c.deref.result.now c.deref-2.result.now
    (subst (λ l. HasRuns l (λ a b. runs_in fs a b)) (sym c.deref.ensures.value) c.requires.up)
    (subst (λ l. HasRuns l (λ a b. runs_in fs b a)) (sym c.deref-2.ensures.value) c.requires.down)
    u v
