use Rattle.std.proofs.Common.{sym, subst, ◌∙◌}
use Rattle.std.specs.List.Sorted.{IsStrictlySortedBy}
use Rattle.mesh_base.specs.SideList.{edge_cmp, neighbours_in_any, HasSides}
use Rattle.mesh_base.proofs.EdgesInOrder.{sides_are_small}
use Rattle.mesh_base.proofs.edges.sides_in_order.Goals as goal

pub put_in_order-requires : goal.put_in_order-requires
put_in_order-requires g c =
    let m = g.S.Surface.mesh c.args.mesh.now in
    sides_are_small m c.args.faces.now c.in_ok-sides.sides.items (g.met.S.Surface.sound c.args.mesh.now) c.in_ok-sides.ensures

pub returns-clause-order : goal.returns-clause-order
returns-clause-order g c = subst (λ xs. IsStrictlySortedBy edge_cmp xs) (sym c.from_vec.ensures) c.put_in_order.ensures.order

pub returns-clause-sides : goal.returns-clause-sides
returns-clause-sides g c =
    let m = g.S.Surface.mesh c.args.mesh.now in
    subst (λ xs. HasSides xs (neighbours_in_any m c.args.faces.now)) (sym c.from_vec.ensures) (λ a b. c.put_in_order.ensures.same a b ∙ c.in_ok-sides.ensures a b)
