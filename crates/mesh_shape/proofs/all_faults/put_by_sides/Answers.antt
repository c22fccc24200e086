use Rattle.std.proofs.Common.{arith, sym, subst}
use Rattle.std.specs.List.Sorted.{IsStrictlySortedBy}
use Rattle.std.proofs.lemmas.Result.{on_ok_weaker}
use Rattle.mesh_base.specs.SideList.{edge_cmp}
use Rattle.mesh_shape.specs.Balance.{HasUnbalanced}
use Rattle.mesh_shape.proofs.Prefixes.{after_two}
use Rattle.mesh_shape.proofs.all_faults.put_by_sides.Goals as goal

pub put_doubled-requires : goal.put_doubled-requires
put_doubled-requires c = λ once none. c.in_ok-told.ensures.once once (c.requires (omega arith) none)

pub put_unbalanced-requires-clause-order : goal.put_unbalanced-requires-clause-order
put_unbalanced-requires-clause-order c = subst (IsStrictlySortedBy edge_cmp) (sym c.deref.ensures.value) c.in_ok-told.ensures.order

pub put_unbalanced-requires-clause-sides : goal.put_unbalanced-requires-clause-sides
put_unbalanced-requires-clause-sides c = subst (λ l. HasUnbalanced l c.args.faces.now) (sym c.deref.ensures.value) c.in_ok-told.ensures.sides

pub returns : goal.returns
returns c =
    on_ok_weaker c.put_unbalanced.result
    (λ last. after_two c.args.most c.args.faults.now.items c.put_doubled.new.faults.items c.put_unbalanced.new.faults.items _ _ c.in_ok-put_doubled.ensures last)
    c.put_unbalanced.ensures
