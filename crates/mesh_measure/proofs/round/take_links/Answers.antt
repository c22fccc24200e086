use Rattle.std.proofs.Common.{sym, subst, arith}
use Rattle.mesh_measure.proofs.Linking.{IsTaking, taking_none, taking_on, taken_all}
use Rattle.mesh_measure.proofs.round.take_links.Goals as goal

pub loop-next-init : goal.loop-next-init
loop-next-init c = subst (λ first. IsTaking first c.args.links.now c.args.links.now c.first.inside.0) c.first.view_is (taking_none c.first.inside.0 c.args.links.now)

pub loop-next-smaller : goal.loop-next-smaller
loop-next-smaller c = let fewer = c.in-Some.ensures.len in omega (arith, fewer)

pub loop-next-preserved : goal.loop-next-preserved
loop-next-preserved c =
    taking_on c.args.first c.args.links.now c.loop-next.links c.remove.new.self c.loop-next.at c.in-Some.next c.loop-next.invariant (sym c.in-Some.ensures.value) c.in-Some.ensures.updates.0

pub returns : goal.returns
returns c = taken_all c.args.first c.args.links.now c.loop-next.links c.remove.new.self c.loop-next.at c.loop-next.invariant c.in_default.ensures.unchanged
