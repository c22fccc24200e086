use Rattle.std.proofs.Common.{sym, subst, arith}
use Rattle.box_tree.proofs.Orders.{HaveBefore, none_yet, one_more}
use Rattle.box_tree.proofs.curve_order.with_places.Goals as goal

pub loop-i-init : goal.loop-i-init
loop-i-init c = subst (HaveBefore 0) (sym c.in_ok-keyed.ensures.items) none_yet

pub loop-i-preserved : goal.loop-i-preserved
loop-i-preserved c = one_more c.loop-i.keyed.items c.push.new.self.items c.loop-i.i c.sort_key.result c.in_ok-push.ensures.items c.loop-i.invariant

pub returns : goal.returns
returns c = record { each = λ j lt. c.loop-i.invariant.each j (omega arith); once = c.loop-i.invariant.once }
