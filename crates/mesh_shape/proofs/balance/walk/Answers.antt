use Rattle.std.proofs.Common.{refl}
use Rattle.mesh_shape.proofs.Differing.{walks_one, walks_other, walks_both}
use Rattle.mesh_shape.proofs.balance.walk.Goals as goal

pub returns-then-rank : goal.returns-then-rank
returns-then-rank c =
    walks_one c.args.one.now c.args.other.now c.args.i c.args.j _ _ c.requires.i_within c.requires.j_within c.requires.one_order c.requires.other_order c.args.list.now.items c.put_new.new.list.items
    c.rank.result c.rank-2.result c.rank.ensures c.rank-2.ensures c.if-rank.true c.in_ok-put_new.ensures

pub returns-then-rank-2 : goal.returns-then-rank-2
returns-then-rank-2 c =
    walks_other c.args.one.now c.args.other.now c.args.i c.args.j _ _ c.requires.i_within c.requires.j_within c.requires.one_order c.requires.other_order c.args.list.now.items c.put_new-then-rank-2.new.list.items
    c.rank-3.result c.rank-4.result c.rank-3.ensures c.rank-4.ensures c.if-rank-2.true c.in_ok-put_new-2.ensures

pub returns : goal.returns
returns c =
    walks_both c.args.one.now c.args.other.now c.args.i c.args.j _ _ c.requires.i_within c.requires.j_within c.requires.one_order c.requires.other_order c.args.list.now.items c.args.list.now.items
    c.rank.result c.rank-2.result c.rank-3.result c.rank-4.result c.rank.ensures c.rank-2.ensures c.rank-3.ensures c.rank-4.ensures c.if-rank.false c.if-rank-2.false refl
