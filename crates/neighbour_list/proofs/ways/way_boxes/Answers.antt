use Rattle.std.proofs.Common.{ap, length, arith}
use Rattle.pair_paths.proofs.Boxed.{AreBoxedTo, boxed_more, all_boxed}
use Rattle.neighbour_list.specs.Clusters.{IsWayBox}
use Rattle.neighbour_list.proofs.ways.way_boxes.Goals as goal

pub loop-b-init : goal.loop-b-init
loop-b-init c = record { as_long = ap length c.new-ways.ensures.items; boxed = λ k x lt h. absurd (omega arith) }

pub loop-b-preserved : goal.loop-b-preserved
loop-b-preserved c =
    let before : AreBoxedTo IsWayBox c.args.boxes.now c.loop-b.b-index c.loop-b.ways.items = record { as_long = c.loop-b.invariant.as_long; boxed = c.loop-b.invariant.boxed } in
    let next = boxed_more IsWayBox c.args.boxes.now c.loop-b.b-index c.b-item.result c.loop-b.ways.items c.push.new.self.items c.way_box.result c.loop-b-test.true c.b-item.is c.way_box.ensures
    c.in_ok-push.ensures.items before in
    record { as_long = next.as_long; boxed = next.boxed }

pub returns : goal.returns
returns c = all_boxed IsWayBox c.args.boxes.now c.loop-b.b-index c.loop-b.ways.items (omega arith) (record { as_long = c.loop-b.invariant.as_long; boxed = c.loop-b.invariant.boxed })
