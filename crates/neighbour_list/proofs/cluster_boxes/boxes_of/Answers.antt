use Rattle.std.proofs.Common.{ap, subst, length, arith}
use Rattle.pair_paths.proofs.Boxed.{AreBoxedTo, boxed_more, all_boxed}
use Rattle.neighbour_list.specs.Clusters.{HoldsCluster}
use Rattle.neighbour_list.proofs.cluster_boxes.boxes_of.Goals as goal

pub loop-refs-init : goal.loop-refs-init
loop-refs-init g c = record { as_long = ap length c.new-boxes.ensures.items; boxed = λ k x lt h. absurd (omega arith) }

pub loop-refs-preserved : goal.loop-refs-preserved
loop-refs-preserved g c =
    let w = g.P.Paths.motion c.args.paths.now in
    let holds = HoldsCluster c.args.frame.now w in
    let box = c.boxes_of_cluster.result in
    let before : AreBoxedTo holds c.args.clusters.now c.loop-refs.refs-index c.loop-refs.boxes.items = record { as_long = c.loop-refs.invariant.as_long; boxed = c.loop-refs.invariant.boxed } in
    let held = subst (λ r. holds r box) c.as_slice.ensures c.boxes_of_cluster.ensures in
    let next = boxed_more holds c.args.clusters.now c.loop-refs.refs-index c.refs-item.result c.loop-refs.boxes.items c.push.new.self.items box c.loop-refs-test.true c.refs-item.is held
    c.in_ok-push.ensures.items before in
    record { as_long = next.as_long; boxed = next.boxed }

pub returns : goal.returns
returns g c = all_boxed (HoldsCluster c.args.frame.now (g.P.Paths.motion c.args.paths.now)) c.args.clusters.now c.loop-refs.refs-index c.loop-refs.boxes.items (omega arith) (record { as_long = c.loop-refs.invariant.as_long; boxed = c.loop-refs.invariant.boxed })
