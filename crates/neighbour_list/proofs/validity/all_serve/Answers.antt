use Rattle.std.proofs.Common.{arith}
use Rattle.std.specs.List.{All}
use Rattle.std.proofs.lemmas.List.Elements.{AllWithin-more, at_read}
use Rattle.neighbour_list.specs.declared.cluster_boxes.ClusterBoxes.{ClusterBoxes}
use Rattle.neighbour_list.specs.Clusters.{BoxesServe}
use Rattle.neighbour_list.proofs.validity.all_serve.Goals as goal

pub loop-a-preserved : goal.loop-a-preserved
loop-a-preserved c =
    let boxes = c.args.boxes.now in
    let serves : ClusterBoxes → Type 0 = λ a. All (BoxesServe c.args.skin a) boxes in
    AllWithin-more serves boxes 0 c.loop-a.a-index c.loop-a.invariant
    (at_read boxes serves c.loop-a.a-index c.a-item.result c.loop-a-test.true c.a-item.is (c.in_ok-serves.ensures c.if-not-serves.false))

pub returns : goal.returns
returns c = λ yes k d lt. c.loop-a.invariant k d (omega arith) (omega (arith, lt))
