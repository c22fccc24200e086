use Rattle.std.proofs.Common.{arith}
use Rattle.std.proofs.lemmas.List.Elements.{AllWithin-more, at_read}
use Rattle.neighbour_list.specs.declared.cluster_boxes.ClusterBoxes.{ClusterBoxes}
use Rattle.neighbour_list.specs.Clusters.{HasDriftsOf}
use Rattle.neighbour_list.proofs.Held.{drifts_grown}
use Rattle.neighbour_list.proofs.validity.united_from.Goals as goal

pub loop-b-preserved : goal.loop-b-preserved
loop-b-preserved c =
    let boxes = c.args.boxes.now in
    let i = c.loop-b.b-index in
    let both = c.united-all.ensures in
    let held : ClusterBoxes → Type 0 = λ b. HasDriftsOf b c.united-all.result in
    AllWithin-more held boxes 0 i (λ k d lo hi. drifts_grown _ c.loop-b.all c.united-all.result both.start both.end (c.loop-b.invariant k d lo hi))
    (at_read boxes held i c.b-item.result c.loop-b-test.true c.b-item.is (record { start = both.other_start; end = both.other_end }))

pub returns : goal.returns
returns c = λ k d lt. c.loop-b.invariant k d (omega arith) (omega (arith, lt))
