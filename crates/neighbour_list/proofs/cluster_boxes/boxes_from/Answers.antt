use Rattle.std.proofs.Common.{subst}
use Rattle.std.proofs.lemmas.List.Elements.{AllWithin-more, at_read}
use Rattle.pair_paths.specs.declared.Path.{Path}
use Rattle.pair_paths.specs.Paths.{path_along}
use Rattle.neighbour_list.specs.declared.reference.Reference.{Reference}
use Rattle.neighbour_list.specs.Clusters.{HoldsWay}
use Rattle.neighbour_list.proofs.Held.{grown}
use Rattle.neighbour_list.proofs.cluster_boxes.boxes_from.Goals as goal

pub loop-k-preserved : goal.loop-k-preserved
loop-k-preserved g c =
    let w = g.P.Paths.motion c.args.paths.now in
    let frame = c.args.frame.now in
    let refs = c.args.refs.now in
    let i = c.loop-k.k-index in
    let here = c.k-item.result in
    let held : Reference → Type 0 = λ k. HoldsWay frame (path_along w k.v) k c.united-all.result in
    let both = c.united-all.ensures in
    AllWithin-more held refs 0 i (λ k d lo hi. grown frame _ _ c.loop-k.all c.united-all.result both.swept both.start both.end (c.loop-k.invariant k d lo hi))
    (at_read refs held i here c.loop-k-test.true c.k-item.is
    (subst (λ (q : Path). HoldsWay frame q here c.united-all.result) c.path_of.ensures
    (grown frame _ _ c.boxes_of_way-here.result c.united-all.result both.other_swept both.other_start both.other_end c.boxes_of_way-here.ensures)))
