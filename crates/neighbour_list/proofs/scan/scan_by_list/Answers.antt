use Rattle.std.proofs.Common.{ap, subst, sym, ◌∙◌}
use Rattle.std.specs.List.{All}
use Rattle.mesh_base.specs.Placements.{rest_positions}
use Rattle.mesh_base.specs.Shifts.{moved_by}
use Rattle.pair_scan.specs.Found.{AreFound}
use Rattle.neighbour_list.specs.Listed.{IsApart, failing_in}
use Rattle.neighbour_list.specs.Clusters.{ClustersServe}
use Rattle.neighbour_list.proofs.ByList.{by_list, listed_apart}
use Rattle.neighbour_list.proofs.scan.scan_by_list.Goals as goal

pub failing_in-requires-clause-apart : goal.failing_in-requires-clause-apart
failing_in-requires-clause-apart g c =
    let m = g.S.Surface.mesh c.args.mesh.now in
    let of = c.requires.list in
    subst (All (IsApart (rest_positions m))) (sym (c.as_slice-3.ensures ∙ of.pairs)) (listed_apart m of.at c.args.list.now.skin c.requires.clear)

pub returns : goal.returns
returns g c =
    let m = g.S.Surface.mesh c.args.mesh.now in
    let w = moved_by m c.args.by.now in
    let list = c.args.list.now in
    let of = c.requires.list in
    let frame = c.middle_frame-frame.result in
    let serve : ClustersServe list.skin frame w list.clusters = subst (ClustersServe list.skin frame w) c.as_slice-2.ensures (c.in_ok-clusters_serve.ensures c.if-not-branch.false) in
    let all = ap (failing_in c.args.depth w) (c.as_slice-3.ensures ∙ of.pairs) ∙ by_list m of.at frame w list.skin c.args.depth list.clusters of.references of.covered serve in
    subst (λ names. AreFound c.args.ends_early names c.in_ok-found.found) all c.in_ok-found.ensures
