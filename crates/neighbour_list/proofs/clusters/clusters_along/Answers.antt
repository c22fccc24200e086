use Rattle.std.proofs.Common.{◌⊎◌, get_or, inr, refl, subst, sym, arith}
use Rattle.std.specs.List.{All}
use Rattle.std.proofs.lemmas.List.Elements.{AllWithin-more, at_read}
use Rattle.neighbour_list.specs.declared.order.OnCurve.{OnCurve}
use Rattle.neighbour_list.specs.Clusters.{HasFace, IsCovered, AreAt}
use Rattle.neighbour_list.proofs.Growing.{closed_covers, closed_at}
use Rattle.neighbour_list.proofs.clusters.clusters_along.Goals as goal

pub loop-k-preserved : goal.loop-k-preserved
loop-k-preserved g c =
    let placed = c.args.placed.now in
    let i = c.loop-k.k-index in
    let all = c.put_into.new.all in
    let has : OnCurve → Type 0 = λ k. IsCovered all.full k.corners ⊎ HasFace all.last k.corners in
    let put = c.in_ok-put_into.ensures in
    record {
      covered = AllWithin-more has placed 0 i (λ k d lo hi. put.kept refl _ (c.loop-k.invariant.covered k d lo hi))
          (at_read placed has i c.k-item.result c.loop-k-test.true c.k-item.is (inr (put.has refl)));
      full_at = put.full_at refl c.loop-k.invariant.full_at c.loop-k.invariant.last_at;
      last_at = put.last_at refl c.loop-k.invariant.last_at;
    }

pub returns-clause-covered : goal.returns-clause-covered
returns-clause-covered g c = λ k d lt.
    let corners = (get_or c.args.placed.now k d).corners in
    subst (λ full. IsCovered full corners) (sym (c.in_ok-close_last.ensures.full refl)) (closed_covers c.loop-k.all.full c.loop-k.all.last corners (c.loop-k.invariant.covered k d (omega arith) (omega arith)))

pub returns-clause-at : goal.returns-clause-at
returns-clause-at g c =
    let at = (g.P.Paths.motion c.args.paths.now).start in
    subst (All (AreAt at)) (sym (c.in_ok-close_last.ensures.full refl)) (closed_at at _ _ c.loop-k.invariant.full_at c.loop-k.invariant.last_at)
