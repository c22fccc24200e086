use Rattle.std.proofs.Common.{◌⊎◌}
use Rattle.std.specs.List.{All, AllWithin}
use Rattle.neighbour_list.specs.Clusters.{HasFace, IsCovered, AreAt}
use Rattle.neighbour_list.proofs.clusters.clusters_along.Given as goal

-- the faces so far are in the clusters so far, which are where the vertices start
abbrev pub invariant-loop-k : goal.invariant-loop-k
invariant-loop-k g l =
    let at = (g.P.Paths.motion l.paths).start in
    record {
      covered : AllWithin (λ k. IsCovered l.all.full k.corners ⊎ HasFace l.all.last k.corners) l.placed 0 l.k-index;
      full_at : All (AreAt at) l.all.full;
      last_at : AreAt at l.all.last;
    }
