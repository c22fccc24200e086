use Rattle.std.proofs.Common.{inr, sym}
use Rattle.pair_candidates.proofs.Beyond.{boxes_part}
use Rattle.pair_candidates.proofs.separation.SlabQuery.is_outside.Goals as goal

pub returns-then-not-overlaps : goal.returns-then-not-overlaps
returns-then-not-overlaps c =
    let q = c.args.self.now in
    let e = q.edge.now in
    λ yes f h. inr (boxes_part q.at c.args.s.now.at e.first.start e.second.start q.first q.second (sym c.if-not-overlaps.ensures) f.c.start f.d.start f.e.start h.c.at h.d.at h.e.at)
