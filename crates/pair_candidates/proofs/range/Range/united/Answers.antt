use Rattle.grid_base.specs.Triples.{dot}
use Rattle.pair_candidates.proofs.Beyond.{total_low, total_high, at_most}
use Rattle.pair_candidates.proofs.range.Range.united.Goals as goal

pub returns-clause-first : goal.returns-clause-first
returns-clause-first c =
    let r = c.args.self.now in
    λ n p h. record {
      low = total_low c.least.result (dot n p) c.least.ensures.within (at_most c.least.result _ (dot n p) c.least.ensures.first (total_low r.low (dot n p) r.low_fits h.low));
      high = total_high c.most.result (dot n p) c.most.ensures.within (at_most (dot n p) _ c.most.result (total_high r.high (dot n p) r.high_fits h.high) c.most.ensures.first);
    }

pub returns-clause-second : goal.returns-clause-second
returns-clause-second c =
    let r = c.args.other.now in
    λ n p h. record {
      low = total_low c.least.result (dot n p) c.least.ensures.within (at_most c.least.result _ (dot n p) c.least.ensures.second (total_low r.low (dot n p) r.low_fits h.low));
      high = total_high c.most.result (dot n p) c.most.ensures.within (at_most (dot n p) _ c.most.result (total_high r.high (dot n p) r.high_fits h.high) c.most.ensures.second);
    }
