use Rattle.std.proofs.Common.{sym, subst, ◌≤ℤ◌, ◌∙◌}
use Rattle.std.proofs.lemmas.Int.{to_z-of_z}
use Rattle.std.specs.Int.{w128}
use Rattle.grid_base.specs.Triples.{dot}
use Rattle.pair_candidates.proofs.Beyond.{total_fits, three_up, low_in, high_in, term_low, term_high}
use Rattle.pair_candidates.proofs.separation.reach.Goals as goal

pub returns : goal.returns
returns c =
    let n = c.args.n in
    let box = c.args.e.now in
    let first = to_z-of_z w128 c.product.result (total_fits c.product.result c.product.ensures.within) in
    let last = to_z-of_z w128 c.product-2.result (total_fits c.product-2.result c.product-2.ensures.within) in
    λ p h. record {
      low = subst (λ r. r ≤ℤ dot n p) (sym (first ∙ c.product.ensures.value)) (three_up _ _ _ _ _ _
          (term_low n.x _ p.x c.requires.x_fits c.lowest.ensures.within (c.lowest.ensures.least p.x (low_in _ p.x box.ordered.low_fits.x_fits h.x_low) (high_in _ p.x box.ordered.high_fits.x_fits h.x_high)))
          (term_low n.y _ p.y c.requires.y_fits c.lowest-2.ensures.within (c.lowest-2.ensures.least p.y (low_in _ p.y box.ordered.low_fits.y_fits h.y_low) (high_in _ p.y box.ordered.high_fits.y_fits h.y_high)))
          (term_low n.z _ p.z c.requires.z_fits c.lowest-3.ensures.within (c.lowest-3.ensures.least p.z (low_in _ p.z box.ordered.low_fits.z_fits h.z_low) (high_in _ p.z box.ordered.high_fits.z_fits h.z_high))));
      high = subst (λ r. dot n p ≤ℤ r) (sym (last ∙ c.product-2.ensures.value)) (three_up _ _ _ _ _ _
          (term_high n.x _ p.x c.requires.x_fits c.highest.ensures.within (c.highest.ensures.greatest p.x (low_in _ p.x box.ordered.low_fits.x_fits h.x_low) (high_in _ p.x box.ordered.high_fits.x_fits h.x_high)))
          (term_high n.y _ p.y c.requires.y_fits c.highest-2.ensures.within (c.highest-2.ensures.greatest p.y (low_in _ p.y box.ordered.low_fits.y_fits h.y_low) (high_in _ p.y box.ordered.high_fits.y_fits h.y_high)))
          (term_high n.z _ p.z c.requires.z_fits c.highest-3.ensures.within (c.highest-3.ensures.greatest p.z (low_in _ p.z box.ordered.low_fits.z_fits h.z_low) (high_in _ p.z box.ordered.high_fits.z_fits h.z_high))));
    }
