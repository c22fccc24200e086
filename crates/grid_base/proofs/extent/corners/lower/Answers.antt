use Rattle.grid_base.proofs.Boxed.{above_word}
use Rattle.grid_base.proofs.extent.corners.lower.Goals as goal

pub returns-clause-greatest : goal.returns-clause-greatest
returns-clause-greatest c = λ p h i.
    let a = c.requires.a_fits in
    let b = c.requires.b_fits in
    record {
      x = above_word p.x c.least.result c.least.ensures.within (c.least.ensures.greatest p.x (above_word p.x _ a.x_fits h.x) (above_word p.x _ b.x_fits i.x));
      y = above_word p.y c.least-2.result c.least-2.ensures.within (c.least-2.ensures.greatest p.y (above_word p.y _ a.y_fits h.y) (above_word p.y _ b.y_fits i.y));
      z = above_word p.z c.least-3.result c.least-3.ensures.within (c.least-3.ensures.greatest p.z (above_word p.z _ a.z_fits h.z) (above_word p.z _ b.z_fits i.z));
    }
