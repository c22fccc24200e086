use Rattle.grid_base.proofs.Boxed.{below_word}
use Rattle.grid_base.proofs.extent.corners.upper.Goals as goal

pub returns-clause-least : goal.returns-clause-least
returns-clause-least c = λ p h i.
    let a = c.requires.a_fits in
    let b = c.requires.b_fits in
    record {
      x = below_word p.x c.most.result c.most.ensures.within (c.most.ensures.least p.x (below_word p.x _ a.x_fits h.x) (below_word p.x _ b.x_fits i.x));
      y = below_word p.y c.most-2.result c.most-2.ensures.within (c.most-2.ensures.least p.y (below_word p.y _ a.y_fits h.y) (below_word p.y _ b.y_fits i.y));
      z = below_word p.z c.most-3.result c.most-3.ensures.within (c.most-3.ensures.least p.z (below_word p.z _ a.z_fits h.z) (below_word p.z _ b.z_fits i.z));
    }
