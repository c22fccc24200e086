use Rattle.neighbour_list.proofs.Words.{half_word, half_within}
use Rattle.std.proofs.Common.{ap, ◌∙◌}
use Rattle.grid_base.specs.Triples.{Triple}
use Rattle.neighbour_list.proofs.axes.x.Goals as goal

pub returns-clause-value : goal.returns-clause-value
returns-clause-value c = half_word c.wide.result.x c.wide.ensures.within.x_fits ∙ ap (λ (t : Triple). t.x) c.wide.ensures.value

pub returns-clause-within : goal.returns-clause-within
returns-clause-within c = half_within c.wide.result.x c.wide.ensures.within.x_fits
