use Rattle.std.proofs.Common.{ap, ◌∙◌}
use Rattle.grid_base.specs.Triples.{Triple, dot}
use Rattle.neighbour_list.proofs.Words.{total_word, total_within}
use Rattle.neighbour_list.proofs.directions.height.Goals as goal

pub returns-clause-value : goal.returns-clause-value
returns-clause-value c = total_word c.product.result c.product.ensures.within ∙ c.product.ensures.value ∙ ap (λ (t : Triple). dot c.args.n t) c.wide.ensures.value

pub returns-clause-within : goal.returns-clause-within
returns-clause-within c = total_within c.product.result c.product.ensures.within
