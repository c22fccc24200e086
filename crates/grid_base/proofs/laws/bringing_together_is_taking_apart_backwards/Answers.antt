use Rattle.grid_base.proofs.SeparationLaws.{brought_backwards, taken_backwards}
use Rattle.grid_base.proofs.laws.bringing_together_is_taking_apart_backwards.Goals as goal

pub returns : goal.returns
returns c = λ s t n. (brought_backwards s t n, taken_backwards t s n)
