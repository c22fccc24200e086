use Rattle.std.proofs.Common.{refl}
use Rattle.std.proofs.lemmas.Bool.{false≢true}
use Rattle.grid_meets.proofs.meets.Goals as goal

pub returns-then-axis_keeps_apart : goal.returns-then-axis_keeps_apart
returns-then-axis_keeps_apart c = (λ no. absurd (false≢true no), λ w. absurd (c.if-axis_keeps_apart.ensures refl w))
