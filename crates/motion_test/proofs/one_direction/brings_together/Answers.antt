use Rattle.grid_base.proofs.SeparationLaws.{brought_backwards, taken_backwards}
use Rattle.motion_test.proofs.one_direction.brings_together.Goals as goal

pub returns : goal.returns
returns c = (
  λ yes. taken_backwards c.args.t.now c.args.s.now c.args.n (c.takes_apart.ensures.0 yes),
  λ brought. c.takes_apart.ensures.1 (brought_backwards c.args.s.now c.args.t.now c.args.n brought),
)
