use Rattle.motion_test.proofs.SmallSizes.{difference_within}
use Rattle.motion_test.proofs.small.difference.Goals as goal

pub returns-clause-within : goal.returns-clause-within
returns-clause-within c = rw c.minus.ensures.value (difference_within c.args.small c.args.a c.args.b c.requires.a_fits c.requires.b_fits)
