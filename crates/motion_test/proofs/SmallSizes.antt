-- Sizes before a motion is halved are among those at each depth.
use Rattle.std.proofs.Common.{Bool, true, false, lit≤}
use Rattle.grid_base.specs.Triples.{Triple, IsWithin, minus}
use Rattle.grid_base.specs.declared.TheConstants.{HALF_MAX, WIDE_MAX, DIFFERENCE_MAX}
use Rattle.grid_base.proofs.Sizes.{minus_within}
use Rattle.grid_base.specs.declared.narrow.TheConstants.{SPAN_MAX}
use Rattle.motion_test.specs.Small.{position_max, difference_max}

pub difference_within : (small : Bool) (a b : Triple) → IsWithin (position_max small) a → IsWithin (position_max small) b → IsWithin (difference_max small) (minus a b)
difference_within true a b p q = minus_within HALF_MAX SPAN_MAX a b p q (lit≤ tt)
difference_within false a b p q = minus_within WIDE_MAX DIFFERENCE_MAX a b p q (lit≤ tt)
