use Rattle.std.proofs.Common.{refl}
use Rattle.mesh_shape.proofs.balance.put_sides.Goals as goal

pub returns-clause-small_up : goal.returns-clause-small_up
returns-clause-small_up c = λ ok small. c.put_side-3.ensures.small_up ok (c.in_ok-put_side-2.ensures.small_up refl (c.in_ok-put_side.ensures.small_up refl small))

pub returns-clause-small_down : goal.returns-clause-small_down
returns-clause-small_down c = λ ok small. c.put_side-3.ensures.small_down ok (c.in_ok-put_side-2.ensures.small_down refl (c.in_ok-put_side.ensures.small_down refl small))
