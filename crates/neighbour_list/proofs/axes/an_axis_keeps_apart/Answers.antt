use Rattle.std.proofs.Common.{refl, lit<}
use Rattle.motion_test.specs.Heights.{axis_y, axis_z}
use Rattle.neighbour_list.proofs.axes.an_axis_keeps_apart.Goals as goal

pub returns-then-y_keeps_apart : goal.returns-then-y_keeps_apart
returns-then-y_keeps_apart c = λ _. (1, axis_y, lit< tt, refl, c.y_keeps_apart.ensures c.if-y_keeps_apart.true)

pub returns : goal.returns
returns c = λ yes. (2, axis_z, lit< tt, refl, c.z_keeps_apart.ensures yes)
