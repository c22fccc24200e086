use Rattle.std.proofs.Common.{◌≡◌, take}
use Rattle.obj_text.specs.Written.{points_in_order}
use Rattle.obj_text.proofs.ranking.points_of.Given as goal

abbrev pub invariant-loop-v : goal.invariant-loop-v
invariant-loop-v g l = l.points ≡ take l.v-index (points_in_order (g.S.Surface.mesh l.mesh))
