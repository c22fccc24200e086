use Rattle.std.proofs.Common.{◌≡◌, drop}
use Rattle.edit_drop.specs.Drop.{any_solid}
use Rattle.edit_drop.proofs.collapses.any_solid.Given as goal

-- one of all is one of those to come
abbrev pub invariant-loop-v : goal.invariant-loop-v
invariant-loop-v g l = any_solid (g.S.Surface.mesh l.mesh) l.vs ≡ any_solid (g.S.Surface.mesh l.mesh) (drop l.v-index l.vs)
