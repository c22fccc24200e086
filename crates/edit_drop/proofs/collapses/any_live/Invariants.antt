use Rattle.std.proofs.Common.{◌≡◌, drop}
use Rattle.edit_drop.specs.Drop.{any_live}
use Rattle.edit_drop.proofs.collapses.any_live.Given as goal

-- one of all is one of those to come
abbrev pub invariant-loop-v : goal.invariant-loop-v
invariant-loop-v g l = any_live (g.S.Surface.mesh l.mesh) l.vs ≡ any_live (g.S.Surface.mesh l.mesh) (drop l.v-index l.vs)
