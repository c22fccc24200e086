use Rattle.std.proofs.Common.{◌≡◌, drop}
use Rattle.mesh_shape.specs.Balance.{rises_from}
use Rattle.mesh_shape.proofs.balance.rise.Given as goal

-- all sides rise where those to come do, from the last on
abbrev pub invariant-loop-side : goal.invariant-loop-side
invariant-loop-side l = rises_from l.last (drop l.side-index l.sides) ≡ rises_from 0 l.sides
