use Rattle.std.proofs.Common.{◌≡◌, drop}
use Rattle.mesh_rows.specs.Faults.{balance_fault}
use Rattle.mesh_rows.proofs.balance.balance_fault.Given as goal

-- the first of all is the first of those to come
abbrev pub invariant-loop-row : goal.invariant-loop-row
invariant-loop-row g l = balance_fault (g.S.Surface.mesh l.mesh) l.rows ≡ balance_fault (g.S.Surface.mesh l.mesh) (drop l.row-index l.rows)
