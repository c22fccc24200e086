use Rattle.mesh_journal.specs.Boxed.{AreBoxed}
use Rattle.mesh_journal.proofs.index.Index.settle.Given as goal

-- each face of the mesh that had its box has it
abbrev pub invariant-loop-e : goal.invariant-loop-e
invariant-loop-e g l = AreBoxed l.initial.self.grid (g.B.Surface.mesh l.mesh) → AreBoxed l.self.grid (g.B.Surface.mesh l.mesh)
