use Rattle.mesh_base.specs.Placements.{IsClearMesh}
use Rattle.mesh_base.specs.Sides.{IsClosed}
use Rattle.edit_tests.proofs.edits.assert_steps.Given as goal

-- the mesh stays closed and clear
abbrev pub invariant-loop-step : goal.invariant-loop-step
invariant-loop-step g l = IsClosed (g.S.Surface.mesh l.mesh) × IsClearMesh (g.S.Surface.mesh l.mesh)
