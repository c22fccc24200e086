-- When an engine is ready for a directive.
use Rattle.std.specs.Prelude.{ℕ, List}
use Rattle.mesh_base.specs.Mesh.{Mesh}
use Rattle.step_choose.specs.Settings.{AreWithinLimits}
use Rattle.track_engine.specs.declared.engine.Engine.{Engine}
use Rattle.track_engine.specs.Engines.{state_in}
use Rattle.track_engine.specs.Invariant.{IsRunInvariant, MarksHold}

-- Its state is as each directive leaves it, the marks of its open groups hold, and its
-- settings are within their limits.
pub record IsReady {S : Type 0} (beyond : ℕ) (mesh : S → Mesh) (kept : S → List Mesh)
    (engine : Engine S) : Type 0 where
  pub invariant : IsRunInvariant (state_in mesh kept engine)
  pub marks : MarksHold beyond (kept engine.mesh) engine.run.groups
  pub limits : AreWithinLimits engine.run.set
