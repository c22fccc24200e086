-- The state in which an engine stands.
use Rattle.std.specs.Prelude.{List}
use Rattle.mesh_base.specs.Mesh.{Mesh}
use Rattle.track_engine.specs.declared.engine.Engine.{Engine}
use Rattle.track_engine.specs.State.{State, state_of}

-- the engine's state, by what its surface's mesh is and which meshes it keeps
abbrev pub state_in : {S : Type 0} → (S → Mesh) → (S → List Mesh) → Engine S → State
state_in mesh kept engine = state_of (mesh engine.mesh) (kept engine.mesh) engine.run
