-- Meshes whose next ids are given.
use Rattle.std.specs.Prelude.{ℕ, ◌+◌, ◌<◌, ◌≤◌}
use Rattle.grid_base.specs.declared.TheConstants.{ID_MAX}
use Rattle.mesh_base.specs.declared.limits.Scale.{Scale}
use Rattle.mesh_base.specs.declared.lists.MeshLists.{MeshLists}
use Rattle.mesh_base.specs.Mesh.{Mesh}
use Rattle.mesh_base.specs.Given.{listed_mesh}

-- the id may be the next where the ids up to a number are in use
pub record MayBeNext (used id : ℕ) : Type 0 where
  pub above : used < id
  pub made : id ≤ (ID_MAX + 1)

-- the mesh with these next ids
abbrev pub numbered : Mesh → ℕ → ℕ → Mesh
numbered m next_vertex next_face = record m { next_vertex = next_vertex; next_face = next_face }

-- the mesh that lists give, with the limits of a scale and with these next ids
abbrev pub numbered_mesh : Scale → MeshLists → ℕ → ℕ → Mesh
numbered_mesh scale lists next_vertex next_face =
    numbered (listed_mesh scale lists) next_vertex next_face
