-- The mesh of a half-edge mesh, what is buried of it, and what it keeps.
use Rattle.std.specs.Prelude.{◌≡◌, ℕ, List}
use Rattle.mesh_base.specs.Mesh.{Mesh}
use Rattle.half_mesh.specs.States.{State, meshes_of}
use Rattle.half_mesh.specs.declared.half.HalfMesh.{HalfMesh}

-- its mesh, with what is buried
abbrev pub state_in : HalfMesh → State
state_in s = s.now.state

-- its mesh
abbrev pub mesh_in : HalfMesh → Mesh
mesh_in s = s.now.state.mesh

-- how many additions find memory
abbrev pub spare_in : HalfMesh → ℕ
spare_in s = s.now.spare

-- its kept meshes, the oldest first
abbrev pub kept_in : HalfMesh → List Mesh
kept_in s = meshes_of s.before.items

-- the same mesh, and the same kept meshes
abbrev pub IsUnchanged : HalfMesh → HalfMesh → Type 0
IsUnchanged old new = (mesh_in new ≡ mesh_in old) × (kept_in new ≡ kept_in old)
