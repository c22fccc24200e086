-- The mesh of a plain mesh, and what it keeps.
use Rattle.std.specs.Prelude.{◌≡◌, List}
use Rattle.mesh_base.specs.Mesh.{Mesh}
use Rattle.mesh_plain.specs.declared.plain.PlainMesh.{PlainMesh}

-- its mesh
abbrev pub mesh_in : PlainMesh → Mesh
mesh_in s = s.now

-- its kept meshes, the oldest first
abbrev pub kept_in : PlainMesh → List Mesh
kept_in s = s.before.items

-- the same mesh, and the same kept meshes
abbrev pub IsUnchanged : PlainMesh → PlainMesh → Type 0
IsUnchanged old new = (mesh_in new ≡ mesh_in old) × (kept_in new ≡ kept_in old)
