-- The mesh of a journal, and what it keeps.
use Rattle.std.specs.Prelude.{◌≡◌, ℕ, List, vec_len, vec_capacity}
use Rattle.mesh_base.specs.Mesh.{Mesh}
use Rattle.mesh_base.specs.declared.surface.Surface as surface
use Rattle.mesh_journal.specs.declared.undoable.Undoable as undoable
use Rattle.mesh_journal.specs.declared.journal.Journal.{Journal}
use Rattle.mesh_journal.specs.Entries.{trail, spare_of}

module _ {B : Type 0} {u : undoable.Ghosts B} {s : surface.Ghosts B} where
  -- its mesh
  abbrev pub mesh_in : Journal B u s → Mesh
  mesh_in j = s.mesh j.inner

  -- its kept meshes, the oldest first: the mesh at each length of the
  -- journal, up to the present one
  abbrev pub kept_in : Journal B u s → List Mesh
  kept_in j = trail j.entries.items (u.state j.inner)

  -- how many changes find memory
  abbrev pub spare_in : Journal B u s → ℕ
  spare_in j = spare_of (u.spare j.inner) (vec_capacity j.entries) (vec_len j.entries)

  -- the same mesh, and the same kept meshes
  abbrev pub IsUnchanged : Journal B u s → Journal B u s → Type 0
  IsUnchanged old new = (mesh_in new ≡ mesh_in old) × (kept_in new ≡ kept_in old)
