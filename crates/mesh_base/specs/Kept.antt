-- Kept meshes, and when a mark holds.
use Rattle.std.specs.Prelude.{◌≡◌, ℕ, ◌+◌, ◌<◌, ◌≤◌, List, take, length, slice_get, Some}
use Rattle.mesh_base.specs.Mesh.{Mesh}
use Rattle.mesh_base.specs.declared.marks.Mark.{Mark}

-- the one list is a front of the other
abbrev pub BeginsWith : List Mesh → List Mesh → Type 0
BeginsWith kept front = take (length front) kept ≡ front

-- the mark stands for a kept mesh; `beyond` is how far its `under` may lie beyond its `place`
pub record MarkHolds (beyond : ℕ) (kept : List Mesh) (mark : Mark) : Type 0 where
  pub kept_there : mark.place < length kept
  pub under_near : mark.under ≤ mark.place + beyond

-- the mesh for which the mark stands
abbrev pub StandsFor : List Mesh → Mark → Mesh → Type 0
StandsFor kept mark m = slice_get kept mark.place ≡ Some m
