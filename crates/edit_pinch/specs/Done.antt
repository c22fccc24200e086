-- What a done pinch makes of a mesh, and on what it was tested, by the change that it answers.
use Rattle.std.specs.Prelude.{⊤, Option, Some, None}
use Rattle.edit_base.specs.declared.answers.Change.{Change}
use Rattle.edit_base.specs.declared.answers.Change.TheVariants.{Pinch}
use Rattle.mesh_base.specs.Mesh.{Mesh}
use Rattle.edit_base.specs.Scaffold.{Scaffold}
use Rattle.edit_pinch.specs.Pinch.{pinch_mesh, pinch_scaffold, copy_points}

-- the change is a pinch
abbrev pub IsPinch : Change → Type 0
IsPinch (Pinch v at copies) = ⊤
IsPinch _ = ⊥

-- the mesh after it, with the points that are written; another change makes nothing
abbrev pub pinch_result : Mesh → Change → Mesh
pinch_result m (Pinch v at copies) = pinch_mesh m v at (copy_points copies)
pinch_result m _ = m

-- the scaffold on which it was tested; another change has none
abbrev pub pinch_tested_on : Mesh → Change → Option Scaffold
pinch_tested_on m (Pinch v at copies) = Some (pinch_scaffold m v)
pinch_tested_on m _ = None
