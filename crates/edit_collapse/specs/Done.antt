-- What a done collapse makes of a mesh, and on what it was tested, by the change that it answers.
use Rattle.std.specs.Prelude.{⊤, Option, Some, None}
use Rattle.edit_base.specs.declared.answers.Change.{Change}
use Rattle.edit_base.specs.declared.answers.Change.TheVariants.{Collapse}
use Rattle.mesh_base.specs.Mesh.{Mesh}
use Rattle.edit_base.specs.Scaffold.{Scaffold}
use Rattle.edit_collapse.specs.Collapse.{collapse_mesh, collapse_scaffold}

-- the change is a collapse
abbrev pub IsCollapse : Change → Type 0
IsCollapse (Collapse a b at) = ⊤
IsCollapse _ = ⊥

-- the mesh after it, with the point that is written; another change makes nothing
abbrev pub collapse_result : Mesh → Change → Mesh
collapse_result m (Collapse a b at) = collapse_mesh m a b at
collapse_result m _ = m

-- the scaffold on which it was tested; another change has none
abbrev pub collapse_tested_on : Mesh → Change → Option Scaffold
collapse_tested_on m (Collapse a b at) = Some (collapse_scaffold m a b at)
collapse_tested_on m _ = None
