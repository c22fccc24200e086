-- What a done flip makes of a mesh, and on what it was tested, by the change that it answers.
use Rattle.std.specs.Prelude.{⊤, Option, Some, None}
use Rattle.edit_base.specs.declared.answers.Change.{Change}
use Rattle.edit_base.specs.declared.answers.Change.TheVariants.{Flip}
use Rattle.mesh_base.specs.Mesh.{Mesh}
use Rattle.edit_base.specs.Edges.{edge_of}
use Rattle.edit_base.specs.Scaffold.{Scaffold}
use Rattle.edit_flip.specs.Flip.{flip_mesh, flip_scaffold}

-- the change is a flip
abbrev pub IsFlip : Change → Type 0
IsFlip (Flip a b) = ⊤
IsFlip _ = ⊥

-- the mesh after it, with the edge that is written; another change makes nothing
abbrev pub flip_result : Mesh → Change → Mesh
flip_result m (Flip a b) = flip_mesh m (edge_of m a b)
flip_result m _ = m

-- the scaffold on which it was tested; another change has none
abbrev pub flip_tested_on : Mesh → Change → Option Scaffold
flip_tested_on m (Flip a b) = Some (flip_scaffold m (edge_of m a b))
flip_tested_on m _ = None
