-- What a done split makes of a mesh, and on what it was tested, by the change that it answers.
use Rattle.std.specs.Prelude.{⊤, Option, Some, None}
use Rattle.edit_base.specs.declared.answers.Change.{Change}
use Rattle.edit_base.specs.declared.answers.Change.TheVariants.{Split}
use Rattle.mesh_base.specs.Mesh.{Mesh}
use Rattle.edit_base.specs.Edges.{edge_of}
use Rattle.edit_base.specs.Scaffold.{Scaffold}
use Rattle.edit_split.specs.Split.{split_mesh, split_scaffold}

-- the change is a split
abbrev pub IsSplit : Change → Type 0
IsSplit (Split a b w at) = ⊤
IsSplit _ = ⊥

-- the mesh after it, with the point that is written; another change makes nothing
abbrev pub split_result : Mesh → Change → Mesh
split_result m (Split a b w at) = split_mesh m (edge_of m a b) at
split_result m _ = m

-- the scaffold on which it was tested; another change has none
abbrev pub split_tested_on : Mesh → Change → Option Scaffold
split_tested_on m (Split a b w at) = Some (split_scaffold m (edge_of m a b))
split_tested_on m _ = None
