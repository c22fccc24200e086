-- A list that was compared with a mesh.
use Rattle.std.specs.Prelude.{IfSome}
use Rattle.mesh_base.specs.Mesh.{Mesh}
use Rattle.neighbour_list.specs.Listed.{IsListOf}
use Rattle.step_lists.specs.declared.list_of_mesh.ListOfMesh.{ListOfMesh}

-- the list, where there is one, is one of this mesh
abbrev pub IsOfMesh : Mesh → ListOfMesh → Type 0
IsOfMesh m of = IfSome of.kept (λ kept. IsListOf m kept.now.list)
