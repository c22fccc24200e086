-- What a done zip makes of a mesh, by the change that it answers.
use Rattle.std.specs.Prelude.{⊤}
use Rattle.edit_base.specs.declared.answers.Change.{Change}
use Rattle.edit_base.specs.declared.answers.Change.TheVariants.{Zip}
use Rattle.mesh_base.specs.Mesh.{Mesh}
use Rattle.edit_base.specs.Edges.{edge_of}
use Rattle.edit_zip.specs.Zip.{zip_mesh}

-- the change is a zip
abbrev pub IsZip : Change → Type 0
IsZip (Zip a b e f turn) = ⊤
IsZip _ = ⊥

-- the mesh after it, with the turn that is written; another change makes nothing
abbrev pub zip_result : Mesh → Change → Mesh
zip_result m (Zip a b e f turn) = zip_mesh m (edge_of m a b) (edge_of m e f) turn
zip_result m _ = m
