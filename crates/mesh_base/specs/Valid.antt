-- What the tracker keeps of its mesh.
use Rattle.mesh_base.specs.Mesh.{Mesh, IsSound}
use Rattle.mesh_base.specs.Sides.{IsClosed}
use Rattle.mesh_base.specs.Placements.{IsClearMesh}

-- A closed surface that does not meet itself: the mesh is within the laws and limits of a mesh, it
-- is closed, and no edge meets a face that shares no vertex with it.
pub record IsValidSurface (m : Mesh) : Type 0 where
  pub sound : IsSound m
  pub closed : IsClosed m
  pub clear : IsClearMesh m
