-- Where a walk goes on from a vertex.
use Rattle.std.specs.Prelude.{ℕ, List, map}
use Rattle.mesh_base.specs.Mesh.{Mesh}
use Rattle.mesh_base.specs.Sides.{faces_at}
use Rattle.edit_base.specs.Edges.{corners_at}
use Rattle.mesh_measure.specs.Round.{behind}

-- the corners behind a vertex, in the faces that have it
abbrev pub ahead : Mesh → ℕ → List ℕ
ahead m v = map (λ f. behind (corners_at m f) v) (faces_at m v)
