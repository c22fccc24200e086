-- When a mesh is another one but for new and moved parts.
use Rattle.std.specs.Prelude.{◌≡◌, ℕ, ◌<◌, List}
use Rattle.std.proofs.Common.{None}
use Rattle.mesh_base.specs.declared.ids.Corners.{Corners}
use Rattle.mesh_base.specs.Mesh.{Mesh, HasCorners}
use Rattle.mesh_base.specs.Placements.{rest_positions}
use Rattle.edit_base.specs.declared.Move.{Move}
use Rattle.edit_base.specs.Scaffold.{move_of}

-- each face below the old mesh's next id is a face of it, and each vertex below its next id that
-- no move names stands where it did
pub record AgreesWhereOld (old new : Mesh) (moves : List Move) : Type 0 where
  pub faces : (f : ℕ) (c : Corners) → HasCorners new f c → f < old.next_face → HasCorners old f c
  pub points : (v : ℕ) → v < old.next_vertex → move_of moves v ≡ None →
      rest_positions new v ≡ rest_positions old v
