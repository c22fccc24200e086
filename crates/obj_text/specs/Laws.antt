-- A mesh that is written is read again.
use Rattle.std.specs.Prelude.{◌≡◌, ℕ, ◌≤◌, List, map, Ok}
use Rattle.std.specs.FinMap as finite
use Rattle.grid_base.specs.declared.TheConstants.{DECIMALS_MAX}
use Rattle.grid_base.specs.declared.Point.{Point}
use Rattle.grid_base.specs.Points.{position_of}
use Rattle.mesh_base.specs.Mesh.{Mesh, IsSound}
use Rattle.mesh_base.specs.Sides.{IsClosed}
use Rattle.mesh_base.specs.Placements.{IsClearMesh}
use Rattle.mesh_base.specs.declared.limits.Scale.{Scale}
use Rattle.mesh_base.specs.Given.{mesh_under}
use Rattle.obj_text.specs.Obj.{lists_of}
use Rattle.obj_text.specs.Written.{rank, mesh_text, ranked_lists, points_in_order, faces_by_rank}

-- on a grid of as many decimals, the text gives the live points and the
-- live faces in order, corners by rank
abbrev pub WrittenIsRead : Type 0
WrittenIsRead = (m : Mesh) (decimals : ℕ) → IsSound m → decimals ≤ DECIMALS_MAX →
    lists_of decimals (mesh_text decimals m) ≡ Ok (ranked_lists m)

-- the live vertices and the live faces numbered from 1 in order, corners by rank, with the limits
-- of a scale
abbrev pub renumbered : Scale → Mesh → Mesh
renumbered scale m = mesh_under scale (points_in_order m) (faces_by_rank m)

-- lists that the text gives make this mesh
abbrev pub ListsGiveRenumbered : Type 0
ListsGiveRenumbered = (scale : Scale) (m : Mesh) (decimals : ℕ) (points : List Point)
    (faces : List (List ℕ)) → IsSound m → decimals ≤ DECIMALS_MAX →
    lists_of decimals (mesh_text decimals m)
    ≡ Ok (record { points = map position_of points; faces = faces }) →
    mesh_under scale points faces ≡ renumbered scale m

-- it is closed where the mesh is that was written
abbrev pub StaysClosed : Type 0
StaysClosed = (scale : Scale) (m : Mesh) → IsSound m → IsClosed m → IsClosed (renumbered scale m)

-- and clear where that is
abbrev pub StaysClear : Type 0
StaysClear = (scale : Scale) (m : Mesh) → IsSound m → IsClearMesh m →
    IsClearMesh (renumbered scale m)

-- the vertices keep their order: each gets its rank as its id
abbrev pub KeepsOrder : Type 0
KeepsOrder = (scale : Scale) (m : Mesh) →
    finite.keys (renumbered scale m).points ≡ map (rank m) (finite.keys m.points)
