-- The rows of a mesh that takes new ids.
use Rattle.std.specs.Prelude.{ℕ, List, map}
use Rattle.std.specs.Option.{unwrap_or}
use Rattle.std.specs.List.{filter}
use Rattle.std.specs.FinMap as finite
use Rattle.mesh_base.specs.declared.ids.Corners.{Corners}
use Rattle.mesh_base.specs.Mesh.{Mesh, is_solid}
use Rattle.mesh_base.specs.Placements.{point_of}
use Rattle.mesh_rows.specs.declared.VertexRow.{VertexRow}
use Rattle.mesh_rows.specs.declared.FaceRow.{FaceRow}
use Rattle.mesh_ids.specs.NewIds.{renamed}

-- a vertex by another id, where it stands
abbrev pub vertex_row : Mesh → (ℕ → ℕ) → ℕ → VertexRow
vertex_row m id v = record { id = id v; at = point_of m v }

-- the corners of a face; none that lives, where it does not
abbrev pub corners_at : Mesh → ℕ → Corners
corners_at m f = unwrap_or (finite.get m.faces f) (record { first = 0; second = 0; third = 0 })

-- a face by another id, its corners by others
abbrev pub face_row : Mesh → (ℕ → ℕ) → (ℕ → ℕ) → ℕ → FaceRow
face_row m id corner f = record { id = id f; corners = renamed corner (corners_at m f) }

-- the solid vertices among these, by other ids
abbrev pub solid_ids : Mesh → (ℕ → ℕ) → List ℕ → List ℕ
solid_ids m id vs = map id (filter (is_solid m) vs)
