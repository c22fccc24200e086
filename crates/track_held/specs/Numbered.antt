-- Vertices and faces with their ids, as a caller gives them, and what may be wrong with them.
use Rattle.std.specs.Prelude.{◌≡◌, ℕ, ⊤, nat_lt, List, map, length, Option, Some, None, if◌then◌else◌}
use Rattle.std.specs.Prelude.{Result, Ok, Err}
use Rattle.std.specs.Option.{option_or, option_map}
use Rattle.std.specs.List.{position_from}
use Rattle.grid_base.specs.declared.TheConstants.{VERTICES_MAX}
use Rattle.grid_decided.specs.Decided.{meets_exactly}
use Rattle.mesh_base.specs.Mesh.{Mesh}
use Rattle.mesh_base.specs.declared.limits.Scale.TheVariants.{Large}
use Rattle.mesh_base.specs.Placements.{rest_positions}
use Rattle.mesh_base.specs.Failing.{first_meeting}
use Rattle.mesh_rows.specs.declared.rows.VertexRow.{VertexRow}
use Rattle.mesh_rows.specs.declared.rows.FaceRow.{FaceRow}
use Rattle.mesh_rows.specs.declared.rows.MeshRows.{MeshRows}
use Rattle.mesh_rows.specs.declared.faults.RowsFault.TheVariants.{TooManyVertices}
use Rattle.mesh_rows.specs.Rows.{mesh_of_rows}
use Rattle.mesh_rows.specs.Faults.{rows_fault}
use Rattle.track_held.specs.declared.given.GivenPoint.{GivenPoint}
use Rattle.track_held.specs.declared.given.NamedPoint.{NamedPoint}
use Rattle.track_held.specs.declared.given.NamedFace.{NamedFace}
use Rattle.track_held.specs.declared.numbered_tracker.NumberedFault.{NumberedFault}
use Rattle.track_held.specs.declared.numbered_tracker.NumberedFault.TheVariants.{Outside, Rows, Meets}
use Rattle.track_held.specs.declared.numbered_tracker.NumberedRefusal.{NumberedRefusal}
use Rattle.track_held.specs.declared.numbered_tracker.NumberedRefusal.TheVariants.{NoMemory, Fault}
use Rattle.track_held.specs.Given.{point_in, is_outside}

-- where a vertex is to stand
abbrev pub numbered_point : NamedPoint → GivenPoint
numbered_point row = record { x = row.x; y = row.y; z = row.z }

-- the vertex with its id; at the origin, where it is not in the box
abbrev pub vertex_in : NamedPoint → VertexRow
vertex_in row = record { id = row.id; at = point_in (numbered_point row) }

-- the face with its id
abbrev pub face_row_in : NamedFace → FaceRow
face_row_in row =
    record { id = row.id; corners = record { first = row.a; second = row.b; third = row.c } }

-- all that a caller gives
abbrev pub given_rows : List NamedPoint → List NamedFace → List ℕ → ℕ → ℕ → MeshRows
given_rows points faces solids next_vertex next_face = record {
  vertices = map vertex_in points;
  faces = map face_row_in faces;
  solids = solids;
  next_vertex = next_vertex;
  next_face = next_face;
}

-- there are more vertices than may live
abbrev pub crowd_fault : List NamedPoint → Option NumberedFault
crowd_fault points =
    if nat_lt VERTICES_MAX (length points) then Some (Rows (TooManyVertices (length points)))
    else None

-- the first vertex that is not in the box, by its place, from 1
abbrev pub outside_fault : List NamedPoint → Option NumberedFault
outside_fault points =
    option_map (λ number. Outside number)
    (position_from (λ row. is_outside (numbered_point row)) 1 points)

-- the first pair of a mesh that meets: an edge, and a face that shares no vertex with it
abbrev pub meet_fault : Mesh → Option NumberedFault
meet_fault m = option_map (λ pair. Meets pair) (first_meeting meets_exactly m (rest_positions m))

-- the first fault of rows in the box, by the limits of large meshes, or else the first pair that
-- meets
abbrev pub rows_or_meet_fault : MeshRows → Option NumberedFault
rows_or_meet_fault rows =
    option_or (option_map (λ fault. Rows fault) (rows_fault Large rows))
    (meet_fault (mesh_of_rows Large rows))

-- The first fault of what is given, in this order: too many vertices, a vertex that is not in the
-- box, another fault of rows, a pair that meets. None exactly where a tracker can be made of them.
abbrev pub numbered_fault : List NamedPoint → MeshRows → Option NumberedFault
numbered_fault points rows =
    option_or (crowd_fault points) (option_or (outside_fault points) (rows_or_meet_fault rows))

-- what a refusal says of the first fault
abbrev pub IsRefusal : Option NumberedFault → NumberedRefusal → Type 0
IsRefusal fault NoMemory = ⊤
IsRefusal fault (Fault f) = fault ≡ Some f

-- it is a refusal for a fault
abbrev pub IsFaulty : {T : Type 0} → Result T NumberedRefusal → Type 0
IsFaulty (Ok held) = ⊥
IsFaulty (Err NoMemory) = ⊥
IsFaulty (Err (Fault f)) = ⊤
