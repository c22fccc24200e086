-- What is wrong with rows, and where first. Each row is tested in the mesh that those before it make.
use Rattle.std.specs.Prelude.{◌≡◌, ℕ, ◌+◌, ◌==◌, ◌&&◌, ⊤, Bool, false, is_some, List, [], ◌∷◌, length, find}
use Rattle.std.specs.Prelude.{nat_lt, nat_le, Option, Some, None, if◌then◌else◌}
use Rattle.std.specs.Option.{option_or, option_map, option_map_or}
use Rattle.std.specs.FinMap as finite
use Rattle.grid_base.specs.declared.TheConstants.{ID_MAX}
use Rattle.mesh_base.specs.declared.ids.Corners.{Corners}
use Rattle.mesh_base.specs.Mesh.{Mesh, equal_up_to_rotation}
use Rattle.mesh_base.specs.Sides.{faces_running, runs}
use Rattle.mesh_base.specs.Changes.{with_solid}
use Rattle.mesh_base.specs.declared.limits.Scale.{Scale}
use Rattle.mesh_base.specs.Limits.{limits_of}
use Rattle.mesh_shape.specs.Shape.{repeats}
use Rattle.mesh_rows.specs.declared.rows.VertexRow.{VertexRow}
use Rattle.mesh_rows.specs.declared.rows.FaceRow.{FaceRow}
use Rattle.mesh_rows.specs.declared.rows.MeshRows.{MeshRows}
use Rattle.mesh_rows.specs.declared.faults.RowsFault.{RowsFault}
use Rattle.mesh_rows.specs.declared.faults.RowsFault.TheVariants.{TooManyVertices, TooManyFaces, NextVertex, NextFace}
use Rattle.mesh_rows.specs.declared.faults.RowsFault.TheVariants.{VertexOrder, FaceOrder, NoVertex, Repeated, Doubled}
use Rattle.mesh_rows.specs.declared.faults.RowsFault.TheVariants.{NotSolid, Unbalanced}
use Rattle.mesh_rows.specs.declared.faults.RowsRefusal.{RowsRefusal}
use Rattle.mesh_rows.specs.declared.faults.RowsRefusal.TheVariants.{NoMemory, Fault}
use Rattle.mesh_rows.specs.Making.{with_vertex_row, with_face_row, empty_under, of_vertices, of_faces, of_all_rows}

-- ---- numbers

-- whether the id can be the next: it is not 0, and at most one above the greatest
abbrev pub is_next : ℕ → Bool
is_next id = nat_le 1 id && nat_le id (ID_MAX + 1)

-- more rows than may live at a scale, or a next id that cannot be
abbrev pub limits_fault : Scale → MeshRows → Option RowsFault
limits_fault scale rows =
    option_or
    (if nat_lt (limits_of scale).vertices (length rows.vertices)
    then Some (TooManyVertices (length rows.vertices)) else None)
    (option_or
    (if nat_lt (limits_of scale).faces (length rows.faces)
    then Some (TooManyFaces (length rows.faces)) else None)
    (option_or
    (if is_next rows.next_vertex then None else Some (NextVertex rows.next_vertex))
    (if is_next rows.next_face then None else Some (NextFace rows.next_face))))

-- ---- vertices

-- whether a row may have the id: it is at least the next one so far, and below the one that is told
abbrev pub may_have : ℕ → ℕ → ℕ → Bool
may_have low next id = nat_le low id && nat_lt id next

-- the first vertex, from this place on, that may not have its id
abbrev pub vertices_fault : ℕ → ℕ → Mesh → List VertexRow → Option RowsFault
vertices_fault next place m [] = None
vertices_fault next place m (row ∷ rows) =
    if may_have m.next_vertex next row.id
    then vertices_fault next (place + 1) (with_vertex_row m row) rows
    else Some (VertexOrder place)

-- ---- faces

-- the first corner that is no live vertex
abbrev pub no_corner : Mesh → Corners → Option ℕ
no_corner m c =
    if is_some (finite.get m.points c.first)
    then (if is_some (finite.get m.points c.second)
    then (if is_some (finite.get m.points c.third) then None else Some 3) else Some 2) else Some 1

-- whether a face has the corners, turned or not
abbrev pub has_corners_at : Mesh → Corners → ℕ → Bool
has_corners_at m c f =
    option_map_or (λ d. equal_up_to_rotation d c) (finite.get m.faces f) false

-- the first face that has the corners, turned or not: it runs from the first to the second
abbrev pub equal_face : Mesh → Corners → Option ℕ
equal_face m c = find (has_corners_at m c) (faces_running m c.first c.second)

-- what is wrong with the corners of a face: one is no live vertex, or stands twice, or all are
-- those of an earlier face
abbrev pub corners_fault : Mesh → FaceRow → Option RowsFault
corners_fault m row =
    option_or (option_map (λ corner. NoVertex row.id corner) (no_corner m row.corners))
    (option_or (if repeats row.corners then Some (Repeated row.id) else None)
    (option_map (λ first. Doubled first row.id) (equal_face m row.corners)))

-- what is wrong with the face at a place
abbrev pub face_fault : ℕ → ℕ → Mesh → FaceRow → Option RowsFault
face_fault next place m row =
    if may_have m.next_face next row.id then corners_fault m row else Some (FaceOrder place)

-- the first fault of faces from this place on
abbrev pub faces_fault : ℕ → ℕ → Mesh → List FaceRow → Option RowsFault
faces_fault next place m [] = None
faces_fault next place m (row ∷ rows) =
    option_or (face_fault next place m row)
    (faces_fault next (place + 1) (with_face_row m row) rows)

-- ---- solid vertices

-- the first vertex that is not live or not above the last
abbrev pub solids_fault : ℕ → Mesh → List ℕ → Option RowsFault
solids_fault last m [] = None
solids_fault last m (v ∷ vs) =
    if nat_lt last v && is_some (finite.get m.points v)
    then solids_fault v (with_solid m v) vs
    else Some (NotSolid v)

-- ---- balance

-- as many faces run along a side as back
abbrev pub side_fault : Mesh → ℕ → ℕ → Option RowsFault
side_fault m u v = if runs m u v == runs m v u then None else Some (Unbalanced u v)

-- the same of the three sides of a face, in order
abbrev pub sides_fault : Mesh → Corners → Option RowsFault
sides_fault m c =
    option_or (side_fault m c.first c.second)
    (option_or (side_fault m c.second c.third) (side_fault m c.third c.first))

-- the same of faces, in order
abbrev pub balance_fault : Mesh → List FaceRow → Option RowsFault
balance_fault m [] = None
balance_fault m (row ∷ rows) = option_or (sides_fault m row.corners) (balance_fault m rows)

-- ---- all

-- the first fault beside the numbers
abbrev pub made_fault : Scale → MeshRows → Option RowsFault
made_fault scale rows =
    option_or (vertices_fault rows.next_vertex 1 (empty_under scale) rows.vertices)
    (option_or (faces_fault rows.next_face 1 (of_vertices scale rows) rows.faces)
    (option_or (solids_fault 0 (of_faces scale rows) rows.solids)
    (balance_fault (of_all_rows scale rows) rows.faces)))

-- The first fault of rows, in this order: the numbers, the vertices, the faces and the solid
-- vertices row by row, a side. None exactly where a mesh of the scale can be made.
abbrev pub rows_fault : Scale → MeshRows → Option RowsFault
rows_fault scale rows = option_or (limits_fault scale rows) (made_fault scale rows)

-- what a refusal says of the first fault
abbrev pub IsRefusal : Option RowsFault → RowsRefusal → Type 0
IsRefusal fault NoMemory = ⊤
IsRefusal fault (Fault f) = fault ≡ Some f
