-- The mesh that rows of which nothing is wrong make is the mesh of the rows.
use Rattle.std.proofs.Common.{◌≡◌, ℕ, ◌+◌, List, [], ◌∷◌, None, map, refl, ap, ◌∙◌}
use Rattle.std.specs.Option.{option_or}
use Rattle.mesh_base.specs.Mesh.{Mesh}
use Rattle.mesh_base.specs.Changes.{with_solid}
use Rattle.mesh_base.specs.declared.limits.Scale.{Scale}
use Rattle.mesh_shape.specs.Numbered.{numbered}
use Rattle.mesh_shape.proofs.Lists.{none_of}
use Rattle.mesh_rows.specs.declared.rows.VertexRow.{VertexRow}
use Rattle.mesh_rows.specs.declared.rows.FaceRow.{FaceRow}
use Rattle.mesh_rows.specs.declared.rows.MeshRows.{MeshRows}
use Rattle.mesh_rows.specs.Rows.{vertex_entry, face_entry, solid_entry, mesh_of_rows}
use Rattle.mesh_rows.specs.Making.{with_vertex_row, with_vertex_rows, with_face_row, with_face_rows, with_solids, empty_under, of_vertices, of_faces, of_all_rows}
use Rattle.mesh_rows.specs.Faults.{vertices_fault, faces_fault, solids_fault, balance_fault, made_fault}
use Rattle.mesh_rows.proofs.Parts.{passed, may_be, rises}
use Rattle.mesh_rows.proofs.Inserted.{Rises, inserted, inserted_empty}

-- ---- vertices
vertices_put : (m : Mesh) (rows : List VertexRow) → (with_vertex_rows m rows).points ≡ inserted m.points (map vertex_entry rows)
vertices_put m [] = refl
vertices_put m (row ∷ rows) = vertices_put (with_vertex_row m row) rows

faces_left : (m : Mesh) (rows : List VertexRow) → (with_vertex_rows m rows).faces ≡ m.faces
faces_left m [] = refl
faces_left m (row ∷ rows) = faces_left (with_vertex_row m row) rows

solids_left : (m : Mesh) (rows : List VertexRow) → (with_vertex_rows m rows).solid ≡ m.solid
solids_left m [] = refl
solids_left m (row ∷ rows) = solids_left (with_vertex_row m row) rows

pub next_face_left : (m : Mesh) (rows : List VertexRow) → (with_vertex_rows m rows).next_face ≡ m.next_face
next_face_left m [] = refl
next_face_left m (row ∷ rows) = next_face_left (with_vertex_row m row) rows

vertices_rise : (next place : ℕ) (m : Mesh) (rows : List VertexRow) → vertices_fault next place m rows ≡ None → Rises m.next_vertex (map vertex_entry rows)
vertices_rise next place m [] h = tt
vertices_rise next place m (row ∷ rows) h =
    let here = passed _ _ _ h in
    ((may_be m.next_vertex next row.id here.0).0, vertices_rise next (place + 1) (with_vertex_row m row) rows here.1)

-- ---- faces
faces_put : (m : Mesh) (rows : List FaceRow) → (with_face_rows m rows).faces ≡ inserted m.faces (map face_entry rows)
faces_put m [] = refl
faces_put m (row ∷ rows) = faces_put (with_face_row m row) rows

points_left : (m : Mesh) (rows : List FaceRow) → (with_face_rows m rows).points ≡ m.points
points_left m [] = refl
points_left m (row ∷ rows) = points_left (with_face_row m row) rows

solids_stay : (m : Mesh) (rows : List FaceRow) → (with_face_rows m rows).solid ≡ m.solid
solids_stay m [] = refl
solids_stay m (row ∷ rows) = solids_stay (with_face_row m row) rows

faces_rise : (next place : ℕ) (m : Mesh) (rows : List FaceRow) → faces_fault next place m rows ≡ None → Rises m.next_face (map face_entry rows)
faces_rise next place m [] h = tt
faces_rise next place m (row ∷ rows) h =
    let here = none_of _ _ h in
    ((may_be m.next_face next row.id (passed _ _ _ here.0).0).0, faces_rise next (place + 1) (with_face_row m row) rows here.1)

-- ---- solid vertices
solids_put : (m : Mesh) (vs : List ℕ) → (with_solids m vs).solid ≡ inserted m.solid (map solid_entry vs)
solids_put m [] = refl
solids_put m (v ∷ vs) = solids_put (with_solid m v) vs

points_stay : (m : Mesh) (vs : List ℕ) → (with_solids m vs).points ≡ m.points
points_stay m [] = refl
points_stay m (v ∷ vs) = points_stay (with_solid m v) vs

pub faces_stay : (m : Mesh) (vs : List ℕ) → (with_solids m vs).faces ≡ m.faces
faces_stay m [] = refl
faces_stay m (v ∷ vs) = faces_stay (with_solid m v) vs

solids_rise : (last : ℕ) (m : Mesh) (vs : List ℕ) → solids_fault last m vs ≡ None → Rises (last + 1) (map solid_entry vs)
solids_rise last m [] h = tt
solids_rise last m (v ∷ vs) h =
    let here = passed _ _ _ h in
    (rises last v _ here.0, solids_rise v (with_solid m v) vs here.1)

-- ---- limits
limits_by_vertices : (m : Mesh) (rows : List VertexRow) → (with_vertex_rows m rows).limits ≡ m.limits
limits_by_vertices m [] = refl
limits_by_vertices m (row ∷ rows) = limits_by_vertices (with_vertex_row m row) rows

limits_by_faces : (m : Mesh) (rows : List FaceRow) → (with_face_rows m rows).limits ≡ m.limits
limits_by_faces m [] = refl
limits_by_faces m (row ∷ rows) = limits_by_faces (with_face_row m row) rows

limits_by_solids : (m : Mesh) (vs : List ℕ) → (with_solids m vs).limits ≡ m.limits
limits_by_solids m [] = refl
limits_by_solids m (v ∷ vs) = limits_by_solids (with_solid m v) vs

-- ---- all
module _ (scale : Scale) (rows : MeshRows) (none : made_fault scale rows ≡ None) where
  behind_vertices : (vertices_fault rows.next_vertex 1 (empty_under scale) rows.vertices ≡ None) × (option_or (faces_fault rows.next_face 1 (of_vertices scale rows) rows.faces) (option_or (solids_fault 0 (of_faces scale rows) rows.solids) (balance_fault (of_all_rows scale rows) rows.faces)) ≡ None)
  behind_vertices = none_of (vertices_fault rows.next_vertex 1 (empty_under scale) rows.vertices) (option_or (faces_fault rows.next_face 1 (of_vertices scale rows) rows.faces) (option_or (solids_fault 0 (of_faces scale rows) rows.solids) (balance_fault (of_all_rows scale rows) rows.faces))) none

  behind_faces : (faces_fault rows.next_face 1 (of_vertices scale rows) rows.faces ≡ None) × (option_or (solids_fault 0 (of_faces scale rows) rows.solids) (balance_fault (of_all_rows scale rows) rows.faces) ≡ None)
  behind_faces = none_of (faces_fault rows.next_face 1 (of_vertices scale rows) rows.faces) (option_or (solids_fault 0 (of_faces scale rows) rows.solids) (balance_fault (of_all_rows scale rows) rows.faces)) behind_vertices.1

  behind_solids : (solids_fault 0 (of_faces scale rows) rows.solids ≡ None) × (balance_fault (of_all_rows scale rows) rows.faces ≡ None)
  behind_solids = none_of (solids_fault 0 (of_faces scale rows) rows.solids) (balance_fault (of_all_rows scale rows) rows.faces) behind_faces.1

  pub no_balance_fault : balance_fault (of_all_rows scale rows) rows.faces ≡ None
  no_balance_fault = behind_solids.1

  points_are : (of_all_rows scale rows).points ≡ (mesh_of_rows scale rows).points
  points_are =
      points_stay (of_faces scale rows) rows.solids ∙ points_left (of_vertices scale rows) rows.faces ∙ vertices_put (empty_under scale) rows.vertices
      ∙ inserted_empty 1 (map vertex_entry rows.vertices) (vertices_rise rows.next_vertex 1 (empty_under scale) rows.vertices behind_vertices.0)

  pub faces_are : (of_all_rows scale rows).faces ≡ (mesh_of_rows scale rows).faces
  faces_are =
      faces_stay (of_faces scale rows) rows.solids ∙ faces_put (of_vertices scale rows) rows.faces ∙ ap (λ n. inserted n (map face_entry rows.faces)) (faces_left (empty_under scale) rows.vertices)
      ∙ inserted_empty (of_vertices scale rows).next_face (map face_entry rows.faces) (faces_rise rows.next_face 1 (of_vertices scale rows) rows.faces behind_faces.0)

  solids_are : (of_all_rows scale rows).solid ≡ (mesh_of_rows scale rows).solid
  solids_are =
      solids_put (of_faces scale rows) rows.solids ∙ ap (λ n. inserted n (map solid_entry rows.solids)) (solids_stay (of_vertices scale rows) rows.faces ∙ solids_left (empty_under scale) rows.vertices)
      ∙ inserted_empty 1 (map solid_entry rows.solids) (solids_rise 0 (of_faces scale rows) rows.solids behind_solids.0)

  limits_are : (of_all_rows scale rows).limits ≡ (mesh_of_rows scale rows).limits
  limits_are =
      limits_by_solids (of_faces scale rows) rows.solids ∙ limits_by_faces (of_vertices scale rows) rows.faces ∙ limits_by_vertices (empty_under scale) rows.vertices

  pub made_is : numbered (of_all_rows scale rows) rows.next_vertex rows.next_face ≡ mesh_of_rows scale rows
  made_is = λ i. record { points = points_are i; faces = faces_are i; solid = solids_are i; next_vertex = rows.next_vertex; next_face = rows.next_face; limits = limits_are i }
