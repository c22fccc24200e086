-- The first fault of vertices and faces with their ids, where the vertices are few and in the box.
use Rattle.std.proofs.Common.{◌≡◌, ℕ, ◌≤◌, Bool, cond, List, length, map, Option, Some, None, Result, IfErr, sym, ap, ◌∙◌, subst}
use Rattle.std.specs.Option.{option_or}
use Rattle.std.proofs.lemmas.Bool.{le-ltb}
use Rattle.grid_base.specs.declared.TheConstants.{VERTICES_MAX}
use Rattle.mesh_rows.specs.declared.rows.VertexRow.{VertexRow}
use Rattle.mesh_rows.specs.declared.rows.FaceRow.{FaceRow}
use Rattle.mesh_rows.specs.declared.rows.MeshRows.{MeshRows}
use Rattle.mesh_rows.specs.declared.faults.RowsFault.TheVariants.{TooManyVertices}
use Rattle.track_held.specs.declared.given.NamedPoint.{NamedPoint}
use Rattle.track_held.specs.declared.given.NamedFace.{NamedFace}
use Rattle.track_held.specs.declared.numbered_tracker.NumberedFault.{NumberedFault}
use Rattle.track_held.specs.declared.numbered_tracker.NumberedFault.TheVariants.{Rows}
use Rattle.track_held.specs.declared.numbered_tracker.NumberedRefusal.{NumberedRefusal}
use Rattle.track_held.specs.Numbered.{vertex_in, face_row_in, given_rows, crowd_fault, outside_fault, rows_or_meet_fault, numbered_fault, IsRefusal}

module _ (points : List NamedPoint) (faces : List NamedFace) (solids : List ℕ) (next_vertex next_face : ℕ) (vs : List VertexRow) (fs : List FaceRow) (ss : List ℕ) (of_points : vs ≡ map vertex_in points) (of_faces : fs ≡ map face_row_in faces) (of_solids : ss ≡ solids) where
  abbrev made : MeshRows
  made = record { vertices = vs; faces = fs; solids = ss; next_vertex = next_vertex; next_face = next_face }

  same : made ≡ given_rows points faces solids next_vertex next_face
  same = λ i. record { vertices = of_points i; faces = of_faces i; solids = of_solids i; next_vertex = next_vertex; next_face = next_face }

  -- what holds of the rows that were made holds of those that are given
  pub along_rows : (P : MeshRows → Type 0) → P made → P (given_rows points faces solids next_vertex next_face)
  along_rows P h = subst P same h

  module _ (few : length points ≤ VERTICES_MAX) (none : outside_fault points ≡ None) where
    not_crowded : crowd_fault points ≡ None
    not_crowded = ap (λ (b : Bool). cond b (Some (Rows (TooManyVertices (length points)))) None) (le-ltb VERTICES_MAX (length points) few)

    pub of_rows : numbered_fault points (given_rows points faces solids next_vertex next_face) ≡ rows_or_meet_fault made
    of_rows =
        ap (λ (o : Option NumberedFault). option_or o (option_or (outside_fault points) (rows_or_meet_fault (given_rows points faces solids next_vertex next_face)))) not_crowded
        ∙ ap (λ (o : Option NumberedFault). option_or o (rows_or_meet_fault (given_rows points faces solids next_vertex next_face))) none
        ∙ ap (λ (r : MeshRows). rows_or_meet_fault r) (sym same)

    pub refused_rows : {T : Type 0} (r : Result T NumberedRefusal) → IfErr r (IsRefusal (rows_or_meet_fault made)) → IfErr r (IsRefusal (numbered_fault points (given_rows points faces solids next_vertex next_face)))
    refused_rows r h = let P : Option NumberedFault → Type 0 = λ o. IfErr r (IsRefusal o) in subst P (sym of_rows) h
