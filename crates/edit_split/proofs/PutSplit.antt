-- What the changes of a split require, one after another.
use Rattle.std.proofs.Common.{◌≡◌, ◌+◌, ◌≤◌, false, [], ◌∷◌, is_some, ⊎_elim, sym, ap, arith}
use Rattle.std.specs.FinMap as finite
use Rattle.grid_base.specs.declared.TheConstants.{ID_MAX}
use Rattle.grid_base.specs.declared.Point.{Point}
use Rattle.mesh_base.specs.Mesh.{Mesh, IsSound, IsLiveFace}
use Rattle.mesh_base.specs.Sides.{IsClosed}
use Rattle.mesh_base.specs.Changes.{with_vertex, without_face, IsFullOfVertices}
use Rattle.mesh_base.specs.Limits.{is_over_limits}
use Rattle.mesh_base.proofs.Finite.{live_but_removed}
use Rattle.edit_base.specs.Edges.{Edge, corners_from, without_faces, AreFresh}
use Rattle.edit_split.specs.Split.{split_mesh, split_is_over}
use Rattle.edit_base.specs.Required.{HasEdge, HasRoomFor}
use Rattle.edit_base.specs.Beside.{IsBeside}
use Rattle.edit_base.proofs.EdgeThere.{beside_it}
use Rattle.edit_split.proofs.SplitCounts.{len-bare, split_vertices, split_count, split_over}
use Rattle.edit_split.proofs.SplitSound.{all_fresh, split_is_sound}

pub counts_of_split : (m : Mesh) (s : Edge) (at : Point) → IsSound m → IsClosed m → HasEdge m s → split_is_over m ≡ is_over_limits (split_mesh m s at)
counts_of_split m s at sound closed edge = sym (split_over m s sound (beside_it m s sound closed edge) at)

module _ (m : Mesh) (s : Edge) (at : Point) (sound : IsSound m) (closed : IsClosed m) (edge : HasEdge m s) (fits : is_over_limits (split_mesh m s at) ≡ false) where
  beside : IsBeside m s
  beside = beside_it m s sound closed edge

  after : IsSound (split_mesh m s at)
  after = split_is_sound m s at sound beside fits

  pub left_is_live : IsLiveFace m s.left_face
  left_is_live = ap is_some beside.left_face

  pub right_is_live : IsLiveFace (without_face m s.left_face) s.right_face
  right_is_live = live_but_removed m.faces s.left_face s.right_face (λ e. beside.two_faces (sym e)) (ap is_some beside.right_face)

  pub vertex_has_room : ¬ IsFullOfVertices (without_faces m (s.left_face ∷ s.right_face ∷ []))
  vertex_has_room full =
      let v = split_vertices m s sound beside at in
      let most = after.limits.vertices in
      let ids : m.next_vertex + 1 ≤ ID_MAX + 1 = after.limits.vertex_ids.1 in
      ⊎_elim (λ e. absurd (omega (arith, v, most, e))) (λ e. absurd (omega (arith, ids, e))) full

  abbrev base : Mesh
  base = with_vertex (without_faces m (s.left_face ∷ s.right_face ∷ [])) at

  pub faces_are_fresh : AreFresh base (corners_from s.a m.next_vertex s.c ∷ corners_from m.next_vertex s.b s.c ∷ corners_from s.b m.next_vertex s.d ∷ corners_from m.next_vertex s.a s.d ∷ [])
  faces_are_fresh = all_fresh m s at sound beside

  pub faces_have_room : HasRoomFor 4 base
  faces_have_room =
      let f = split_count m s sound beside at in
      let most = after.limits.faces in
      let b = len-bare m s sound beside in
      let ids : m.next_face + 4 ≤ ID_MAX + 1 = let i : (split_mesh m s at).next_face ≤ ID_MAX + 1 = after.limits.face_ids.1 in omega (arith, i) in
      record { faces = let h : finite.len (without_faces m (s.left_face ∷ s.right_face ∷ [])).faces + 4 ≤ m.limits.faces = omega (arith, f, most, b) in h; ids = ids }

-- the edge of two ids that are one
