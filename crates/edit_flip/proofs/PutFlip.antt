-- What the changes of a flip require, and that the result passes no limit where the test passes none.
use Rattle.std.proofs.Common.{◌≡◌, ◌+◌, ◌≤◌, false, ◌==◌, [], ◌∷◌, sym, ◌∙◌, arith}
use Rattle.std.proofs.lemmas.Bool.{eqb-false}
use Rattle.std.specs.FinMap as finite
use Rattle.grid_base.specs.declared.TheConstants.{ID_MAX}
use Rattle.mesh_base.specs.Mesh.{Mesh, IsSound, IsLiveFace}
use Rattle.mesh_base.specs.Sides.{IsClosed}
use Rattle.mesh_base.specs.Pairs.{is_edge}
use Rattle.mesh_base.specs.Changes.{without_face}
use Rattle.mesh_base.specs.Limits.{is_over_limits}
use Rattle.edit_base.specs.Edges.{Edge, corners_from, without_faces, AreFresh}
use Rattle.edit_split.specs.Split.{split_mesh, split_point, split_is_over}
use Rattle.edit_flip.specs.Flip.{flip_mesh}
use Rattle.edit_base.specs.Required.{HasEdge, HasRoomFor}
use Rattle.edit_base.specs.Beside.{IsBeside}
use Rattle.edit_split.proofs.SplitCounts.{len-bare, split_over, ids_for_four}
use Rattle.edit_flip.proofs.FlipCounts.{flip_fits}
use Rattle.edit_flip.proofs.FlipSound.{both_fresh as flip_is_fresh}
use Rattle.edit_base.proofs.EdgeThere.{beside_it}
use Rattle.edit_split.proofs.PutSplit.{left_is_live, right_is_live}
use Rattle.edit_base.proofs.ReasonLaws.{first_false, second_false}
use Rattle.edit_flip.specs.Tried.{MayBeTried}

-- ---- limits
module _ (m : Mesh) (s : Edge) (sound : IsSound m) (closed : IsClosed m) (edge : HasEdge m s) (fits : is_over_limits (split_mesh m s (split_point m s)) ≡ false) where
  split_fits : split_is_over m ≡ false
  split_fits = sym (split_over m s sound (beside_it m s sound closed edge) (split_point m s)) ∙ fits

  pub ids_left : m.next_face + 4 ≤ ID_MAX + 1
  ids_left = ids_for_four m s sound (beside_it m s sound closed edge) split_fits

  pub result_fits : is_over_limits (flip_mesh m s) ≡ false
  result_fits = flip_fits m s sound (beside_it m s sound closed edge) split_fits

-- ---- the changes
module _ (m : Mesh) (s : Edge) (sound : IsSound m) (closed : IsClosed m) (tried : MayBeTried m s) where
  abbrev bare : Mesh
  bare = without_faces m (s.left_face ∷ s.right_face ∷ [])

  beside : IsBeside m s
  beside = beside_it m s sound closed tried.edge

  pub first_is_live : IsLiveFace m s.left_face
  first_is_live = left_is_live m s (split_point m s) sound closed tried.edge tried.fits

  pub second_is_live : IsLiveFace (without_face m s.left_face) s.right_face
  second_is_live = right_is_live m s (split_point m s) sound closed tried.edge tried.fits

  pub both_fresh : AreFresh bare (corners_from s.a s.d s.c ∷ corners_from s.b s.c s.d ∷ [])
  both_fresh = flip_is_fresh m s sound beside
      (eqb-false s.c s.d (first_false (s.c == s.d) (is_edge m s.c s.d) tried.other_may_be_made))
      (second_false (s.c == s.d) (is_edge m s.c s.d) tried.other_may_be_made)

  pub room_for_both : HasRoomFor 2 bare
  room_for_both =
      let left = len-bare m s sound beside in
      let most = sound.limits.faces in
      let ids = ids_left m s sound closed tried.edge tried.fits in
      record { faces = let h : finite.len bare.faces + 2 ≤ m.limits.faces = omega (arith, left, most) in h; ids = let h : m.next_face + 2 ≤ ID_MAX + 1 = omega (arith, ids) in h }
