-- A flip leaves a closed mesh closed.
use Rattle.std.proofs.Common.{◌≡◌, ◌≢◌, ℕ, ◌+◌, [], ◌∷◌, refl, sym, ◌∙◌, arith}
use Rattle.mesh_base.specs.Mesh.{Mesh}
use Rattle.mesh_base.specs.Sides.{runs, IsClosed}
use Rattle.mesh_base.specs.Changes.{without_face}
use Rattle.edit_base.specs.Beside.{IsBeside}
use Rattle.edit_base.specs.Edges.{Edge, corners_from, without_faces}
use Rattle.edit_flip.specs.Flip.{flip_mesh}
use Rattle.mesh_base.proofs.Counts.{runs-without_face}
use Rattle.edit_base.proofs.Arcs.{other_way, round, same_arcs, round_of}
use Rattle.edit_acts.proofs.Flow.{AreBelow, below-without, runs-with_faces, still_there, new_round}

module _ (m : Mesh) (s : Edge) (below : AreBelow m) (beside : IsBeside m s) (c_d : s.c ≢ s.d) where
  -- how the counts change
  pub flip_counts : (u v : ℕ) → runs (flip_mesh m s) u v + (round s.a s.b s.c u v + round s.b s.a s.d u v)
      ≡ runs m u v + (round s.a s.d s.c u v + round s.b s.c s.d u v)
  flip_counts u v =
      let bare = without_faces m (s.left_face ∷ s.right_face ∷ []) in
      let first = runs-without_face m s.left_face beside.left_corners u v beside.left_face in
      let second = runs-without_face (without_face m s.left_face) s.right_face beside.right_corners u v (still_there m s.left_face s.right_face beside.right_corners beside.two_faces beside.right_face) in
      let made = runs-with_faces bare (corners_from s.a s.d s.c ∷ corners_from s.b s.c s.d ∷ []) u v
      (below-without (without_face m s.left_face) s.right_face (below-without m s.left_face below)) in
      let f = round_of beside.left_corners s.a s.b u v beside.left_different beside.left_runs ∙ same_arcs u v refl refl beside.third in
      let g = round_of beside.right_corners s.b s.a u v beside.right_different beside.right_runs ∙ same_arcs u v refl refl beside.fourth in
      let one = new_round s.a s.d s.c u v beside.a_d (λ e. c_d (sym e)) beside.c_a in
      let two = new_round s.b s.c s.d u v beside.b_c c_d beside.d_b in
      total _ _ _ _ _ _ _ _ _ _ _ _ made second first f g one two
    where
      total : (new bare one_less old f g f' g' p q p' q' : ℕ) → new ≡ bare + (p + (q + 0)) → bare + g ≡ one_less → one_less + f ≡ old → f ≡ f' → g ≡ g' → p ≡ p' → q ≡ q' → new + (f' + g') ≡ old + (p' + q')
      total new bare one_less old f g f' g' p q p' q' a b c d e h i = omega arith

  pub flip_is_closed : IsClosed m → IsClosed (flip_mesh m s)
  flip_is_closed closed u v =
      balanced _ _ _ _ _ _ _ _ _ _ _ _ _ _ _ _ _ _ _ _ (flip_counts u v) (flip_counts v u) (closed u v)
      (other_way s.a s.b u v) (other_way s.b s.a u v) (other_way s.c s.d u v) (other_way s.d s.c u v)
    where
      balanced : (new new' old old' ab ba cd dc bc ca ad db ab' ba' cd' dc' bc' ca' ad' db' : ℕ) →
          new + ((ab + bc + ca) + (ba + ad + db)) ≡ old + ((ad + dc + ca) + (bc + cd + db)) →
          new' + ((ab' + bc' + ca') + (ba' + ad' + db')) ≡ old' + ((ad' + dc' + ca') + (bc' + cd' + db')) →
          old ≡ old' → ab ≡ ba' → ba ≡ ab' → cd ≡ dc' → dc ≡ cd' → new ≡ new'
      balanced new new' old old' ab ba cd dc bc ca ad db ab' ba' cd' dc' bc' ca' ad' db' h k e a b c d = omega arith
