-- A split leaves a closed mesh closed.
use Rattle.std.proofs.Common.{◌≡◌, ℕ, ◌+◌, [], ◌∷◌, refl, ◌∙◌, arith}
use Rattle.grid_base.specs.declared.Point.{Point}
use Rattle.mesh_base.specs.Mesh.{Mesh}
use Rattle.mesh_base.specs.Sides.{runs, IsClosed}
use Rattle.mesh_base.specs.Changes.{without_face, with_vertex}
use Rattle.edit_base.specs.Beside.{IsBeside}
use Rattle.edit_base.specs.Edges.{Edge, corners_from, without_faces}
use Rattle.edit_split.specs.Split.{split_mesh}
use Rattle.mesh_base.proofs.Counts.{runs-without_face}
use Rattle.edit_base.proofs.Arcs.{other_way, round, same_arcs, round_of}
use Rattle.edit_acts.proofs.Flow.{AreBelow, below-without, runs-with_faces, still_there, less_apart, more_apart, new_round}

module _ (m : Mesh) (s : Edge) (at : Point) (below : AreBelow m) (beside : IsBeside m s) where
  abbrev pub w : ℕ
  w = m.next_vertex

  -- how the counts change
  pub counts : (u v : ℕ) → runs (split_mesh m s at) u v + (round s.a s.b s.c u v + round s.b s.a s.d u v)
      ≡ runs m u v + (round s.a w s.c u v + round w s.b s.c u v + round s.b w s.d u v + round w s.a s.d u v)
  counts u v =
      let bare = without_faces m (s.left_face ∷ s.right_face ∷ []) in
      let first = runs-without_face m s.left_face beside.left_corners u v beside.left_face in
      let second = runs-without_face (without_face m s.left_face) s.right_face beside.right_corners u v (still_there m s.left_face s.right_face beside.right_corners beside.two_faces beside.right_face) in
      let made = runs-with_faces (with_vertex bare at) (corners_from s.a w s.c ∷ corners_from w s.b s.c ∷ corners_from s.b w s.d ∷ corners_from w s.a s.d ∷ []) u v
      (below-without (without_face m s.left_face) s.right_face (below-without m s.left_face below)) in
      let f = round_of beside.left_corners s.a s.b u v beside.left_different beside.left_runs ∙ same_arcs u v refl refl beside.third in
      let g = round_of beside.right_corners s.b s.a u v beside.right_different beside.right_runs ∙ same_arcs u v refl refl beside.fourth in
      let one = new_round s.a w s.c u v (less_apart _ _ beside.a_below) (more_apart _ _ beside.c_below) beside.c_a in
      let two = new_round w s.b s.c u v (more_apart _ _ beside.b_below) beside.b_c (less_apart _ _ beside.c_below) in
      let three = new_round s.b w s.d u v (less_apart _ _ beside.b_below) (more_apart _ _ beside.d_below) beside.d_b in
      let four = new_round w s.a s.d u v (more_apart _ _ beside.a_below) beside.a_d (less_apart _ _ beside.d_below) in
      total _ _ _ _ _ _ _ _ _ _ _ _ _ _ _ _ made second first f g one two three four
    where
      total : (new bare one_less old f g f' g' p q r s p' q' r' s' : ℕ) → new ≡ bare + (p + (q + (r + (s + 0)))) → bare + g ≡ one_less → one_less + f ≡ old → f ≡ f' → g ≡ g' → p ≡ p' → q ≡ q' → r ≡ r' → s ≡ s' → new + (f' + g') ≡ old + (p' + q' + r' + s')
      total new bare one_less old f g f' g' p q r s p' q' r' s' a b c d e h i j k = omega arith

  -- the steps that come and go are as many one way as the other
  pub split_is_closed : IsClosed m → IsClosed (split_mesh m s at)
  split_is_closed closed u v =
      balanced _ _ _ _ _ _ _ _ _ _ _ _ _ _ _ _ _ _ _ _ _ _ _ _ _ _ _ _ _ _ _ _
      (counts u v) (counts v u) (closed u v)
      (other_way s.a s.b u v) (other_way s.b s.a u v)
      (other_way s.a w u v) (other_way w s.a u v) (other_way w s.b u v) (other_way s.b w u v)
      (other_way w s.c u v) (other_way s.c w u v) (other_way w s.d u v) (other_way s.d w u v)
    where
      balanced : (new new' old old' ab ba aw wa wb bw wc cw wd dw bc ca ad db
          ab' ba' aw' wa' wb' bw' wc' cw' wd' dw' bc' ca' ad' db' : ℕ) →
          new + ((ab + bc + ca) + (ba + ad + db)) ≡ old + ((aw + wc + ca) + (wb + bc + cw) + (bw + wd + db) + (wa + ad + dw)) →
          new' + ((ab' + bc' + ca') + (ba' + ad' + db')) ≡ old' + ((aw' + wc' + ca') + (wb' + bc' + cw') + (bw' + wd' + db') + (wa' + ad' + dw')) →
          old ≡ old' → ab ≡ ba' → ba ≡ ab' → aw ≡ wa' → wa ≡ aw' → wb ≡ bw' → bw ≡ wb' → wc ≡ cw' → cw ≡ wc' → wd ≡ dw' → dw ≡ wd' → new ≡ new'
      balanced new new' old old' ab ba aw wa wb bw wc cw wd dw bc ca ad db ab' ba' aw' wa' wb' bw' wc' cw' wd' dw' bc' ca' ad' db' h k e a b c d f g i j l n = omega arith
