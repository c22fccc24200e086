-- A zip leaves a closed mesh closed.
use Rattle.std.proofs.Common.{◌≡◌, ◌≢◌, ℕ, ◌+◌, true, cond, [], ◌∷◌, inl, refl, sym, ap, subst, ◌∙◌, arith}
use Rattle.std.proofs.Math.Logic.{Ne-symm}
use Rattle.mesh_base.specs.declared.ids.Corners.{Corners}
use Rattle.mesh_base.specs.Mesh.{Mesh, IsSound, HasCorners, AreDifferent}
use Rattle.mesh_base.specs.Sides.{follows, runs, IsClosed}
use Rattle.mesh_base.specs.Changes.{without_face}
use Rattle.mesh_base.proofs.Counts.{runs-without_face}
use Rattle.edit_base.specs.Beside.{IsBeside}
use Rattle.edit_base.specs.Edges.{Edge, opposite_vertex, without_faces, with_faces}
use Rattle.edit_acts.proofs.Flow.{AreBelow, runs-with_faces, below-without, still_there, below_next}
use Rattle.edit_base.proofs.Arcs.{arc, other_way, round, round_of, same_arcs}
use Rattle.edit_base.proofs.Beside.{none_of}
use Rattle.edit_zip.proofs.TunnelBalance.{tunnel, IsRim, AreFar, rims, tunnel_balance}
use Rattle.edit_acts.proofs.FaceCorners.{same_corners}

-- a face with a step from a vertex is none that lacks the vertex
pub faces_apart : (m : Mesh) (f g : ℕ) (C D : Corners) (a b x y : ℕ) → HasCorners m f C → HasCorners m g D → follows C a b ≡ true → follows D x y ≡ true → AreDifferent D → x ≢ a → y ≢ a → opposite_vertex D x y ≢ a → f ≢ g
faces_apart m f g C D a b x y at_f at_g step run different nx ny nz same =
    let alike : C ≡ D = same_corners m g C D (subst (λ i. HasCorners m i C) same at_f) at_g in
    let z = opposite_vertex D x y in
    let count = round_of D x y a b different run in
    let one : ◌≡◌ {A = ℕ} (cond (follows D a b) 1 0) 1 = ap (λ t. cond t 1 0) (subst (λ c. follows c a b ≡ true) alike step) in
    clash _ _ _ (sym one ∙ count) (none_of x y a b (inl nx)) (none_of y z a b (inl ny)) (none_of z x a b (inl nz))
  where
    clash : (p q r : ℕ) → 1 ≡ p + q + r → p ≡ 0 → q ≡ 0 → r ≡ 0 → ⊥
    clash p q r h i j k = omega arith

-- no vertex of the one edge and its opposite vertexs is one of the other's
pub record AreDisjoint (s t : Edge) : Type 0 where
  pub a : AreFar s.a t.b t.d t.a t.c
  pub b : AreFar s.b t.b t.d t.a t.c
  pub c : AreFar s.c t.b t.d t.a t.c
  pub d : AreFar s.d t.b t.d t.a t.c

module _ (m : Mesh) (s t : Edge) (sound : IsSound m) (beside_s : IsBeside m s) (beside_t : IsBeside m t) (apart : AreDisjoint s t) where
  abbrev pub bare : Mesh
  bare = without_faces m (s.left_face ∷ s.right_face ∷ t.left_face ∷ t.right_face ∷ [])

  third_off : (v : ℕ) → v ≢ t.c → opposite_vertex beside_t.left_corners t.a t.b ≢ v
  third_off v h e = h (sym e ∙ beside_t.third)

  fourth_off : (v : ℕ) → v ≢ t.d → opposite_vertex beside_t.right_corners t.b t.a ≢ v
  fourth_off v h e = h (sym e ∙ beside_t.fourth)

  pub left_left : s.left_face ≢ t.left_face
  left_left = faces_apart m s.left_face t.left_face beside_s.left_corners beside_t.left_corners s.a s.b t.a t.b beside_s.left_face beside_t.left_face beside_s.left_runs beside_t.left_runs beside_t.left_different (Ne-symm apart.a.third) (Ne-symm apart.a.first) (third_off s.a apart.a.fourth)

  pub left_right : s.left_face ≢ t.right_face
  left_right = faces_apart m s.left_face t.right_face beside_s.left_corners beside_t.right_corners s.a s.b t.b t.a beside_s.left_face beside_t.right_face beside_s.left_runs beside_t.right_runs beside_t.right_different (Ne-symm apart.a.first) (Ne-symm apart.a.third) (fourth_off s.a apart.a.second)

  pub right_left : s.right_face ≢ t.left_face
  right_left = faces_apart m s.right_face t.left_face beside_s.right_corners beside_t.left_corners s.b s.a t.a t.b beside_s.right_face beside_t.left_face beside_s.right_runs beside_t.left_runs beside_t.left_different (Ne-symm apart.b.third) (Ne-symm apart.b.first) (third_off s.b apart.b.fourth)

  pub right_right : s.right_face ≢ t.right_face
  right_right = faces_apart m s.right_face t.right_face beside_s.right_corners beside_t.right_corners s.b s.a t.b t.a beside_s.right_face beside_t.right_face beside_s.right_runs beside_t.right_runs beside_t.right_different (Ne-symm apart.b.first) (Ne-symm apart.b.third) (fourth_off s.b apart.b.second)

  abbrev m1 : Mesh
  m1 = without_face m s.left_face

  abbrev m2 : Mesh
  m2 = without_face m1 s.right_face

  abbrev m3 : Mesh
  m3 = without_face m2 t.left_face

  -- the steps of the four faces that go
  gone : ℕ → ℕ → ℕ
  gone u v = (round s.a s.b s.c u v + round s.b s.a s.d u v) + (round t.a t.b t.c u v + round t.b t.a t.d u v)

  counts : (u v : ℕ) → runs bare u v + gone u v ≡ runs m u v
  unfolding gone
  counts u v =
      let C3 = beside_t.left_corners in
      let C4 = beside_t.right_corners in
      let first = runs-without_face m s.left_face beside_s.left_corners u v beside_s.left_face in
      let second = runs-without_face m1 s.right_face beside_s.right_corners u v (still_there m s.left_face s.right_face beside_s.right_corners beside_s.two_faces beside_s.right_face) in
      let third = runs-without_face m2 t.left_face C3 u v (still_there m1 s.right_face t.left_face C3 right_left (still_there m s.left_face t.left_face C3 left_left beside_t.left_face)) in
      let fourth = runs-without_face m3 t.right_face C4 u v (still_there m2 t.left_face t.right_face C4 beside_t.two_faces (still_there m1 s.right_face t.right_face C4 right_right (still_there m s.left_face t.right_face C4 left_right beside_t.right_face))) in
      let f = round_of beside_s.left_corners s.a s.b u v beside_s.left_different beside_s.left_runs ∙ same_arcs u v refl refl beside_s.third in
      let g = round_of beside_s.right_corners s.b s.a u v beside_s.right_different beside_s.right_runs ∙ same_arcs u v refl refl beside_s.fourth in
      let h = round_of C3 t.a t.b u v beside_t.left_different beside_t.left_runs ∙ same_arcs u v refl refl beside_t.third in
      let k = round_of C4 t.b t.a u v beside_t.right_different beside_t.right_runs ∙ same_arcs u v refl refl beside_t.fourth in
      total _ _ _ _ _ _ _ _ _ _ _ _ _ first second third fourth f g h k
    where
      total : (r r1 r2 r3 r4 f g h k f' g' h' k' : ℕ) → r1 + f ≡ r → r2 + g ≡ r1 → r3 + h ≡ r2 → r4 + k ≡ r3 → f ≡ f' → g ≡ g' → h ≡ h' → k ≡ k' → r4 + ((f' + g') + (h' + k')) ≡ r
      total r r1 r2 r3 r4 f g h k f' g' h' k' a b c d e i j l = omega arith

  pub bare_below : AreBelow bare
  bare_below = below-without m3 t.right_face (below-without m2 t.left_face (below-without m1 s.right_face (below-without m s.left_face (below_next m sound))))

  -- the rims, whatever the turn
  module _ (r0 r1 r2 r3 : ℕ) (p : IsRim s.b s.c s.a s.d) (r : IsRim r0 r1 r2 r3) (f0 : AreFar s.b r0 r1 r2 r3) (f1 : AreFar s.c r0 r1 r2 r3) (f2 : AreFar s.a r0 r1 r2 r3) (f3 : AreFar s.d r0 r1 r2 r3)
      (same_rim : (u v : ℕ) → arc r1 r0 u v + arc r2 r1 u v + arc r3 r2 u v + arc r0 r3 u v ≡ arc t.b t.c u v + arc t.c t.a u v + arc t.a t.d u v + arc t.d t.b u v) where
    rim : ℕ → ℕ → ℕ
    rim u v = rims s.b s.c s.a s.d r0 r1 r2 r3 p r f0 f1 f2 f3 u v

    -- what goes is balanced but for the rims
    gone_balance : (u v : ℕ) → gone u v + rim v u ≡ gone v u + rim u v
    unfolding gone rim
    gone_balance u v = total _ _ _ _ _ _ _ _ _ _ _ _ _ _ _ _ _ _ _ _ _ _ _ _ _ _ _ _ _ _ _ _ (other_way s.a s.b u v) (other_way s.b s.a u v) (other_way t.a t.b u v) (other_way t.b t.a u v) (same_rim u v) (same_rim v u)
      where
        total : (ab ba ef fe bc ca ad db fg ge eh hf ab' ba' ef' fe' bc' ca' ad' db' fg' ge' eh' hf' x0 x1 x2 x3 y0 y1 y2 y3 : ℕ) →
            ab ≡ ba' → ba ≡ ab' → ef ≡ fe' → fe ≡ ef' → x0 + x1 + x2 + x3 ≡ fg + ge + eh + hf → y0 + y1 + y2 + y3 ≡ fg' + ge' + eh' + hf' →
            ((ab + bc + ca) + (ba + ad + db)) + ((ef + fg + ge) + (fe + eh + hf)) + ((bc' + ca' + ad' + db') + (y0 + y1 + y2 + y3))
            ≡ ((ab' + bc' + ca') + (ba' + ad' + db')) + ((ef' + fg' + ge') + (fe' + eh' + hf')) + ((bc + ca + ad + db) + (x0 + x1 + x2 + x3))
        total ab ba ef fe bc ca ad db fg ge eh hf ab' ba' ef' fe' bc' ca' ad' db' fg' ge' eh' hf' x0 x1 x2 x3 y0 y1 y2 y3 a b c d e f = omega arith

    pub turn_is_closed : IsClosed m → IsClosed (with_faces bare (tunnel s.b s.c s.a s.d r0 r1 r2 r3))
    unfolding rim
    turn_is_closed closed u v = balanced _ _ _ _ _ _ _ _ _ _ _ _
        (runs-with_faces bare (tunnel s.b s.c s.a s.d r0 r1 r2 r3) u v bare_below) (runs-with_faces bare (tunnel s.b s.c s.a s.d r0 r1 r2 r3) v u bare_below)
        (counts u v) (counts v u) (closed u v) (tunnel_balance s.b s.c s.a s.d r0 r1 r2 r3 p r f0 f1 f2 f3 u v) (gone_balance u v)
      where
        balanced : (n n' b b' o o' g g' f f' x y : ℕ) → n ≡ b + f → n' ≡ b' + f' → b + g ≡ o → b' + g' ≡ o' → o ≡ o' → f + y ≡ f' + x → g + y ≡ g' + x → n ≡ n'
        balanced n n' b b' o o' g g' f f' x y a c d e h i j = omega arith
