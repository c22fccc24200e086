-- A flip whose motion is clear leaves a clear mesh.
use Rattle.std.proofs.Common.{◌≡◌, ◌≢◌, ◌⊎◌, ℕ, ◌+◌, ◌<◌, true, false, is_some, inl, inr, ⊎_elim, refl, sym, ap, subst, ◌∙◌, arith}
use Rattle.std.proofs.lemmas.Bool.Decides.{nat_tests}
use Rattle.grid_base.specs.Triples.{Triple, plus}
use Rattle.grid_base.specs.Meeting.{Meets, MeetAt}
use Rattle.grid_base.proofs.MeetingLaws.{Meets-multiple}
use Rattle.mesh_base.specs.declared.ids.Corners.{Corners}
use Rattle.mesh_base.specs.Mesh.{Mesh, IsSound, IsLiveVertex, HasCorners}
use Rattle.mesh_base.specs.Sides.{follows, has_corner, runs, IsEdge}
use Rattle.mesh_base.specs.Placements.{rest_positions, IsClear, IsClearMesh, IsClearAlong}
use Rattle.mesh_base.proofs.Listed.{running_face, edge_live}
use Rattle.edit_base.specs.Scaffold.{motion_of}
use Rattle.edit_base.specs.Edges.{Edge, corners_from}
use Rattle.edit_flip.specs.Flip.{flip_scaffold}
use Rattle.edit_base.specs.Beside.{IsBeside}
use Rattle.edit_base.proofs.Ends.{clear_at_end, clear_after_along}
use Rattle.edit_flip.proofs.Midway.{face_is_two_faces, edge_is_two_edges}
use Rattle.edit_acts.proofs.Exchanged.{Meets-exchanged, plus_comm}
use Rattle.edit_acts.proofs.FaceCorners.{no_corner, step_two, step_three, steps_of, either_way, edge_of_step, edge_turned}
use Rattle.edit_flip.proofs.FlipFaces.{bare, first, second, third, fourth, scaffold, one, two, result, first_there, second_there, third_there, fourth_there, was, old_there, faces_of, end, end_new, end_old}

off_corner : (x y z v : ℕ) → x ≢ v → y ≢ v → z ≢ v → has_corner (corners_from x y z) v ≡ false
off_corner x y z v p q r = grind (arith, nat_tests)

-- two ids are those of the new edge, one way or the other
abbrev AreThird : Edge → ℕ → ℕ → Type 0
AreThird s u v = ((s.c ≡ u) × (s.d ≡ v)) ⊎ ((s.d ≡ u) × (s.c ≡ v))

module _ (m : Mesh) (s : Edge) (sound : IsSound m) (beside : IsBeside m s) where
  -- ---- edges
  step_kind : (u v f : ℕ) (k : Corners) → HasCorners (result m s) f k → follows k u v ≡ true → IsEdge (scaffold m s) u v ⊎ AreThird s u v
  step_kind u v f k there step = ⊎_elim
      (λ e. ⊎_elim
      (λ t. inl (at s.a s.d t (edge_turned (scaffold m s) s.d s.a (back (m.next_face + 1 + 1 + 1) (fourth m s) s.a s.d (fourth_there m s) (step_two m.next_vertex s.a s.d)))))
      (λ rest. ⊎_elim
      (λ t. inr (inr t))
      (λ t. inl (at s.c s.a t (edge_of_step (scaffold m s) m.next_face (first m s) s.c s.a (first_there m s) (step_three s.a m.next_vertex s.c))))
      rest)
      (steps_of s.a s.d s.c u v (subst (λ c. follows c u v ≡ true) (sym e) step)))
      (λ others. ⊎_elim
      (λ e. ⊎_elim
      (λ t. inl (at s.b s.c t (edge_of_step (scaffold m s) (m.next_face + 1) (second m s) s.b s.c (second_there m s) (step_two m.next_vertex s.b s.c))))
      (λ rest. ⊎_elim
      (λ t. inr (inl t))
      (λ t. inl (at s.d s.b t (edge_of_step (scaffold m s) (m.next_face + 1 + 1) (third m s) s.d s.b (third_there m s) (step_three s.b m.next_vertex s.d))))
      rest)
      (steps_of s.b s.c s.d u v (subst (λ c. follows c u v ≡ true) (sym e) step)))
      (λ old. inl (edge_of_step (scaffold m s) f k u v (old_there m s f k (below f k old) old) step))
      others)
      (faces_of m s f k there)
    where
      at : (x y : ℕ) → (x ≡ u) × (y ≡ v) → IsEdge (scaffold m s) x y → IsEdge (scaffold m s) u v
      at x y t edge = subst (λ z. IsEdge (scaffold m s) z v) t.0 (subst (λ z. IsEdge (scaffold m s) x z) t.1 edge)

      back : (g : ℕ) (c : Corners) (x y : ℕ) → HasCorners (scaffold m s) g c → follows c x y ≡ true → IsEdge (scaffold m s) y x
      back g c x y here run = edge_turned (scaffold m s) x y (edge_of_step (scaffold m s) g c x y here run)

      below : (g : ℕ) (c : Corners) → HasCorners (bare m s) g c → g < m.next_face
      below g c old = (sound.is_mesh.face_ids g (ap is_some (was m s g c old))).1

  turned : (u v : ℕ) → AreThird s v u → AreThird s u v
  turned u v t = ⊎_elim (λ e. inr (e.1, e.0)) (λ e. inl (e.1, e.0)) t

  -- an edge of the result is one of the scaffold, or the new one
  edge_kind : (u v : ℕ) → IsEdge (result m s) u v → IsEdge (scaffold m s) u v ⊎ AreThird s u v
  edge_kind u v edge = ⊎_elim
      (λ some. let f = running_face (result m s) u v some in step_kind u v (f.0).0 (f.0).1 f.2 f.1)
      (λ some. let f = running_face (result m s) v u some in ⊎_elim (λ e. inl (edge_turned (scaffold m s) v u e)) (λ t. inr (turned u v t)) (step_kind v u (f.0).0 (f.0).1 f.2 f.1))
      (either_way (runs (result m s) u v) (runs (result m s) v u) edge)

  -- ---- what may not meet at the end of the motion
  module _ (clear : IsClear (scaffold m s) (end m s)) where
    never : (x y g : ℕ) (k : Corners) (X Y A B C : Triple) → x < y → IsEdge (scaffold m s) x y → HasCorners (scaffold m s) g k → has_corner k x ≡ false → has_corner k y ≡ false →
        end m s x ≡ X → end m s y ≡ Y → end m s k.first ≡ A → end m s k.second ≡ B → end m s k.third ≡ C → Meets X Y A B C → ⊥
    never x y g k X Y A B C ordered edge there not_x not_y at_x at_y at_a at_b at_c meets =
        clear (record { name = record { a = x; b = y; face = g }; corners = k })
        (record { ordered = ordered; edge = edge; face = there; not_first = not_x; not_second = not_y })
        (subst MeetAt (sym (λ i. record { a = at_x i; b = at_y i; c = at_a i; d = at_b i; e = at_c i })) meets)

    point : ℕ → Triple
    point v = rest_positions m v

    middle : Triple
    middle = plus (rest_positions m s.c) (rest_positions m s.d)

    apart : (v : ℕ) → v < m.next_vertex → m.next_vertex ≢ v
    apart v h e = omega (arith, e)

    -- an old edge against the first new face
    against_one : (x y : ℕ) → x < y → IsEdge (scaffold m s) x y → x < m.next_vertex → y < m.next_vertex → has_corner (one m s) x ≡ false → has_corner (one m s) y ≡ false →
        Meets (rest_positions m x) (rest_positions m y) (rest_positions m s.a) (rest_positions m s.d) (rest_positions m s.c) → ⊥
    against_one x y ordered edge bx by not_x not_y meets =
        let nx = no_corner (one m s) x not_x in
        let ny = no_corner (one m s) y not_y in
        ⊎_elim
        (λ h. never x y m.next_face (first m s) _ _ _ _ _ ordered edge (first_there m s)
        (off_corner s.a m.next_vertex s.c x nx.0 (apart x bx) nx.2) (off_corner s.a m.next_vertex s.c y ny.0 (apart y by) ny.2)
        (end_old m s x bx) (end_old m s y by) (end_old m s s.a beside.a_below) (end_new m s) (end_old m s s.c beside.c_below) h)
        (λ h. never x y (m.next_face + 1 + 1 + 1) (fourth m s) _ _ _ _ _ ordered edge (fourth_there m s)
        (off_corner m.next_vertex s.a s.d x (apart x bx) nx.0 nx.1) (off_corner m.next_vertex s.a s.d y (apart y by) ny.0 ny.1)
        (end_old m s x bx) (end_old m s y by) (end_new m s) (end_old m s s.a beside.a_below) (end_old m s s.d beside.d_below) h)
        (face_is_two_faces (rest_positions m x) (rest_positions m y) (rest_positions m s.a) (rest_positions m s.c) (rest_positions m s.d) meets)

    -- and against the second
    against_two : (x y : ℕ) → x < y → IsEdge (scaffold m s) x y → x < m.next_vertex → y < m.next_vertex → has_corner (two m s) x ≡ false → has_corner (two m s) y ≡ false →
        Meets (rest_positions m x) (rest_positions m y) (rest_positions m s.b) (rest_positions m s.c) (rest_positions m s.d) → ⊥
    against_two x y ordered edge bx by not_x not_y meets =
        let nx = no_corner (two m s) x not_x in
        let ny = no_corner (two m s) y not_y in
        let mid = end_new m s ∙ plus_comm (rest_positions m s.c) (rest_positions m s.d) in
        ⊎_elim
        (λ h. never x y (m.next_face + 1 + 1) (third m s) _ _ _ _ _ ordered edge (third_there m s)
        (off_corner s.b m.next_vertex s.d x nx.0 (apart x bx) nx.2) (off_corner s.b m.next_vertex s.d y ny.0 (apart y by) ny.2)
        (end_old m s x bx) (end_old m s y by) (end_old m s s.b beside.b_below) mid (end_old m s s.d beside.d_below) h)
        (λ h. never x y (m.next_face + 1) (second m s) _ _ _ _ _ ordered edge (second_there m s)
        (off_corner m.next_vertex s.b s.c x (apart x bx) nx.0 nx.1) (off_corner m.next_vertex s.b s.c y (apart y by) ny.0 ny.1)
        (end_old m s x bx) (end_old m s y by) mid (end_old m s s.b beside.b_below) (end_old m s s.c beside.c_below) h)
        (face_is_two_faces (rest_positions m x) (rest_positions m y) (rest_positions m s.b) (rest_positions m s.d) (rest_positions m s.c) meets)

    -- the new edge against an old face
    new_against : (f : ℕ) (k : Corners) → HasCorners (bare m s) f k → has_corner k s.c ≡ false → has_corner k s.d ≡ false →
        Meets (rest_positions m s.c) (rest_positions m s.d) (rest_positions m k.first) (rest_positions m k.second) (rest_positions m k.third) → ⊥
    new_against f k old not_c not_d meets =
        let live = sound.is_mesh.live_corners f k (was m s f k old) in
        let below : (v : ℕ) → IsLiveVertex m v → v < m.next_vertex = λ v h. (sound.is_mesh.vertex_ids v h).1 in
        let a = below k.first live.0 in
        let b = below k.second live.1 in
        let c = below k.third live.2 in
        let not_new : has_corner k m.next_vertex ≡ false = off_corner k.first k.second k.third m.next_vertex (λ e. apart k.first a (sym e)) (λ e. apart k.second b (sym e)) (λ e. apart k.third c (sym e)) in
        let there = old_there m s f k (sound.is_mesh.face_ids f (ap is_some (was m s f k old))).1 old in
        ⊎_elim
        (λ h. never s.c m.next_vertex f k _ _ _ _ _ beside.c_below
        (edge_of_step (scaffold m s) (m.next_face + 1) (second m s) s.c m.next_vertex (second_there m s) (step_three m.next_vertex s.b s.c)) there not_c not_new
        (end_old m s s.c beside.c_below) (end_new m s) (end_old m s k.first a) (end_old m s k.second b) (end_old m s k.third c) h)
        (λ h. never s.d m.next_vertex f k _ _ _ _ _ beside.d_below
        (edge_of_step (scaffold m s) (m.next_face + 1 + 1 + 1) (fourth m s) s.d m.next_vertex (fourth_there m s) (step_three m.next_vertex s.a s.d)) there not_d not_new
        (end_old m s s.d beside.d_below) (end_new m s) (end_old m s k.first a) (end_old m s k.second b) (end_old m s k.third c) (Meets-exchanged _ _ _ _ _ h))
        (edge_is_two_edges (rest_positions m s.c) (rest_positions m s.d) (rest_positions m k.first) (rest_positions m k.second) (rest_positions m k.third) meets)

    -- an old edge against an old face
    old_against : (x y f : ℕ) (k : Corners) → x < y → IsEdge (scaffold m s) x y → x < m.next_vertex → y < m.next_vertex → HasCorners (bare m s) f k → has_corner k x ≡ false → has_corner k y ≡ false →
        Meets (rest_positions m x) (rest_positions m y) (rest_positions m k.first) (rest_positions m k.second) (rest_positions m k.third) → ⊥
    old_against x y f k ordered edge bx by old not_x not_y meets =
        let live = sound.is_mesh.live_corners f k (was m s f k old) in
        let below : (v : ℕ) → IsLiveVertex m v → v < m.next_vertex = λ v h. (sound.is_mesh.vertex_ids v h).1 in
        never x y f k _ _ _ _ _ ordered edge (old_there m s f k (sound.is_mesh.face_ids f (ap is_some (was m s f k old))).1 old) not_x not_y
        (end_old m s x bx) (end_old m s y by) (end_old m s k.first (below k.first live.0)) (end_old m s k.second (below k.second live.1)) (end_old m s k.third (below k.third live.2))
        (Meets-multiple 2 (record { a = rest_positions m x; b = rest_positions m y; c = rest_positions m k.first; d = rest_positions m k.second; e = rest_positions m k.third }) meets)

    -- by the kinds of the edge and of the face
    old_edge : (x y f : ℕ) (k : Corners) → x < y → IsEdge (scaffold m s) x y → x < m.next_vertex → y < m.next_vertex → HasCorners (result m s) f k → has_corner k x ≡ false → has_corner k y ≡ false →
        Meets (rest_positions m x) (rest_positions m y) (rest_positions m k.first) (rest_positions m k.second) (rest_positions m k.third) → ⊥
    old_edge x y f k ordered edge bx by there not_x not_y meets = ⊎_elim
        (λ e. against_one x y ordered edge bx by (subst (λ c. has_corner c x ≡ false) (sym e) not_x) (subst (λ c. has_corner c y ≡ false) (sym e) not_y)
        (subst (λ c. Meets (rest_positions m x) (rest_positions m y) (rest_positions m c.first) (rest_positions m c.second) (rest_positions m c.third)) (sym e) meets))
        (λ others. ⊎_elim
        (λ e. against_two x y ordered edge bx by (subst (λ c. has_corner c x ≡ false) (sym e) not_x) (subst (λ c. has_corner c y ≡ false) (sym e) not_y)
        (subst (λ c. Meets (rest_positions m x) (rest_positions m y) (rest_positions m c.first) (rest_positions m c.second) (rest_positions m c.third)) (sym e) meets))
        (λ old. old_against x y f k ordered edge bx by old not_x not_y meets)
        others)
        (faces_of m s f k there)

    new_edge : (f : ℕ) (k : Corners) → HasCorners (result m s) f k → has_corner k s.c ≡ false → has_corner k s.d ≡ false →
        Meets (rest_positions m s.c) (rest_positions m s.d) (rest_positions m k.first) (rest_positions m k.second) (rest_positions m k.third) → ⊥
    new_edge f k there not_c not_d meets = ⊎_elim
        (λ e. (no_corner (one m s) s.c (subst (λ c. has_corner c s.c ≡ false) (sym e) not_c)).2 refl)
        (λ others. ⊎_elim
        (λ e. (no_corner (two m s) s.c (subst (λ c. has_corner c s.c ≡ false) (sym e) not_c)).1 refl)
        (λ old. new_against f k old not_c not_d meets)
        others)
        (faces_of m s f k there)

    -- the new edge, by either of its ends first
    third_edge : (x y f : ℕ) (k : Corners) → AreThird s x y → HasCorners (result m s) f k → has_corner k x ≡ false → has_corner k y ≡ false →
        Meets (rest_positions m x) (rest_positions m y) (rest_positions m k.first) (rest_positions m k.second) (rest_positions m k.third) → ⊥
    third_edge x y f k ends there not_x not_y meets = ⊎_elim
        (λ e. new_edge f k there (subst (λ v. has_corner k v ≡ false) (sym e.0) not_x) (subst (λ v. has_corner k v ≡ false) (sym e.1) not_y)
        (subst (λ v. Meets (rest_positions m v) (rest_positions m s.d) (rest_positions m k.first) (rest_positions m k.second) (rest_positions m k.third)) (sym e.0)
        (subst (λ v. Meets (rest_positions m x) (rest_positions m v) (rest_positions m k.first) (rest_positions m k.second) (rest_positions m k.third)) (sym e.1) meets)))
        (λ e. new_edge f k there (subst (λ v. has_corner k v ≡ false) (sym e.1) not_y) (subst (λ v. has_corner k v ≡ false) (sym e.0) not_x)
        (Meets-exchanged _ _ _ _ _
        (subst (λ v. Meets (rest_positions m v) (rest_positions m s.c) (rest_positions m k.first) (rest_positions m k.second) (rest_positions m k.third)) (sym e.0)
        (subst (λ v. Meets (rest_positions m x) (rest_positions m v) (rest_positions m k.first) (rest_positions m k.second) (rest_positions m k.third)) (sym e.1) meets))))
        ends

  pub flip_is_clear : IsSound (result m s) → IsClearAlong (scaffold m s) (motion_of (flip_scaffold m s)) → IsClearMesh (result m s)
  flip_is_clear after along p is_pair meets =
      let clear : IsClear (scaffold m s) (end m s) = clear_at_end (scaffold m s) (motion_of (flip_scaffold m s)) (clear_after_along (scaffold m s) (motion_of (flip_scaffold m s)) along) in
      let live = edge_live (result m s) p.name.a p.name.b after is_pair.edge in
      let a = (sound.is_mesh.vertex_ids p.name.a live.0).1 in
      let b = (sound.is_mesh.vertex_ids p.name.b live.1).1 in
      ⊎_elim
      (λ edge. old_edge clear p.name.a p.name.b p.name.face p.corners is_pair.ordered edge a b is_pair.face is_pair.not_first is_pair.not_second meets)
      (λ ends. third_edge clear p.name.a p.name.b p.name.face p.corners ends is_pair.face is_pair.not_first is_pair.not_second meets)
      (edge_kind p.name.a p.name.b is_pair.edge)
