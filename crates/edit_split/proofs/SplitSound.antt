-- A split that passes no limit leaves a sound mesh.
use Rattle.std.proofs.Common.{◌≡◌, ◌≢◌, ℕ, ◌+◌, ◌<◌, ◌≤◌, false, [], ◌∷◌, inl, inr, sym, arith}
use Rattle.grid_base.specs.declared.Point.{Point}
use Rattle.mesh_base.specs.declared.ids.Corners.{Corners}
use Rattle.mesh_base.specs.Mesh.{Mesh, IsMesh, IsSound, IsLiveVertex}
use Rattle.mesh_base.specs.Changes.{with_vertex, with_face, without_face, IsFresh}
use Rattle.mesh_base.specs.Limits.{is_over_limits}
use Rattle.mesh_base.proofs.Finite.{live_stays, live_inserted}
use Rattle.mesh_base.proofs.MeshLaws.{next_is_new}
use Rattle.edit_base.specs.Edges.{AreFresh, Edge, corners_from, without_faces}
use Rattle.edit_split.specs.Split.{split_mesh}
use Rattle.edit_base.specs.Beside.{IsBeside}
use Rattle.edit_acts.proofs.Sound.{mesh-without_face, mesh-with_vertex, mesh-with_faces, still_fresh, not_over, next_face-with_faces, not_rotated}

module _ (m : Mesh) (p : Point) (mesh : IsMesh m) where
  below : (u : ℕ) → IsLiveVertex m u → u < m.next_vertex
  below u live = (mesh.vertex_ids u live).1

  live_after : (u : ℕ) → IsLiveVertex m u → IsLiveVertex (with_vertex m p) u
  live_after u live = live_stays m.points m.next_vertex p u live

  -- the new vertex between two others
  pub fresh_between : (u v : ℕ) → IsLiveVertex m u → IsLiveVertex m v → v ≢ u → IsFresh (with_vertex m p) (corners_from u m.next_vertex v)
  fresh_between u v live_u live_v apart =
      let a = below u live_u in
      let b = below v live_v in
      record {
        live = (live_after u live_u, live_inserted m.points m.next_vertex p, live_after v live_v);
        different = record { first_second = λ e. omega (arith, e); second_third = λ e. omega (arith, e); third_first = apart };
        new = λ f d h. let away = next_is_new m mesh f d h in not_rotated d.first d.second d.third u m.next_vertex v (inr (inl away.1)) (inr (inl away.2)) (inr (inl away.0));
      }

  -- the new vertex before two others
  pub fresh_before : (u v : ℕ) → IsLiveVertex m u → IsLiveVertex m v → u ≢ v → IsFresh (with_vertex m p) (corners_from m.next_vertex u v)
  fresh_before u v live_u live_v apart =
      let a = below u live_u in
      let b = below v live_v in
      record {
        live = (live_inserted m.points m.next_vertex p, live_after u live_u, live_after v live_v);
        different = record { first_second = λ e. omega (arith, e); second_third = apart; third_first = λ e. omega (arith, e) };
        new = λ f d h. let away = next_is_new m mesh f d h in not_rotated d.first d.second d.third m.next_vertex u v (inl away.0) (inl away.1) (inl away.2);
      }

-- the four faces round the new vertex
module _ (m : Mesh) (s : Edge) (p : Point) (sound : IsSound m) (beside : IsBeside m s) where
  abbrev bare : Mesh
  bare = without_faces m (s.left_face ∷ s.right_face ∷ [])

  abbrev base : Mesh
  base = with_vertex bare p

  abbrev w : ℕ
  w = m.next_vertex

  abbrev one : Corners
  one = corners_from s.a w s.c

  abbrev two : Corners
  two = corners_from w s.b s.c

  abbrev three : Corners
  three = corners_from s.b w s.d

  abbrev four : Corners
  four = corners_from w s.a s.d

  bare_mesh : IsMesh bare
  bare_mesh = mesh-without_face (without_face m s.left_face) s.right_face (mesh-without_face m s.left_face sound.is_mesh)

  less : (x y : ℕ) → x < y → x ≢ y
  less x y h e = omega (arith, e)

  more : (x y : ℕ) → x < y → y ≢ x
  more x y h e = omega (arith, e)

  pub all_fresh : AreFresh base (one ∷ two ∷ three ∷ four ∷ [])
  all_fresh =
      let not_a = less s.a w beside.a_below in
      let a_not = more s.a w beside.a_below in
      let b_not = more s.b w beside.b_below in
      let not_c = less s.c w beside.c_below in
      let c_not = more s.c w beside.c_below in
      let d_not = more s.d w beside.d_below in
      let b_a : s.b ≢ s.a = λ e. beside.a_b (sym e) in
      let c_b : s.c ≢ s.b = λ e. beside.b_c (sym e) in
      let base_two = fresh_before bare p bare_mesh s.b s.c beside.b_live beside.c_live beside.b_c in
      let base_three = fresh_between bare p bare_mesh s.b s.d beside.b_live beside.d_live beside.d_b in
      let base_four = fresh_before bare p bare_mesh s.a s.d beside.a_live beside.d_live beside.a_d in
      let one_two = not_rotated s.a w s.c w s.b s.c (inl not_a) (inr (inl c_b)) (inl not_c) in
      let one_three = not_rotated s.a w s.c s.b w s.d (inl beside.a_b) (inr (inl not_c)) (inl c_b) in
      let one_four = not_rotated s.a w s.c w s.a s.d (inl not_a) (inr (inl beside.c_a)) (inl not_c) in
      let two_three = not_rotated w s.b s.c s.b w s.d (inl b_not) (inr (inl not_c)) (inl c_b) in
      let two_four = not_rotated w s.b s.c w s.a s.d (inr (inl b_a)) (inl (less s.b w beside.b_below)) (inl not_c) in
      let three_four = not_rotated s.b w s.d w s.a s.d (inl (less s.b w beside.b_below)) (inr (inl (λ e. beside.a_d (sym e)))) (inl (less s.d w beside.d_below)) in (
        fresh_between bare p bare_mesh s.a s.c beside.a_live beside.c_live beside.c_a,
        (
          still_fresh base one two base_two one_two,
          (
            still_fresh (with_face base one) two three (still_fresh base one three base_three one_three) two_three,
            (
              still_fresh (with_face (with_face base one) two) three four (still_fresh (with_face base one) two four (still_fresh base one four base_four one_four) two_four) three_four,
              tt,
            ),
          ),
        ),
      )

  pub split_is_mesh : IsMesh (split_mesh m s p)
  split_is_mesh = mesh-with_faces base (one ∷ two ∷ three ∷ four ∷ []) (mesh-with_vertex bare p bare_mesh sound.limits.vertex_ids.0) sound.limits.face_ids.0 all_fresh

  pub split_is_sound : is_over_limits (split_mesh m s p) ≡ false → IsSound (split_mesh m s p)
  split_is_sound fits = record {
    is_mesh = split_is_mesh;
    limits = not_over (split_mesh m s p) fits
        (let h : 1 ≤ m.next_vertex + 1 = omega arith in h)
        (next_face-with_faces base (one ∷ two ∷ three ∷ four ∷ []) sound.limits.face_ids.0)
        sound.limits.greatest;
  }
