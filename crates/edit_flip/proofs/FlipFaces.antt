-- The faces of a flip's scaffold and of its result, and where the scaffold's motion ends.
use Rattle.std.proofs.Common.{◌≡◌, ◌⊎◌, ℕ, ◌+◌, ◌<◌, Bool, true, false, cond, ◌==◌, [], ◌∷◌, Some, None, inl, inr, ⊎_elim, ap, ◌∙◌, arith}
use Rattle.std.proofs.lemmas.Bool.{ne_eqb}
use Rattle.std.proofs.lemmas.Bool.Decides.{nat_tests}
use Rattle.std.specs.Option.{option_map, unwrap_or}
use Rattle.std.specs.Cmp.{nat_cmp_total, eq_by_cmp_equiv, unsigned_tied}
use Rattle.std.specs.FinMap as finite
use Rattle.std.specs.FinMap.{get-insert}
use Rattle.grid_base.specs.Triples.{Triple, plus, times}
use Rattle.grid_base.specs.Points.{position_of}
use Rattle.mesh_base.specs.declared.ids.Corners.{Corners}
use Rattle.mesh_base.specs.Mesh.{Mesh, HasCorners}
use Rattle.mesh_base.specs.Changes.{with_vertex, with_face, without_face}
use Rattle.mesh_base.specs.Placements.{Placement, rest_positions, rest_positions_doubled}
use Rattle.mesh_base.proofs.Finite.{got_after_insert, got_after_remove}
use Rattle.edit_base.specs.declared.scaffold.Move.{Move}
use Rattle.edit_base.specs.Scaffold.{motion_of}
use Rattle.edit_base.specs.Edges.{Edge, corners_from, without_faces}
use Rattle.edit_split.specs.Split.{split_mesh, split_point}
use Rattle.edit_flip.specs.Flip.{flip_mesh, flip_scaffold}
use Rattle.edit_split.proofs.SplitEnds.{new_point}

made : (m : Mesh) (c : Corners) → HasCorners (with_face m c) m.next_face c
made m c = get-insert nat_cmp_total m.faces m.next_face c m.next_face ∙ ap (λ b. cond b (Some c) (finite.get m.faces m.next_face)) ((eq_by_cmp_equiv nat_cmp_total).refl m.next_face)

kept : (m : Mesh) (k : Corners) (f : ℕ) (c : Corners) → f < m.next_face → HasCorners m f c → HasCorners (with_face m k) f c
kept m k f c below there =
    get-insert nat_cmp_total m.faces m.next_face k f
    ∙ ap (λ b. cond b (Some k) (finite.get m.faces f)) (unsigned_tied f m.next_face ∙ ne_eqb f m.next_face (λ e. omega (arith, e)))
    ∙ there

itself : (v : ℕ) → (v == v) ≡ true
itself v = grind (arith, nat_tests)

module _ (m : Mesh) (s : Edge) where
  abbrev pub bare : Mesh
  bare = without_faces m (s.left_face ∷ s.right_face ∷ [])

  -- the four faces of the scaffold
  abbrev pub first : Corners
  first = corners_from s.a m.next_vertex s.c

  abbrev pub second : Corners
  second = corners_from m.next_vertex s.b s.c

  abbrev pub third : Corners
  third = corners_from s.b m.next_vertex s.d

  abbrev pub fourth : Corners
  fourth = corners_from m.next_vertex s.a s.d

  abbrev pub scaffold : Mesh
  scaffold = split_mesh m s (split_point m s)

  -- the two faces of the result
  abbrev pub one : Corners
  one = corners_from s.a s.d s.c

  abbrev pub two : Corners
  two = corners_from s.b s.c s.d

  abbrev pub result : Mesh
  result = flip_mesh m s

  abbrev s0 : Mesh
  s0 = with_vertex bare (split_point m s)

  abbrev s1 : Mesh
  s1 = with_face s0 first

  abbrev s2 : Mesh
  s2 = with_face s1 second

  abbrev s3 : Mesh
  s3 = with_face s2 third

  more : (f n : ℕ) → f < n → f < n + 1
  more f n h = omega arith

  next : (n : ℕ) → n < n + 1
  next n = omega arith

  pub first_there : HasCorners scaffold m.next_face first
  first_there = kept s3 fourth m.next_face first (more m.next_face (m.next_face + 1 + 1) (more m.next_face (m.next_face + 1) (next m.next_face)))
      (kept s2 third m.next_face first (more m.next_face (m.next_face + 1) (next m.next_face)) (kept s1 second m.next_face first (next m.next_face) (made s0 first)))

  pub second_there : HasCorners scaffold (m.next_face + 1) second
  second_there = kept s3 fourth (m.next_face + 1) second (more (m.next_face + 1) (m.next_face + 1 + 1) (next (m.next_face + 1))) (kept s2 third (m.next_face + 1) second (next (m.next_face + 1)) (made s1 second))

  pub third_there : HasCorners scaffold (m.next_face + 1 + 1) third
  third_there = kept s3 fourth (m.next_face + 1 + 1) third (next (m.next_face + 1 + 1)) (made s2 third)

  pub fourth_there : HasCorners scaffold (m.next_face + 1 + 1 + 1) fourth
  fourth_there = made s3 fourth

  pub was : (f : ℕ) (c : Corners) → HasCorners bare f c → HasCorners m f c
  was f c h = (got_after_remove m.faces s.left_face f c (got_after_remove (without_face m s.left_face).faces s.right_face f c h).1).1

  -- a face that was there is in the scaffold
  pub old_there : (f : ℕ) (c : Corners) → f < m.next_face → HasCorners bare f c → HasCorners scaffold f c
  old_there f c below h =
      let one = more f m.next_face below in
      let two = more f (m.next_face + 1) one in
      let three = more f (m.next_face + 1 + 1) two in
      kept s3 fourth f c three (kept s2 third f c two (kept s1 second f c one (kept s0 first f c below h)))

  -- a face of the result is one of the two, or was there
  pub faces_of : (f : ℕ) (c : Corners) → HasCorners result f c → (one ≡ c) ⊎ ((two ≡ c) ⊎ HasCorners bare f c)
  faces_of f c h = ⊎_elim
      (λ e. inr (inl e.1))
      (λ old. ⊎_elim (λ e. inl e.1) (λ was. inr (inr was)) (got_after_insert bare.faces m.next_face one f c old))
      (got_after_insert (with_face bare one).faces (m.next_face + 1) two f c h)

  -- ---- where the motion ends
  abbrev pub end : Placement
  end = (motion_of (flip_scaffold m s)).end

  abbrev flip_move : Move
  flip_move = record { v = m.next_vertex; start = plus (rest_positions m s.a) (rest_positions m s.b); end = plus (rest_positions m s.c) (rest_positions m s.d) }

  abbrev looked : ℕ → Bool → Triple
  looked v b = unwrap_or (option_map (λ (mv : Move). mv.end) (cond b (Some flip_move) None)) (rest_positions_doubled scaffold v)

  -- the new vertex ends midway between the opposite vertices
  pub end_new : end m.next_vertex ≡ plus (rest_positions m s.c) (rest_positions m s.d)
  end_new = ap (looked m.next_vertex) (itself m.next_vertex)

  apart_test : (v : ℕ) → v < m.next_vertex → (m.next_vertex == v) ≡ false
  apart_test v below = grind (arith, nat_tests)

  -- any other stays
  pub end_old : (v : ℕ) → v < m.next_vertex → end v ≡ times 2 (rest_positions m v)
  end_old v below =
      ap (looked v) (apart_test v below)
      ∙ ap (times 2) (new_point m s (split_point m s) v ∙ ap (λ b. cond b (position_of (split_point m s)) (rest_positions m v)) (apart_test v below))
