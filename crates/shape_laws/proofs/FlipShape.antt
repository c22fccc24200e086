-- A flip leaves as many pieces and the same Euler number.
use Rattle.std.proofs.Common.{◌≡◌, ◌≢◌, ◌⊎◌, ℕ, ◌<◌, true, false, List, [], ◌∷◌, length, inl, inr, ⊎_elim, refl, sym, subst, ◌∙◌, arith}
use Rattle.std.proofs.lemmas.Bool.{false≢true}
use Rattle.std.specs.FinMap as finite
use Rattle.mesh_base.specs.declared.ids.Corners.{Corners}
use Rattle.mesh_base.specs.Mesh.{Mesh, IsSound}
use Rattle.mesh_base.specs.Sides.{has_corner, follows}
use Rattle.mesh_base.specs.Pairs.{edges, is_edge, is_crowded}
use Rattle.edit_base.specs.Edges.{Edge, corners_from}
use Rattle.edit_base.specs.Beside.{IsBeside}
use Rattle.edit_acts.proofs.Counting.{len-with_faces}
use Rattle.edit_acts.proofs.FaceCorners.{step_one, step_two, step_three}
use Rattle.edit_split.proofs.SplitCounts.{bare_below, len-bare}
use Rattle.edit_flip.specs.Flip.{flip_faces, flip_mesh}
use Rattle.edit_flip.proofs.FlipSound.{no_step}
use Rattle.mesh_measure.specs.Shape.{components, euler, faced_ids}
use Rattle.shape_laws.proofs.Lists.{In, same_length}
use Rattle.shape_laws.proofs.Chained.{Holds, IsFaced, Chain, one_face, LeadsInto, same_pieces}
use Rattle.shape_laws.proofs.Listed.{HasSide, AreSided, faced_in, in_faced, faced_differ}
use Rattle.shape_laws.proofs.Traded.{ArePair, AreOneOf, AreTraded, pair_turned, one_turned, never_first, never_second, sided_to_pair, sided_from_pair, edges_traded, balanced}
use Rattle.shape_laws.proofs.Faces.{bare, left, right, left_alike, right_alike, left_held, right_held, left_right_or_stays, stayed, none_stays, made_or_old, old_kept, new_there, AreAlike, corner_one, corner_two, corner_three, of_three, of_steps}

module _ (m : Mesh) (s : Edge) (sound : IsSound m) (beside : IsBeside m s) (a_b : s.a < s.b) (no_edge : is_edge m s.c s.d ≡ false) (uncrowded : is_crowded m s.a s.b ≡ false) (sound' : IsSound (flip_mesh m s)) (x y : ℕ) (less : x < y) (c_d : ArePair x y s.c s.d) where
  abbrev n : Mesh
  n = flip_mesh m s

  abbrev one : Corners
  one = corners_from s.a s.d s.c

  abbrev two : Corners
  two = corners_from s.b s.c s.d

  -- ---- faces
  news : (c : Corners) → In (flip_faces s) c → Holds n c
  news c i = new_there (bare m s beside) (flip_faces s) c (bare_below m s sound beside) i

  one_there : Holds n one
  one_there = news one (inl refl)

  two_there : Holds n two
  two_there = news two (inr (inl refl))

  down : (c : Corners) → Holds m c → AreAlike c (left m s beside) ⊎ (AreAlike c (right m s beside) ⊎ Holds n c)
  down c h = ⊎_elim
      (λ e. inl e)
      (λ rest. ⊎_elim (λ e. inr (inl e)) (λ stays. inr (inr (old_kept (bare m s beside) (flip_faces s) c (bare_below m s sound beside) stays))) rest)
      (left_right_or_stays m s beside c h)

  up : (c : Corners) → Holds n c → In (flip_faces s) c ⊎ Holds (bare m s beside) c
  up c h = made_or_old (bare m s beside) (flip_faces s) c h

  -- what each of the two faces has
  of_two : (P : Corners → Type 0) → P one → P two → (c : Corners) → In (flip_faces s) c → P c
  of_two P p q c i = ⊎_elim (λ e. subst P e p) (λ j. ⊎_elim (λ e. subst P e q) (λ none. absurd none) j) i

  -- ---- vertices that have a face
  a_faced : IsFaced n s.a
  a_faced = (one, one_there, corner_one s.a s.d s.c)

  b_faced : IsFaced n s.b
  b_faced = (two, two_there, corner_one s.b s.c s.d)

  c_faced : IsFaced n s.c
  c_faced = (one, one_there, corner_three s.a s.d s.c)

  d_faced : IsFaced n s.d
  d_faced = (one, one_there, corner_two s.a s.d s.c)

  faced_on : (v : ℕ) → IsFaced m v → IsFaced n v
  faced_on v faced = ⊎_elim
      (λ e. of_three (IsFaced n) s.a s.b s.c v a_faced b_faced c_faced (sym (e.corners v) ∙ faced.2))
      (λ rest. ⊎_elim
      (λ e. of_three (IsFaced n) s.b s.a s.d v b_faced a_faced d_faced (sym (e.corners v) ∙ faced.2))
      (λ stays. (faced.0, stays, faced.2)) rest)
      (down faced.0 faced.1)

  on_left : (v : ℕ) → has_corner (left m s beside) v ≡ true → IsFaced m v
  on_left v h = (beside.left_corners, left_held m s beside, (left_alike m s beside).corners v ∙ h)

  on_right : (v : ℕ) → has_corner (right m s beside) v ≡ true → IsFaced m v
  on_right v h = (beside.right_corners, right_held m s beside, (right_alike m s beside).corners v ∙ h)

  old_a : IsFaced m s.a
  old_a = on_left s.a (corner_one s.a s.b s.c)

  old_b : IsFaced m s.b
  old_b = on_left s.b (corner_two s.a s.b s.c)

  old_c : IsFaced m s.c
  old_c = on_left s.c (corner_three s.a s.b s.c)

  old_d : IsFaced m s.d
  old_d = on_right s.d (corner_three s.b s.a s.d)

  faced_back : (v : ℕ) → IsFaced n v → IsFaced m v
  faced_back v faced = ⊎_elim
      (λ i. of_two (λ c. has_corner c v ≡ true → IsFaced m v)
      (λ h. of_three (IsFaced m) s.a s.d s.c v old_a old_d old_c h)
      (λ h. of_three (IsFaced m) s.b s.c s.d v old_b old_c old_d h)
      faced.0 i faced.2)
      (λ stays. (faced.0, stayed m s beside faced.0 stays, faced.2))
      (up faced.0 faced.1)

  faced_count : length (faced_ids n) ≡ length (faced_ids m)
  faced_count = same_length (faced_ids n) (faced_ids m) (faced_differ n) (faced_differ m)
      (λ v i. faced_in m sound v (faced_back v (in_faced n v i)))
      (λ v i. faced_in n sound' v (faced_on v (in_faced m v i)))

  -- ---- pieces
  left_chain : (v : ℕ) → has_corner (left m s beside) v ≡ true → Chain m v s.a
  left_chain v h = one_face m beside.left_corners v s.a (left_held m s beside) ((left_alike m s beside).corners v ∙ h) ((left_alike m s beside).corners s.a ∙ corner_one s.a s.b s.c)

  right_chain : (v : ℕ) → has_corner (right m s beside) v ≡ true → Chain m v s.a
  right_chain v h = one_face m beside.right_corners v s.a (right_held m s beside) ((right_alike m s beside).corners v ∙ h) ((right_alike m s beside).corners s.a ∙ corner_two s.b s.a s.d)

  abbrev ToOld : ℕ → Type 0
  ToOld v = Chain m v s.a

  abbrev ToNew : ℕ → Type 0
  ToNew v = Chain n v s.d

  b_old : ToOld s.b
  b_old = left_chain s.b (corner_two s.a s.b s.c)

  c_old : ToOld s.c
  c_old = left_chain s.c (corner_three s.a s.b s.c)

  d_old : ToOld s.d
  d_old = right_chain s.d (corner_three s.b s.a s.d)

  backwards : LeadsInto n m s.a (λ v. v)
  backwards = record {
    each = λ c h. ⊎_elim
        (λ i. inl (of_two (λ k. (v : ℕ) → has_corner k v ≡ true → ToOld v)
        (λ v h. of_three ToOld s.a s.d s.c v Chain.here d_old c_old h)
        (λ v h. of_three ToOld s.b s.c s.d v b_old c_old d_old h)
        c i))
        (λ stays. inr (stayed m s beside c stays))
        (up c h);
    still = λ v faced. refl;
  }

  a_new : ToNew s.a
  a_new = one_face n one s.a s.d one_there (corner_one s.a s.d s.c) (corner_two s.a s.d s.c)

  b_new : ToNew s.b
  b_new = one_face n two s.b s.d two_there (corner_one s.b s.c s.d) (corner_three s.b s.c s.d)

  c_new : ToNew s.c
  c_new = one_face n one s.c s.d one_there (corner_three s.a s.d s.c) (corner_two s.a s.d s.c)

  onwards : LeadsInto m n s.d (λ v. v)
  onwards = record {
    each = λ c h. ⊎_elim
        (λ e. inl (λ v h. of_three ToNew s.a s.b s.c v a_new b_new c_new (sym (e.corners v) ∙ h)))
        (λ rest. ⊎_elim
        (λ e. inl (λ v h. of_three ToNew s.b s.a s.d v b_new a_new Chain.here (sym (e.corners v) ∙ h)))
        (λ stays. inr stays) rest)
        (down c h);
    still = λ v faced. refl;
  }

  pub flip_pieces : components n ≡ components m
  flip_pieces = same_pieces m n s.d s.a (λ v. v) (λ v. v) onwards backwards
      (λ c h. let at_first = corner_one c.first c.second c.third in (c.first, at_first, faced_on c.first (c, h, at_first)))
      (λ c h. let at_first = corner_one c.first c.second c.third in (c.first, at_first, faced_back c.first (c, h, at_first)))

  -- ---- edges
  abbrev gone : List (ℕ × ℕ)
  gone = (s.a, s.b) ∷ []

  abbrev came : List (ℕ × ℕ)
  came = (x, y) ∷ []

  abbrev GoneOrSided : ℕ → ℕ → Type 0
  GoneOrSided u v = AreOneOf gone u v ⊎ AreSided n u v

  side_of : (c : Corners) (u v : ℕ) → Holds n c → follows c u v ≡ true → GoneOrSided u v
  side_of c u v h step = inr (inl (c, h, step))

  old_step : (u v : ℕ) → HasSide m u v → GoneOrSided u v
  old_step u v side = ⊎_elim
      (λ e. of_steps GoneOrSided s.a s.b s.c u v
      (inl (inl (inl (refl, refl))))
      (side_of two s.b s.c two_there (step_one s.b s.c s.d))
      (side_of one s.c s.a one_there (step_three s.a s.d s.c))
      (sym (e.steps u v) ∙ side.2))
      (λ rest. ⊎_elim
      (λ e. of_steps GoneOrSided s.b s.a s.d u v
      (inl (inl (inr (refl, refl))))
      (side_of one s.a s.d one_there (step_one s.a s.d s.c))
      (side_of two s.d s.b two_there (step_three s.b s.c s.d))
      (sym (e.steps u v) ∙ side.2))
      (λ stays. inr (inl (side.0, stays, side.2))) rest)
      (down side.0 side.1)

  turned_gone : (u v : ℕ) → GoneOrSided u v → GoneOrSided v u
  turned_gone u v h = ⊎_elim (λ one. inl (one_turned gone u v one)) (λ sided. ⊎_elim (λ a. inr (inr a)) (λ b. inr (inl b)) sided) h

  abbrev CameOrSided : ℕ → ℕ → Type 0
  CameOrSided u v = AreOneOf came u v ⊎ AreSided m u v

  came_c_d : CameOrSided s.c s.d
  came_c_d = inl (inl c_d)

  came_d_c : CameOrSided s.d s.c
  came_d_c = inl (inl (pair_turned x y s.c s.d c_d))

  left_side : (u v : ℕ) → follows (left m s beside) u v ≡ true → AreSided m u v
  left_side u v h = inl (beside.left_corners, left_held m s beside, (left_alike m s beside).steps u v ∙ h)

  right_side : (u v : ℕ) → follows (right m s beside) u v ≡ true → AreSided m u v
  right_side u v h = inl (beside.right_corners, right_held m s beside, (right_alike m s beside).steps u v ∙ h)

  new_step : (u v : ℕ) → HasSide n u v → CameOrSided u v
  new_step u v side = ⊎_elim
      (λ i. of_two (λ k. follows k u v ≡ true → CameOrSided u v)
      (λ h. of_steps CameOrSided s.a s.d s.c u v (inr (right_side s.a s.d (step_two s.b s.a s.d))) came_d_c (inr (left_side s.c s.a (step_three s.a s.b s.c))) h)
      (λ h. of_steps CameOrSided s.b s.c s.d u v (inr (left_side s.b s.c (step_two s.a s.b s.c))) came_c_d (inr (right_side s.d s.b (step_three s.b s.a s.d))) h)
      side.0 i side.2)
      (λ stays. inr (inl (side.0, stayed m s beside side.0 stays, side.2)))
      (up side.0 side.1)

  turned_came : (u v : ℕ) → CameOrSided u v → CameOrSided v u
  turned_came u v h = ⊎_elim (λ one. inl (one_turned came u v one)) (λ sided. ⊎_elim (λ a. inr (inr a)) (λ b. inr (inl b)) sided) h

  -- no face has both ends of the edge
  abbrev NoPair : ℕ → ℕ → Type 0
  NoPair u v = ArePair s.a s.b u v → ⊥

  no_c : (s.a ≢ s.c) × (s.b ≢ s.c)
  no_c = (λ e. beside.c_a (sym e), beside.b_c)

  no_d : (s.a ≢ s.d) × (s.b ≢ s.d)
  no_d = (beside.a_d, λ e. beside.d_b (sym e))

  no_pair : (c : Corners) → In (flip_faces s) c → (u v : ℕ) → follows c u v ≡ true → NoPair u v
  no_pair c i = of_two (λ k. (u v : ℕ) → follows k u v ≡ true → NoPair u v)
      (λ u v h. of_steps NoPair s.a s.d s.c u v (never_second s.a s.b s.a s.d no_d) (never_first s.a s.b s.d s.c no_d) (never_first s.a s.b s.c s.a no_c) h)
      (λ u v h. of_steps NoPair s.b s.c s.d u v (never_second s.a s.b s.b s.c no_c) (never_first s.a s.b s.c s.d no_c) (never_first s.a s.b s.d s.b no_d) h)
      c i

  edge_gone : AreSided n s.a s.b → ⊥
  edge_gone sided = ⊎_elim
      (λ side. ⊎_elim (λ i. no_pair side.0 i s.a s.b side.2 (inl (refl, refl))) (λ stays. (none_stays m s beside uncrowded side.0 stays).0 side.2) (up side.0 side.1))
      (λ side. ⊎_elim (λ i. no_pair side.0 i s.b s.a side.2 (inr (refl, refl))) (λ stays. (none_stays m s beside uncrowded side.0 stays).1 side.2) (up side.0 side.1))
      sided

  -- the other edge was none
  none_was : AreSided m x y → ⊥
  none_was sided = ⊎_elim
      (λ side. false≢true (sym (no_step m s.c s.d no_edge (side.1).0 side.0 (side.1).1).0 ∙ side.2))
      (λ side. false≢true (sym (no_step m s.c s.d no_edge (side.1).0 side.0 (side.1).1).1 ∙ side.2))
      (sided_to_pair m x y s.c s.d c_d sided)

  traded : AreTraded m n gone came
  traded = record {
    of_old = λ u v sided. ⊎_elim (λ side. old_step u v side) (λ side. turned_gone v u (old_step v u side)) sided;
    of_new = λ u v sided. ⊎_elim (λ side. new_step u v side) (λ side. turned_came v u (new_step v u side)) sided;
    all_gone = ((a_b, left_side s.a s.b (step_one s.a s.b s.c), edge_gone), tt);
    all_came = ((less, sided_from_pair n x y s.c s.d c_d (inl (two, two_there, step_two s.b s.c s.d)), none_was), tt);
    gone_differ = (λ i. i, tt);
    came_differ = (λ i. i, tt);
  }

  edge_count : length (edges n) ≡ length (edges m)
  edge_count =
      let all = edges_traded m n gone came sound sound' traded in
      omega (arith, all)

  face_count : finite.len n.faces ≡ finite.len m.faces
  face_count =
      let less = len-bare m s sound beside in
      let more = len-with_faces (bare m s beside) (flip_faces s) (bare_below m s sound beside) in
      omega (arith, less, more)

  pub flip_euler : euler n ≡ euler m
  flip_euler =
      let v = faced_count in
      let e = edge_count in
      let f = face_count in
      balanced (length (faced_ids m)) (length (edges m)) (finite.len m.faces) (length (faced_ids n)) (length (edges n)) (finite.len n.faces) (omega (arith, v, e, f))
