-- A split of an edge with two opposite vertices leaves as many pieces and the same Euler number.
use Rattle.std.proofs.Common.{◌≡◌, ◌≢◌, ◌⊎◌, ℕ, ◌+◌, ◌<◌, ◌==◌, Bool, true, false, cond, List, [], ◌∷◌, length, inl, inr, ⊎_elim, refl, sym, ap, subst, ◌∙◌, arith}
use Rattle.std.proofs.lemmas.Bool.{eqb-true}
use Rattle.std.proofs.lemmas.Bool.Decides.{nat_tests}
use Rattle.std.specs.FinMap as finite
use Rattle.grid_base.specs.declared.Point.{Point}
use Rattle.mesh_base.specs.declared.ids.Corners.{Corners}
use Rattle.mesh_base.specs.Mesh.{Mesh, IsSound}
use Rattle.mesh_base.specs.Sides.{has_corner, follows}
use Rattle.mesh_base.specs.Pairs.{edges, is_crowded}
use Rattle.mesh_base.specs.Changes.{with_vertex}
use Rattle.edit_base.specs.Edges.{Edge, corners_from}
use Rattle.edit_base.specs.Beside.{IsBeside}
use Rattle.edit_split.specs.Split.{split_faces, split_mesh}
use Rattle.edit_split.proofs.SplitCounts.{bare_below, split_count}
use Rattle.edit_acts.proofs.FaceCorners.{step_one, step_two, step_three}
use Rattle.mesh_measure.specs.Shape.{components, euler, faced_ids}
use Rattle.shape_laws.proofs.Lists.{In, same_length}
use Rattle.shape_laws.proofs.Chained.{Holds, IsFaced, Chain, one_face, LeadsInto, same_pieces}
use Rattle.shape_laws.proofs.Listed.{HasSide, AreSided, faced_in, in_faced, faced_differ}
use Rattle.shape_laws.proofs.Traded.{ArePair, AreOneOf, AreTraded, one_turned, never_first, never_second, differ_mapped, edges_traded, balanced}
use Rattle.shape_laws.proofs.Faces.{bare, left, right, left_alike, right_alike, left_held, right_held, left_right_or_stays, stayed, none_stays, made_or_old, old_kept, new_there, AreAlike, corner_one, corner_two, corner_three, of_three, of_steps, step_corners, faced_not_new}

module _ (m : Mesh) (s : Edge) (at : Point) (sound : IsSound m) (beside : IsBeside m s) (a_b : s.a < s.b) (c_d : s.c ≢ s.d) (uncrowded : is_crowded m s.a s.b ≡ false) (sound' : IsSound (split_mesh m s at)) where
  abbrev n : Mesh
  n = split_mesh m s at

  abbrev w : ℕ
  w = m.next_vertex

  abbrev one : Corners
  one = corners_from s.a w s.c

  abbrev two : Corners
  two = corners_from w s.b s.c

  abbrev three : Corners
  three = corners_from s.b w s.d

  abbrev four : Corners
  four = corners_from w s.a s.d

  abbrev base : Mesh
  base = with_vertex (bare m s beside) at

  -- ---- faces
  news : (c : Corners) → In (split_faces s w) c → Holds n c
  news c i = new_there base (split_faces s w) c (bare_below m s sound beside) i

  one_there : Holds n one
  one_there = news one (inl refl)

  two_there : Holds n two
  two_there = news two (inr (inl refl))

  three_there : Holds n three
  three_there = news three (inr (inr (inl refl)))

  four_there : Holds n four
  four_there = news four (inr (inr (inr (inl refl))))

  down : (c : Corners) → Holds m c → AreAlike c (left m s beside) ⊎ (AreAlike c (right m s beside) ⊎ Holds n c)
  down c h = ⊎_elim
      (λ e. inl e)
      (λ rest. ⊎_elim (λ e. inr (inl e)) (λ stays. inr (inr (old_kept base (split_faces s w) c (bare_below m s sound beside) stays))) rest)
      (left_right_or_stays m s beside c h)

  up : (c : Corners) → Holds n c → In (split_faces s w) c ⊎ Holds (bare m s beside) c
  up c h = made_or_old base (split_faces s w) c h

  -- what each of the four faces has
  of_four : (P : Corners → Type 0) → P one → P two → P three → P four → (c : Corners) → In (split_faces s w) c → P c
  of_four P p q r t c i = ⊎_elim (λ e. subst P e p)
      (λ j. ⊎_elim (λ e. subst P e q) (λ k. ⊎_elim (λ e. subst P e r) (λ l. ⊎_elim (λ e. subst P e t) (λ none. absurd none) l) k) j) i

  -- ---- vertices that have a face
  a_faced : IsFaced n s.a
  a_faced = (one, one_there, corner_one s.a w s.c)

  b_faced : IsFaced n s.b
  b_faced = (two, two_there, corner_two w s.b s.c)

  c_faced : IsFaced n s.c
  c_faced = (one, one_there, corner_three s.a w s.c)

  d_faced : IsFaced n s.d
  d_faced = (four, four_there, corner_three w s.a s.d)

  w_faced : IsFaced n w
  w_faced = (one, one_there, corner_two s.a w s.c)

  faced_on : (v : ℕ) → IsFaced m v → IsFaced n v
  faced_on v faced = ⊎_elim
      (λ e. of_three (IsFaced n) s.a s.b s.c v a_faced b_faced c_faced (sym (e.corners v) ∙ faced.2))
      (λ rest. ⊎_elim
      (λ e. of_three (IsFaced n) s.b s.a s.d v b_faced a_faced d_faced (sym (e.corners v) ∙ faced.2))
      (λ stays. (faced.0, stays, faced.2)) rest)
      (down faced.0 faced.1)

  on_left : (v : ℕ) → has_corner (left m s beside) v ≡ true → IsFaced m v
  on_left v h = (beside.left_corners, left_held m s beside, (left_alike m s beside).corners v ∙ h)

  on_right : (v : ℕ) → has_corner (right m s beside) v ≡ true → IsFaced m v
  on_right v h = (beside.right_corners, right_held m s beside, (right_alike m s beside).corners v ∙ h)

  -- w, or it had a face
  abbrev NewOrFaced : ℕ → Type 0
  NewOrFaced v = (w ≡ v) ⊎ IsFaced m v

  new_w : NewOrFaced w
  new_w = inl refl

  old_a : NewOrFaced s.a
  old_a = inr (on_left s.a (corner_one s.a s.b s.c))

  old_b : NewOrFaced s.b
  old_b = inr (on_left s.b (corner_two s.a s.b s.c))

  old_c : NewOrFaced s.c
  old_c = inr (on_left s.c (corner_three s.a s.b s.c))

  old_d : NewOrFaced s.d
  old_d = inr (on_right s.d (corner_three s.b s.a s.d))

  faced_back : (v : ℕ) → IsFaced n v → NewOrFaced v
  faced_back v faced = ⊎_elim
      (λ i. of_four (λ c. has_corner c v ≡ true → NewOrFaced v)
      (λ h. of_three NewOrFaced s.a w s.c v old_a new_w old_c h)
      (λ h. of_three NewOrFaced w s.b s.c v new_w old_b old_c h)
      (λ h. of_three NewOrFaced s.b w s.d v old_b new_w old_d h)
      (λ h. of_three NewOrFaced w s.a s.d v new_w old_a old_d h)
      faced.0 i faced.2)
      (λ stays. inr (faced.0, stayed m s beside faced.0 stays, faced.2))
      (up faced.0 faced.1)

  faced_count : length (faced_ids n) ≡ length (faced_ids m) + 1
  faced_count =
      let all = same_length (faced_ids n) (w ∷ faced_ids m) (faced_differ n)
      (λ i. faced_not_new m sound.is_mesh (in_faced m w i), faced_differ m)
      (λ v i. ⊎_elim (λ e. inl e) (λ old. inr (faced_in m sound v old)) (faced_back v (in_faced n v i)))
      (λ v i. ⊎_elim (λ e. faced_in n sound' v (subst (IsFaced n) e w_faced)) (λ j. faced_in n sound' v (faced_on v (in_faced m v j))) i) in
      omega (arith, all)

  -- ---- pieces
  -- the new vertex is led to an end
  abbrev from : ℕ → ℕ
  from v = cond (v == w) s.a v

  other : (v : ℕ) → v ≢ w → from v ≡ v
  other v apart = by_test (v == w) refl
    where
      by_test : (b : Bool) → (v == w) ≡ b → cond b s.a v ≡ v
      by_test true e = absurd (apart (eqb-true v w e))
      by_test false e = refl

  at_new : from w ≡ s.a
  at_new = ap (λ b. cond b s.a w) (itself w)
    where
      itself : (x : ℕ) → (x == x) ≡ true
      itself x = grind (arith, nat_tests)

  below_apart : (v : ℕ) → v < w → v ≢ w
  below_apart v h e = omega (arith, h, e)

  stays_still : (v : ℕ) → IsFaced m v → from v ≡ v
  stays_still v faced = other v (λ e. faced_not_new m sound.is_mesh (subst (IsFaced m) e faced))

  -- in the mesh before, to a
  hub_of : (v : ℕ) → v < w → Chain m v s.a → Chain m (from v) s.a
  hub_of v below chain = subst (λ x. Chain m x s.a) (sym (other v (below_apart v below))) chain

  left_chain : (v : ℕ) → has_corner (left m s beside) v ≡ true → Chain m v s.a
  left_chain v h = one_face m beside.left_corners v s.a (left_held m s beside) ((left_alike m s beside).corners v ∙ h) ((left_alike m s beside).corners s.a ∙ corner_one s.a s.b s.c)

  right_chain : (v : ℕ) → has_corner (right m s beside) v ≡ true → Chain m v s.a
  right_chain v h = one_face m beside.right_corners v s.a (right_held m s beside) ((right_alike m s beside).corners v ∙ h) ((right_alike m s beside).corners s.a ∙ corner_two s.b s.a s.d)

  abbrev ToHub : ℕ → Type 0
  ToHub v = Chain m (from v) s.a

  w_hub : ToHub w
  w_hub = subst (λ x. Chain m x s.a) (sym at_new) Chain.here

  a_hub : ToHub s.a
  a_hub = hub_of s.a beside.a_below Chain.here

  b_hub : ToHub s.b
  b_hub = hub_of s.b beside.b_below (left_chain s.b (corner_two s.a s.b s.c))

  c_hub : ToHub s.c
  c_hub = hub_of s.c beside.c_below (left_chain s.c (corner_three s.a s.b s.c))

  d_hub : ToHub s.d
  d_hub = hub_of s.d beside.d_below (right_chain s.d (corner_three s.b s.a s.d))

  backwards : LeadsInto n m s.a from
  backwards = record {
    each = λ c h. ⊎_elim
        (λ i. inl (of_four (λ k. (v : ℕ) → has_corner k v ≡ true → ToHub v)
        (λ v h. of_three ToHub s.a w s.c v a_hub w_hub c_hub h)
        (λ v h. of_three ToHub w s.b s.c v w_hub b_hub c_hub h)
        (λ v h. of_three ToHub s.b w s.d v b_hub w_hub d_hub h)
        (λ v h. of_three ToHub w s.a s.d v w_hub a_hub d_hub h)
        c i))
        (λ stays. inr (stayed m s beside c stays))
        (up c h);
    still = stays_still;
  }

  -- in the mesh after it, to the new vertex
  a_new : Chain n s.a w
  a_new = one_face n one s.a w one_there (corner_one s.a w s.c) (corner_two s.a w s.c)

  b_new : Chain n s.b w
  b_new = one_face n two s.b w two_there (corner_two w s.b s.c) (corner_one w s.b s.c)

  c_new : Chain n s.c w
  c_new = one_face n one s.c w one_there (corner_three s.a w s.c) (corner_two s.a w s.c)

  d_new : Chain n s.d w
  d_new = one_face n four s.d w four_there (corner_three w s.a s.d) (corner_one w s.a s.d)

  onwards : LeadsInto m n w (λ v. v)
  onwards = record {
    each = λ c h. ⊎_elim
        (λ e. inl (λ v h. of_three (λ x. Chain n x w) s.a s.b s.c v a_new b_new c_new (sym (e.corners v) ∙ h)))
        (λ rest. ⊎_elim
        (λ e. inl (λ v h. of_three (λ x. Chain n x w) s.b s.a s.d v b_new a_new d_new (sym (e.corners v) ∙ h)))
        (λ stays. inr stays) rest)
        (down c h);
    still = λ v faced. refl;
  }

  -- each face of either has a vertex with a face in the other
  met_after : (c : Corners) → Holds m c → (v : ℕ) × (has_corner c v ≡ true) × IsFaced n v
  met_after c h = let at_first = corner_one c.first c.second c.third in (c.first, at_first, faced_on c.first (c, h, at_first))

  met_before : (c : Corners) → Holds n c → (v : ℕ) × (has_corner c v ≡ true) × IsFaced m v
  met_before c h = ⊎_elim
      (λ i. of_four (λ k. (v : ℕ) × (has_corner k v ≡ true) × IsFaced m v)
      (s.a, corner_one s.a w s.c, on_left s.a (corner_one s.a s.b s.c))
      (s.b, corner_two w s.b s.c, on_left s.b (corner_two s.a s.b s.c))
      (s.b, corner_one s.b w s.d, on_left s.b (corner_two s.a s.b s.c))
      (s.a, corner_two w s.a s.d, on_left s.a (corner_one s.a s.b s.c))
      c i)
      (λ stays. let at_first = corner_one c.first c.second c.third in (c.first, at_first, (c, stayed m s beside c stays, at_first)))
      (up c h)

  pub split_pieces : components n ≡ components m
  split_pieces = same_pieces m n w s.a (λ v. v) from onwards backwards met_after met_before

  -- ---- edges
  abbrev gone : List (ℕ × ℕ)
  gone = (s.a, s.b) ∷ []

  abbrev came : List (ℕ × ℕ)
  came = (s.a, w) ∷ (s.b, w) ∷ (s.c, w) ∷ (s.d, w) ∷ []

  abbrev GoneOrSided : ℕ → ℕ → Type 0
  GoneOrSided u v = AreOneOf gone u v ⊎ AreSided n u v

  side_of : (c : Corners) (u v : ℕ) → Holds n c → follows c u v ≡ true → GoneOrSided u v
  side_of c u v h step = inr (inl (c, h, step))

  old_step : (u v : ℕ) → HasSide m u v → GoneOrSided u v
  old_step u v side = ⊎_elim
      (λ e. of_steps GoneOrSided s.a s.b s.c u v
      (inl (inl (inl (refl, refl))))
      (side_of two s.b s.c two_there (step_two w s.b s.c))
      (side_of one s.c s.a one_there (step_three s.a w s.c))
      (sym (e.steps u v) ∙ side.2))
      (λ rest. ⊎_elim
      (λ e. of_steps GoneOrSided s.b s.a s.d u v
      (inl (inl (inr (refl, refl))))
      (side_of four s.a s.d four_there (step_two w s.a s.d))
      (side_of three s.d s.b three_there (step_three s.b w s.d))
      (sym (e.steps u v) ∙ side.2))
      (λ stays. inr (inl (side.0, stays, side.2))) rest)
      (down side.0 side.1)

  turned_gone : (u v : ℕ) → GoneOrSided u v → GoneOrSided v u
  turned_gone u v h = ⊎_elim
      (λ one. ⊎_elim (λ pair. ⊎_elim (λ e. inl (inl (inr (e.1, e.0)))) (λ e. inl (inl (inl (e.1, e.0)))) pair) (λ none. absurd none) one)
      (λ sided. ⊎_elim (λ a. inr (inr a)) (λ b. inr (inl b)) sided) h

  abbrev CameOrSided : ℕ → ℕ → Type 0
  CameOrSided u v = AreOneOf came u v ⊎ AreSided m u v

  came_a : (u v : ℕ) → ArePair s.a w u v → CameOrSided u v
  came_a u v is = inl (inl is)

  came_b : (u v : ℕ) → ArePair s.b w u v → CameOrSided u v
  came_b u v is = inl (inr (inl is))

  came_c : (u v : ℕ) → ArePair s.c w u v → CameOrSided u v
  came_c u v is = inl (inr (inr (inl is)))

  came_d : (u v : ℕ) → ArePair s.d w u v → CameOrSided u v
  came_d u v is = inl (inr (inr (inr (inl is))))

  left_side : (u v : ℕ) → follows (left m s beside) u v ≡ true → AreSided m u v
  left_side u v h = inl (beside.left_corners, left_held m s beside, (left_alike m s beside).steps u v ∙ h)

  right_side : (u v : ℕ) → follows (right m s beside) u v ≡ true → AreSided m u v
  right_side u v h = inl (beside.right_corners, right_held m s beside, (right_alike m s beside).steps u v ∙ h)

  new_step : (u v : ℕ) → HasSide n u v → CameOrSided u v
  new_step u v side = ⊎_elim
      (λ i. of_four (λ k. follows k u v ≡ true → CameOrSided u v)
      (λ h. of_steps CameOrSided s.a w s.c u v (came_a s.a w (inl (refl, refl))) (came_c w s.c (inr (refl, refl))) (inr (left_side s.c s.a (step_three s.a s.b s.c))) h)
      (λ h. of_steps CameOrSided w s.b s.c u v (came_b w s.b (inr (refl, refl))) (inr (left_side s.b s.c (step_two s.a s.b s.c))) (came_c s.c w (inl (refl, refl))) h)
      (λ h. of_steps CameOrSided s.b w s.d u v (came_b s.b w (inl (refl, refl))) (came_d w s.d (inr (refl, refl))) (inr (right_side s.d s.b (step_three s.b s.a s.d))) h)
      (λ h. of_steps CameOrSided w s.a s.d u v (came_a w s.a (inr (refl, refl))) (inr (right_side s.a s.d (step_two s.b s.a s.d))) (came_d s.d w (inl (refl, refl))) h)
      side.0 i side.2)
      (λ stays. inr (inl (side.0, stayed m s beside side.0 stays, side.2)))
      (up side.0 side.1)

  turned_came : (u v : ℕ) → CameOrSided u v → CameOrSided v u
  turned_came u v h = ⊎_elim (λ one. inl (one_turned came u v one)) (λ sided. ⊎_elim (λ a. inr (inr a)) (λ b. inr (inl b)) sided) h

  -- no face has both ends of the edge
  abbrev NoPair : ℕ → ℕ → Type 0
  NoPair u v = ArePair s.a s.b u v → ⊥

  no_w : (s.a ≢ w) × (s.b ≢ w)
  no_w = (below_apart s.a beside.a_below, below_apart s.b beside.b_below)

  no_c : (s.a ≢ s.c) × (s.b ≢ s.c)
  no_c = (λ e. beside.c_a (sym e), beside.b_c)

  no_d : (s.a ≢ s.d) × (s.b ≢ s.d)
  no_d = (beside.a_d, λ e. beside.d_b (sym e))

  no_pair : (c : Corners) → In (split_faces s w) c → (u v : ℕ) → follows c u v ≡ true → NoPair u v
  no_pair c i = of_four (λ k. (u v : ℕ) → follows k u v ≡ true → NoPair u v)
      (λ u v h. of_steps NoPair s.a w s.c u v (never_second s.a s.b s.a w no_w) (never_first s.a s.b w s.c no_w) (never_first s.a s.b s.c s.a no_c) h)
      (λ u v h. of_steps NoPair w s.b s.c u v (never_first s.a s.b w s.b no_w) (never_second s.a s.b s.b s.c no_c) (never_first s.a s.b s.c w no_c) h)
      (λ u v h. of_steps NoPair s.b w s.d u v (never_second s.a s.b s.b w no_w) (never_first s.a s.b w s.d no_w) (never_first s.a s.b s.d s.b no_d) h)
      (λ u v h. of_steps NoPair w s.a s.d u v (never_first s.a s.b w s.a no_w) (never_second s.a s.b s.a s.d no_d) (never_first s.a s.b s.d w no_d) h)
      c i

  edge_gone : AreSided n s.a s.b → ⊥
  edge_gone sided = ⊎_elim
      (λ side. ⊎_elim (λ i. no_pair side.0 i s.a s.b side.2 (inl (refl, refl))) (λ stays. (none_stays m s beside uncrowded side.0 stays).0 side.2) (up side.0 side.1))
      (λ side. ⊎_elim (λ i. no_pair side.0 i s.b s.a side.2 (inr (refl, refl))) (λ stays. (none_stays m s beside uncrowded side.0 stays).1 side.2) (up side.0 side.1))
      sided

  none_at_new : (x : ℕ) → AreSided m x w → ⊥
  none_at_new x sided = ⊎_elim
      (λ side. faced_not_new m sound.is_mesh (side.0, side.1, (step_corners side.0 x w side.2).1))
      (λ side. faced_not_new m sound.is_mesh (side.0, side.1, (step_corners side.0 w x side.2).0))
      sided

  traded : AreTraded m n gone came
  traded = record {
    of_old = λ u v sided. ⊎_elim (λ side. old_step u v side) (λ side. turned_gone v u (old_step v u side)) sided;
    of_new = λ u v sided. ⊎_elim (λ side. new_step u v side) (λ side. turned_came v u (new_step v u side)) sided;
    all_gone = ((a_b, left_side s.a s.b (step_one s.a s.b s.c), edge_gone), tt);
    all_came = (
      (beside.a_below, inl (one, one_there, step_one s.a w s.c), none_at_new s.a),
      (
        (beside.b_below, inr (two, two_there, step_one w s.b s.c), none_at_new s.b),
        (
          (beside.c_below, inr (one, one_there, step_two s.a w s.c), none_at_new s.c),
          ((beside.d_below, inr (three, three_there, step_two s.b w s.d), none_at_new s.d), tt),
        ),
      ),
    );
    gone_differ = (λ i. i, tt);
    came_differ = differ_mapped (λ x. (x, w)) (s.a ∷ s.b ∷ s.c ∷ s.d ∷ []) (λ x y e. ap (λ p. p.0) e) (
      λ i. ⊎_elim (λ e. beside.a_b (sym e)) (λ j. ⊎_elim (λ e. beside.c_a e) (λ k. ⊎_elim (λ e. beside.a_d (sym e)) (λ none. none) k) j) i,
      (
        λ i. ⊎_elim (λ e. beside.b_c (sym e)) (λ j. ⊎_elim (λ e. beside.d_b e) (λ none. none) j) i,
        (λ i. ⊎_elim (λ e. c_d (sym e)) (λ none. none) i, (λ i. i, tt)),
      ),
    );
  }

  edge_count : length (edges n) ≡ length (edges m) + 3
  edge_count =
      let all = edges_traded m n gone came sound sound' traded in
      omega (arith, all)

  pub split_euler : euler n ≡ euler m
  split_euler =
      let v = faced_count in
      let e = edge_count in
      let f = split_count m s sound beside at in
      balanced (length (faced_ids m)) (length (edges m)) (finite.len m.faces) (length (faced_ids n)) (length (edges n)) (finite.len n.faces) (omega (arith, v, e, f))
