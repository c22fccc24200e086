-- A collapse of an edge with a plain link leaves as many pieces and the same Euler number.
use Rattle.std.proofs.Common.{◌≡◌, ◌≢◌, ◌⊎◌, ℕ, ◌+◌, ◌<◌, ◌≤◌, ◌==◌, ◌||◌, ◌&&◌, Bool, true, false, not, nat_lt, min, max, List, [], ◌∷◌, map, length, inl, inr, ⊎_elim, refl, sym, ap, subst, ◌∙◌, arith}
use Rattle.std.proofs.lemmas.Bool.{false≢true, eqb-true, ltb-true, lt-ltb}
use Rattle.std.proofs.lemmas.Bool.Decides.{nat_tests}
use Rattle.std.proofs.lemmas.List.{length-map}
use Rattle.std.proofs.lemmas.List.Kept.{IsStrictlySortedBy-filter}
use Rattle.std.specs.List.{filter, AllByRecursion}
use Rattle.std.specs.Ordering.{nat_cmp}
use Rattle.std.specs.FinMap as finite
use Rattle.std.specs.FinMap.{entries_sorted}
use Rattle.grid_base.specs.declared.Point.{Point}
use Rattle.mesh_base.specs.declared.ids.Corners.{Corners}
use Rattle.mesh_base.specs.Mesh.{Mesh, IsSound}
use Rattle.mesh_base.specs.Sides.{has_corner, follows, runs, IsClosed}
use Rattle.mesh_base.specs.Pairs.{edges, is_edge}
use Rattle.mesh_base.proofs.Listed.{and_first, and_second, or_either, edge_live, at_live, running_face}
use Rattle.mesh_base.proofs.ListedPairs.{all_mapped, all_weaker}
use Rattle.mesh_base.proofs.InOrder.{keys_sorted}
use Rattle.mesh_base.proofs.Tests.{and_both}
use Rattle.edit_base.specs.Edges.{Edge, renamed}
use Rattle.edit_base.specs.Beside.{IsBeside}
use Rattle.edit_base.proofs.Chains.{Has, each_is_one, passed, passes}
use Rattle.edit_acts.proofs.FaceCorners.{runs_there, either_way, step_one, step_two, step_three}
use Rattle.edit_collapse.specs.Collapse.{collapse_mesh, joined_faces}
use Rattle.edit_collapse.proofs.Acts.{renamed_has}
use Rattle.edit_collapse.proofs.Carried.{moved, moved_either, moved_stays, moved_goes, tested}
use Rattle.edit_collapse.proofs.Joined.{holds_both, not_two, renamed_without, renamed_lacks}
use Rattle.edit_collapse.proofs.CollapseMesh.{same_faces, there_before}
use Rattle.mesh_measure.specs.Shape.{components, euler, faced_ids}
use Rattle.shape_laws.proofs.Lists.{In, AllDiffer, same_length}
use Rattle.shape_laws.proofs.Numbers.{has_in, in_has, each_in, differ_sorted, number_tied}
use Rattle.shape_laws.proofs.Chained.{Holds, IsFaced, Chain, one_face, joined, LeadsInto, same_pieces}
use Rattle.shape_laws.proofs.Listed.{HasSide, AreSided, faced_in, in_faced, faced_differ}
use Rattle.shape_laws.proofs.Traded.{ArePair, AreOneOf, AreOnlyOf, AreTraded, one_turned, sided_to_pair, sided_from_pair, differ_mapped, edges_traded, balanced}
use Rattle.shape_laws.proofs.Faces.{left, right, left_alike, left_held, AreAlike, corner_one, corner_two, of_three, of_steps, step_corners}
use Rattle.shape_laws.proofs.CollapseFaces.{renamed_step, renamed_corner, was_step, was_corner, Was, was_in_three}
use Rattle.shape_laws.proofs.CollapseLink.{IsPlain, SingleSide, both_is, left_side, right_side, a_c_single, d_a_single, no_self, now_has}

-- ---- two numbers in order
abbrev in_order : ℕ → ℕ → ℕ × ℕ
in_order p x = (min p x, max p x)

pub order_either : (p x : ℕ) → ((min p x ≡ p) × (max p x ≡ x)) ⊎ ((min p x ≡ x) × (max p x ≡ p))
order_either p x = by_test (nat_lt p x) refl
  where
    below : (p x : ℕ) → p < x → (min p x ≡ p) × (max p x ≡ x)
    below p x h = (omega (arith, h), omega (arith, h))

    above : (p x : ℕ) → x ≤ p → (min p x ≡ x) × (max p x ≡ p)
    above p x h = (omega (arith, h), omega (arith, h))

    at_least : (p x : ℕ) → nat_lt p x ≡ false → x ≤ p
    at_least p x h = grind (arith, nat_tests)

    by_test : (t : Bool) → nat_lt p x ≡ t → ((min p x ≡ p) × (max p x ≡ x)) ⊎ ((min p x ≡ x) × (max p x ≡ p))
    by_test true e = inl (below p x (ltb-true p x e))
    by_test false e = inr (above p x (at_least p x e))

ordered : (p x : ℕ) → p ≢ x → min p x < max p x
ordered p x apart = ⊎_elim
    (λ e. let lo = e.0 in let hi = e.1 in less p x (min p x) (max p x) lo hi apart (let h : min p x ≤ max p x = omega arith in h))
    (λ e. let lo = e.0 in let hi = e.1 in less x p (min p x) (max p x) lo hi (λ k. apart (sym k)) (let h : min p x ≤ max p x = omega arith in h))
    (order_either p x)
  where
    less : (p x lo hi : ℕ) → lo ≡ p → hi ≡ x → p ≢ x → lo ≤ hi → lo < hi
    less p x lo hi e f apart h = omega (arith, e, f, apart, h)

in_order_pair : (p x : ℕ) → ArePair p x (min p x) (max p x)
in_order_pair p x = ⊎_elim (λ e. inl (sym e.0, sym e.1)) (λ e. inr (sym e.0, sym e.1)) (order_either p x)

pair_in_order : (p x u v : ℕ) → ArePair p x u v → ArePair (min p x) (max p x) u v
pair_in_order p x u v is = ⊎_elim
    (λ e. ⊎_elim (λ k. inl (e.0 ∙ k.0, e.1 ∙ k.1)) (λ k. inr (e.1 ∙ k.0, e.0 ∙ k.1)) is)
    (λ e. ⊎_elim (λ k. inr (e.1 ∙ k.0, e.0 ∙ k.1)) (λ k. inl (e.0 ∙ k.0, e.1 ∙ k.1)) is)
    (order_either p x)

same_other : (p x y : ℕ) → ◌≡◌ {A = ℕ × ℕ} (in_order p x) (in_order p y) → x ≡ y
same_other p x y e = equal p x y (ap (λ (t : ℕ × ℕ). t.0) e) (ap (λ (t : ℕ × ℕ). t.1) e)
  where
    equal : (p x y : ℕ) → min p x ≡ min p y → max p x ≡ max p y → x ≡ y
    equal p x y e f = omega (arith, e, f)

one_of_mapped : (p : ℕ) (xs : List ℕ) (x u v : ℕ) → In xs x → ArePair p x u v → AreOneOf (map (in_order p) xs) u v
one_of_mapped p [] x u v i is = absurd i
one_of_mapped p (y ∷ ys) x u v i is = ⊎_elim
    (λ e. inl (pair_in_order p y u v (subst (λ z. ArePair p z u v) (sym e) is)))
    (λ j. inr (one_of_mapped p ys x u v j is))
    i

all_of : {X : Type 0} (Q : X → Type 0) (xs : List X) → ((x : X) → In xs x → Q x) → AllByRecursion Q xs
all_of Q xs h = all_weaker (In xs) Q xs h (each_in xs)

module _ (m : Mesh) (s : Edge) (at : Point) (sound : IsSound m) (closed : IsClosed m) (beside : IsBeside m s) (plain : IsPlain m s) (sound' : IsSound (collapse_mesh m s.a s.b at)) where
  abbrev n : Mesh
  n = collapse_mesh m s.a s.b at

  abbrev to : ℕ → ℕ
  to v = moved s.b s.a v

  -- ---- faces
  faces_are : n.faces ≡ (joined_faces m s.a s.b).faces
  faces_are = same_faces m s.a s.b at sound closed beside.a_b

  was : (c : Corners) → Holds n c → Was m s.a s.b c
  was c h = was_in_three m s.a s.b sound closed beside.a_b c (h.0, there_before m s.a s.b at sound closed beside.a_b h.0 c h.1)

  now : (c : Corners) → Holds m c → holds_both s.a s.b c ≡ false → Holds n (renamed s.b s.a c)
  now c h single =
      let there = now_has m s sound closed beside plain c h single in
      (there.0, ap (λ fs. finite.get fs there.0) faces_are ∙ there.1)

  stays : (v : ℕ) → v ≢ s.b → to v ≡ v
  stays v apart = moved_stays s.b s.a v apart

  goes : to s.b ≡ s.a
  goes = moved_goes s.b s.a s.b refl

  -- a side of a face with one end at most is carried along
  carried : (u v : ℕ) → SingleSide m s sound closed beside plain u v → HasSide n (to u) (to v)
  carried u v side = (renamed s.b s.a side.0, now side.0 side.1 side.2, renamed_step s.a s.b side.0 u v side.3)

  carried_same : (u v : ℕ) → u ≢ s.b → v ≢ s.b → SingleSide m s sound closed beside plain u v → HasSide n u v
  carried_same u v u_b v_b side = subst (λ z. HasSide n z v) (stays u u_b) (subst (λ z. HasSide n (to u) z) (stays v v_b) (carried u v side))

  a_c_side : HasSide n s.a s.c
  a_c_side = carried_same s.a s.c beside.a_b (λ e. beside.b_c (sym e)) (a_c_single m s sound closed beside plain)

  d_a_side : HasSide n s.d s.a
  d_a_side = carried_same s.d s.a beside.d_b beside.a_b (d_a_single m s sound closed beside plain)

  -- no face holds b any more
  none_at_b : IsFaced n s.b → ⊥
  none_at_b faced =
      let old = was faced.0 faced.1 in
      false≢true (sym (renamed_lacks s.a s.b old.from beside.a_b) ∙ subst (λ k. has_corner k s.b ≡ true) old.is faced.2)

  -- ---- vertices that have a face
  side_first : (k : Mesh) (u v : ℕ) → HasSide k u v → IsFaced k u
  side_first k u v side = (side.0, side.1, (step_corners side.0 u v side.2).0)

  side_second : (k : Mesh) (u v : ℕ) → HasSide k u v → IsFaced k v
  side_second k u v side = (side.0, side.1, (step_corners side.0 u v side.2).1)

  a_faced : IsFaced n s.a
  a_faced = side_first n s.a s.c a_c_side

  c_faced : IsFaced n s.c
  c_faced = side_second n s.a s.c a_c_side

  d_faced : IsFaced n s.d
  d_faced = side_first n s.d s.a d_a_side

  b_was : IsFaced m s.b
  b_was = (beside.left_corners, left_held m s beside, (left_alike m s beside).corners s.b ∙ corner_two s.a s.b s.c)

  a_was : IsFaced m s.a
  a_was = (beside.left_corners, left_held m s beside, (left_alike m s beside).corners s.a ∙ corner_one s.a s.b s.c)

  abbrev NotBOrFaced : ℕ → Type 0
  NotBOrFaced v = v ≢ s.b → IsFaced n v

  faced_on : (v : ℕ) → IsFaced m v → v ≢ s.b → IsFaced n v
  faced_on v faced = by_test (holds_both s.a s.b faced.0) refl
    where
      not_b : NotBOrFaced s.b
      not_b apart = absurd (apart refl)

      by_test : (t : Bool) → holds_both s.a s.b faced.0 ≡ t → v ≢ s.b → IsFaced n v
      by_test false e apart = (renamed s.b s.a faced.0, now faced.0 faced.1 e, subst (λ z. has_corner (renamed s.b s.a faced.0) z ≡ true) (stays v apart) (renamed_corner s.a s.b faced.0 v faced.2))
      by_test true e apart = ⊎_elim
          (λ k. of_three NotBOrFaced s.a s.b s.c v (λ h. a_faced) not_b (λ h. c_faced) (sym (k.corners v) ∙ faced.2))
          (λ k. of_three NotBOrFaced s.b s.a s.d v not_b (λ h. a_faced) (λ h. d_faced) (sym (k.corners v) ∙ faced.2))
          (both_is m s sound closed beside plain faced.0 faced.1 e)
          apart

  faced_back : (v : ℕ) → IsFaced n v → IsFaced m v
  faced_back v faced =
      let old = was faced.0 faced.1 in
      let corner = was_corner s.a s.b old.from v (subst (λ k. has_corner k v ≡ true) old.is faced.2) in
      ⊎_elim
      (λ e. subst (IsFaced m) (sym e.1 ∙ corner.2) a_was)
      (λ e. (old.from, old.there, subst (λ z. has_corner old.from z ≡ true) (sym e.1 ∙ corner.2) corner.1))
      (moved_either s.b s.a corner.0)

  not_b : (v : ℕ) → IsFaced n v → v ≢ s.b
  not_b v faced e = none_at_b (subst (IsFaced n) e faced)

  faced_count : length (faced_ids m) ≡ length (faced_ids n) + 1
  faced_count =
      let all = same_length (faced_ids m) (s.b ∷ faced_ids n) (faced_differ m)
      (λ i. none_at_b (in_faced n s.b i), faced_differ n)
      (λ v i. b_or_faced v (in_faced m v i))
      (λ v i. ⊎_elim (λ e. faced_in m sound v (subst (IsFaced m) e b_was)) (λ j. faced_in m sound v (faced_back v (in_faced n v j))) i) in
      omega (arith, all)
    where
      b_or_faced : (v : ℕ) → IsFaced m v → In (s.b ∷ faced_ids n) v
      b_or_faced v faced = ⊎_elim (λ e. inl (sym e.1)) (λ e. inr (faced_in n sound' v (faced_on v faced e.1))) (tested v s.b)

  -- ---- pieces
  side_chain : (k : Mesh) (u v : ℕ) → HasSide k u v → Chain k u v
  side_chain k u v side = let ends = step_corners side.0 u v side.2 in one_face k side.0 u v side.1 ends.0 ends.1

  back_chain : (k : Mesh) (u v : ℕ) → HasSide k u v → Chain k v u
  back_chain k u v side = let ends = step_corners side.0 u v side.2 in one_face k side.0 v u side.1 ends.1 ends.0

  abbrev ToHub : ℕ → Type 0
  ToHub v = Chain n (to v) s.a

  a_hub : ToHub s.a
  a_hub = subst (λ z. Chain n z s.a) (sym (stays s.a beside.a_b)) Chain.here

  b_hub : ToHub s.b
  b_hub = subst (λ z. Chain n z s.a) (sym goes) Chain.here

  c_hub : ToHub s.c
  c_hub = subst (λ z. Chain n z s.a) (sym (stays s.c (λ e. beside.b_c (sym e)))) (back_chain n s.a s.c a_c_side)

  d_hub : ToHub s.d
  d_hub = subst (λ z. Chain n z s.a) (sym (stays s.d beside.d_b)) (side_chain n s.d s.a d_a_side)

  onwards : LeadsInto m n s.a to
  onwards = record {
    each = λ c h. by_test c h (holds_both s.a s.b c) refl (has_corner c s.b) refl;
    still = λ v faced. stays v (not_b v faced);
  }
    where
      by_test : (c : Corners) → Holds m c → (t : Bool) → holds_both s.a s.b c ≡ t → (u : Bool) → has_corner c s.b ≡ u → ((v : ℕ) → has_corner c v ≡ true → ToHub v) ⊎ Holds n c
      by_test c h true e u f = inl (λ v k. ⊎_elim
          (λ alike. of_three ToHub s.a s.b s.c v a_hub b_hub c_hub (sym (alike.corners v) ∙ k))
          (λ alike. of_three ToHub s.b s.a s.d v b_hub a_hub d_hub (sym (alike.corners v) ∙ k))
          (both_is m s sound closed beside plain c h e))
      by_test c h false e true f = inl (λ v k. one_face n (renamed s.b s.a c) (to v) s.a (now c h e) (renamed_corner s.a s.b c v k) (renamed_has s.a s.b c f))
      by_test c h false e false f = inr (subst (Holds n) (renamed_without s.a s.b c f) (now c h e))

  b_to_a : Chain m s.b s.a
  b_to_a = back_chain m s.a s.b (left_side m s sound closed beside plain s.a s.b (step_one s.a s.b s.c))

  backwards : LeadsInto n m s.a (λ v. v)
  backwards = record {
    each = λ c h. by_test c h (was c h) (has_corner (was c h).from s.b) refl;
    still = λ v faced. refl;
  }
    where
      by_test : (c : Corners) → Holds n c → (old : Was m s.a s.b c) → (u : Bool) → has_corner old.from s.b ≡ u → ((v : ℕ) → has_corner c v ≡ true → Chain m v s.a) ⊎ Holds m c
      by_test c h old true f = inl (λ v k.
          let corner = was_corner s.a s.b old.from v (subst (λ d. has_corner d v ≡ true) old.is k) in
          ⊎_elim
          (λ e. subst (λ z. Chain m z s.a) (sym e.1 ∙ corner.2) Chain.here)
          (λ e. subst (λ z. Chain m z s.a) (sym e.1 ∙ corner.2) (joined m corner.0 s.b s.a (one_face m old.from corner.0 s.b old.there corner.1 f) b_to_a))
          (moved_either s.b s.a corner.0))
      by_test c h old false f = inr (subst (Holds m) (sym (renamed_without s.a s.b old.from f) ∙ sym old.is) old.there)

  met_after : (c : Corners) → Holds m c → (v : ℕ) × (has_corner c v ≡ true) × IsFaced n v
  met_after c h = ⊎_elim
      (λ e. (c.second, at_second, faced_on c.second (c, h, at_second) (λ k. (sound.is_mesh.different_corners h.0 c h.1).first_second (e.1 ∙ sym k))))
      (λ e. (c.first, at_first, faced_on c.first (c, h, at_first) e.1))
      (tested c.first s.b)
    where
      at_first : has_corner c c.first ≡ true
      at_first = corner_one c.first c.second c.third

      at_second : has_corner c c.second ≡ true
      at_second = corner_two c.first c.second c.third

  pub collapse_pieces : components n ≡ components m
  collapse_pieces = same_pieces m n s.a s.a to (λ v. v) onwards backwards met_after
      (λ c h. let at_first = corner_one c.first c.second c.third in (c.first, at_first, faced_back c.first (c, h, at_first)))

  -- ---- edges
  -- the neighbours of b but for a, c and d
  abbrev is_known : ℕ → Bool
  is_known x = (x == s.a) || (x == s.c) || (x == s.d)

  abbrev is_rest : ℕ → Bool
  is_rest x = is_edge m s.b x && not (is_known x)

  abbrev rest : List ℕ
  rest = filter is_rest (finite.keys m.points)

  sided_of : (u v : ℕ) → is_edge m u v ≡ true → AreSided m u v
  sided_of u v e = ⊎_elim (λ some. inl (side_of u v some)) (λ some. inr (side_of v u some)) (either_way (runs m u v) (runs m v u) (ltb-true 0 (runs m u v + runs m v u) e))
    where
      side_of : (u v : ℕ) → 0 < runs m u v → HasSide m u v
      side_of u v some = let face = running_face m u v some in ((face.0).1, ((face.0).0, face.2), face.1)

  edge_of : (u v : ℕ) → AreSided m u v → is_edge m u v ≡ true
  edge_of u v sided = lt-ltb 0 (runs m u v + runs m v u) (⊎_elim
      (λ side. let some = runs_there m (side.1).0 side.0 u v (side.1).1 side.2 in omega (arith, some))
      (λ side. let some = runs_there m (side.1).0 side.0 v u (side.1).1 side.2 in omega (arith, some))
      sided)

  known_is : (x : ℕ) → is_known x ≡ true → (x ≡ s.a) ⊎ ((x ≡ s.c) ⊎ (x ≡ s.d))
  known_is x h = ⊎_elim
      (λ two. ⊎_elim (λ e. inl (eqb-true x s.a e)) (λ e. inr (inl (eqb-true x s.c e))) (or_either (x == s.a) (x == s.c) two))
      (λ e. inr (inr (eqb-true x s.d e)))
      (or_either ((x == s.a) || (x == s.c)) (x == s.d) h)

  unknown : (x y : ℕ) → (x == y) ≡ true → x ≡ y
  unknown x y e = eqb-true x y e

  in_rest : (x : ℕ) → In rest x → AreSided m s.b x × (x ≢ s.a) × (x ≢ s.c) × (x ≢ s.d)
  in_rest x i =
      let test = (passed is_rest (finite.keys m.points) x (has_in rest x i)).1 in
      let apart = others x (and_second (is_edge m s.b x) (not (is_known x)) test) in
      (sided_of s.b x (and_first (is_edge m s.b x) (not (is_known x)) test), apart.0, apart.1, apart.2)
    where
      others : (x : ℕ) → not (is_known x) ≡ true → (x ≢ s.a) × (x ≢ s.c) × (x ≢ s.d)
      others x h = (λ e. grind (arith, nat_tests), λ e. grind (arith, nat_tests), λ e. grind (arith, nat_tests))

  -- a neighbour of b is a, c, d or one of the rest
  neighbour : (x : ℕ) → AreSided m s.b x → In (s.a ∷ s.c ∷ s.d ∷ rest) x
  neighbour x sided = by_test (is_known x) refl
    where
      edge : is_edge m s.b x ≡ true
      edge = edge_of s.b x sided

      live : Has (finite.keys m.points) x
      live = at_live (Has (finite.keys m.points)) m.points x (each_is_one (finite.keys m.points)) (edge_live m s.b x sound (ltb-true 0 (runs m s.b x + runs m x s.b) edge)).1

      by_test : (t : Bool) → is_known x ≡ t → In (s.a ∷ s.c ∷ s.d ∷ rest) x
      by_test true e = ⊎_elim (λ k. inl (sym k)) (λ more. ⊎_elim (λ k. inr (inl (sym k))) (λ k. inr (inr (inl (sym k)))) more) (known_is x e)
      by_test false e = inr (inr (inr (in_has rest x (passes is_rest (finite.keys m.points) x live (and_both (is_edge m s.b x) (not (is_known x)) edge (ap not e))))))

  abbrev gone : List (ℕ × ℕ)
  gone = map (in_order s.b) (s.a ∷ s.c ∷ s.d ∷ rest)

  abbrev came : List (ℕ × ℕ)
  came = map (in_order s.a) rest

  rest_differ : AllDiffer rest
  rest_differ = differ_sorted nat_cmp number_tied rest (IsStrictlySortedBy-filter nat_cmp is_rest (finite.keys m.points) (keys_sorted (finite.entries m.points) (entries_sorted m.points)))

  turned : (k : Mesh) (u v : ℕ) → AreSided k u v → AreSided k v u
  turned k u v sided = ⊎_elim (λ x. inr x) (λ x. inl x) sided

  sided_apart : (u v : ℕ) → AreSided m u v → u ≢ v
  sided_apart u v sided e = ⊎_elim
      (λ side. no_self m s sound closed beside plain side.0 u v side.1 side.2 e)
      (λ side. no_self m s sound closed beside plain side.0 v u side.1 side.2 (sym e))
      sided

  -- what a collapse takes away, and what it puts there
  abbrev Gone : ℕ × ℕ → Type 0
  Gone p = (p.0 < p.1) × AreSided m p.0 p.1 × (AreSided n p.0 p.1 → ⊥)

  abbrev Came : ℕ × ℕ → Type 0
  Came p = (p.0 < p.1) × AreSided n p.0 p.1 × (AreSided m p.0 p.1 → ⊥)

  not_at_b : (x : ℕ) → AreSided n s.b x → ⊥
  not_at_b x sided = ⊎_elim (λ side. none_at_b (side_first n s.b x side)) (λ side. none_at_b (side_second n x s.b side)) sided

  goes_at : (x : ℕ) → AreSided m s.b x → Gone (in_order s.b x)
  goes_at x sided = (
    ordered s.b x (sided_apart s.b x sided),
    sided_to_pair m s.b x (min s.b x) (max s.b x) (in_order_pair s.b x) sided,
    λ h. not_at_b x (sided_from_pair n s.b x (min s.b x) (max s.b x) (in_order_pair s.b x) h),
  )

  all_gone : AreOnlyOf m n gone
  all_gone = all_mapped Gone (in_order s.b) (s.a ∷ s.c ∷ s.d ∷ rest) (
    goes_at s.a (inr (left_side m s sound closed beside plain s.a s.b (step_one s.a s.b s.c))),
    (
      goes_at s.c (inl (left_side m s sound closed beside plain s.b s.c (step_two s.a s.b s.c))),
      (
        goes_at s.d (inr (right_side m s sound closed beside plain s.d s.b (step_three s.b s.a s.d))),
        all_of (λ x. Gone (in_order s.b x)) rest (λ x i. goes_at x (in_rest x i).0),
      ),
    ),
  )

  -- a side at b of a face that holds one end at most is one at a
  side_at_b : (x : ℕ) → x ≢ s.a → x ≢ s.c → x ≢ s.d → x ≢ s.b → AreSided m s.b x → AreSided n s.a x
  side_at_b x x_a x_c x_d x_b sided = ⊎_elim
      (λ side. inl (subst (λ z. HasSide n z x) goes (subst (λ z. HasSide n (to s.b) z) (stays x x_b) (carried s.b x (single s.b x x_corner_second side)))))
      (λ side. inr (subst (λ z. HasSide n x z) goes (subst (λ z. HasSide n z (to s.b)) (stays x x_b) (carried x s.b (single x s.b x_corner_first side)))))
      sided
    where
      not_x : (c : Corners) → AreAlike c (left m s beside) ⊎ AreAlike c (right m s beside) → has_corner c x ≡ true → ⊥
      not_x c is h = ⊎_elim
          (λ k. of_three (λ v. v ≢ x) s.a s.b s.c x (λ e. x_a (sym e)) (λ e. x_b (sym e)) (λ e. x_c (sym e)) (sym (k.corners x) ∙ h) refl)
          (λ k. of_three (λ v. v ≢ x) s.b s.a s.d x (λ e. x_b (sym e)) (λ e. x_a (sym e)) (λ e. x_d (sym e)) (sym (k.corners x) ∙ h) refl)
          is

      x_corner_second : (c : Corners) → follows c s.b x ≡ true → has_corner c x ≡ true
      x_corner_second c h = (step_corners c s.b x h).1

      x_corner_first : (c : Corners) → follows c x s.b ≡ true → has_corner c x ≡ true
      x_corner_first c h = (step_corners c x s.b h).0

      single : (u v : ℕ) → ((c : Corners) → follows c u v ≡ true → has_corner c x ≡ true) → HasSide m u v → SingleSide m s sound closed beside plain u v
      single u v at_x side = by_test (holds_both s.a s.b side.0) refl
        where
          by_test : (t : Bool) → holds_both s.a s.b side.0 ≡ t → SingleSide m s sound closed beside plain u v
          by_test true e = absurd (not_x side.0 (both_is m s sound closed beside plain side.0 side.1 e) (at_x side.0 side.2))
          by_test false e = (side.0, side.1, e, side.2)

  comes_at : (x : ℕ) → In rest x → Came (in_order s.a x)
  comes_at x i =
      let is = in_rest x i in
      let x_b : x ≢ s.b = λ e. sided_apart s.b x is.0 (sym e) in (
        ordered s.a x (λ e. is.1 (sym e)),
        sided_to_pair n s.a x (min s.a x) (max s.a x) (in_order_pair s.a x) (side_at_b x is.1 is.2 is.3 x_b is.0),
        λ h. ⊎_elim (λ e. is.2 (sym e)) (λ e. is.3 (sym e)) (plain.link x (sided_from_pair m s.a x (min s.a x) (max s.a x) (in_order_pair s.a x) h) is.0),
      )

  all_came : AreOnlyOf n m came
  all_came = all_mapped Came (in_order s.a) rest (all_of (λ x. Came (in_order s.a x)) rest comes_at)

  abbrev GoneOrSided : ℕ → ℕ → Type 0
  GoneOrSided u v = AreOneOf gone u v ⊎ AreSided n u v

  turned_gone : (u v : ℕ) → GoneOrSided u v → GoneOrSided v u
  turned_gone u v h = ⊎_elim (λ one. inl (one_turned gone u v one)) (λ sided. inr (turned n u v sided)) h

  at_b : (u v x : ℕ) → AreSided m s.b x → ArePair s.b x u v → GoneOrSided u v
  at_b u v x sided is = inl (one_of_mapped s.b (s.a ∷ s.c ∷ s.d ∷ rest) x u v (neighbour x sided) is)

  old_step : (u v : ℕ) → HasSide m u v → GoneOrSided u v
  old_step u v side = ⊎_elim
      (λ e. at_b u v v (subst (λ z. AreSided m z v) e.1 (inl side)) (inl (sym e.1, refl)))
      (λ e. ⊎_elim
      (λ f. at_b u v u (subst (λ z. AreSided m z u) f.1 (inr side)) (inr (refl, sym f.1)))
      (λ f. neither e.1 f.1)
      (tested v s.b))
      (tested u s.b)
    where
      neither : u ≢ s.b → v ≢ s.b → GoneOrSided u v
      neither u_b v_b = by_test (holds_both s.a s.b side.0) refl
        where
          abbrevs : u ≢ s.b → v ≢ s.b → HasSide n u v → GoneOrSided u v
          abbrevs p q h = inr (inl h)

          by_test : (t : Bool) → holds_both s.a s.b side.0 ≡ t → GoneOrSided u v
          by_test false e = abbrevs u_b v_b (carried_same u v u_b v_b (side.0, side.1, e, side.2))
          by_test true e = ⊎_elim
              (λ k. of_steps (λ p q. p ≢ s.b → q ≢ s.b → GoneOrSided p q) s.a s.b s.c u v
              (λ p q. absurd (q refl)) (λ p q. absurd (p refl)) (λ p q. inr (inr a_c_side)) (sym (k.steps u v) ∙ side.2) u_b v_b)
              (λ k. of_steps (λ p q. p ≢ s.b → q ≢ s.b → GoneOrSided p q) s.b s.a s.d u v
              (λ p q. absurd (p refl)) (λ p q. inr (inr d_a_side)) (λ p q. absurd (q refl)) (sym (k.steps u v) ∙ side.2) u_b v_b)
              (both_is m s sound closed beside plain side.0 side.1 e)

  abbrev CameOrSided : ℕ → ℕ → Type 0
  CameOrSided u v = AreOneOf came u v ⊎ AreSided m u v

  turned_came : (u v : ℕ) → CameOrSided u v → CameOrSided v u
  turned_came u v h = ⊎_elim (λ one. inl (one_turned came u v one)) (λ sided. inr (turned m u v sided)) h

  a_c_was : AreSided m s.a s.c
  a_c_was = inr (left_side m s sound closed beside plain s.c s.a (step_three s.a s.b s.c))

  a_d_was : AreSided m s.a s.d
  a_d_was = inl (right_side m s sound closed beside plain s.a s.d (step_two s.b s.a s.d))

  -- what was a side at b, where the other end is not a, is one at a or comes there
  from_b : (x : ℕ) → x ≢ s.a → AreSided m s.b x → CameOrSided s.a x
  from_b x x_a sided = ⊎_elim
      (λ e. absurd (x_a (sym e)))
      (λ more. ⊎_elim
      (λ e. inr (subst (AreSided m s.a) e a_c_was))
      (λ more. ⊎_elim
      (λ e. inr (subst (AreSided m s.a) e a_d_was))
      (λ i. inl (one_of_mapped s.a rest x s.a x i (inl (refl, refl)))) more) more)
      (neighbour x sided)

  new_step : (u v : ℕ) → HasSide n u v → CameOrSided u v
  new_step u v side =
      let old = was side.0 side.1 in
      let step = was_step s.a s.b old.from u v (subst (λ k. follows k u v ≡ true) old.is side.2) in
      ends old step.0 step.1 step.2 step.3 step.4
    where
      ends : (old : Was m s.a s.b side.0) (p q : ℕ) → follows old.from p q ≡ true → to p ≡ u → to q ≡ v → CameOrSided u v
      ends old p q step at_u at_v = ⊎_elim
          (λ e. subst (λ z. CameOrSided z v) (sym e.1 ∙ at_u) (subst (CameOrSided s.a) (sym (stays q (q_b e.0)) ∙ at_v) (from_b q (q_a e.0) (inl (subst (λ z. HasSide m z q) e.0 was_side)))))
          (λ e. ⊎_elim
          (λ f. subst (CameOrSided u) (sym f.1 ∙ at_v) (subst (λ z. CameOrSided z s.a) (sym e.1 ∙ at_u) (turned_came s.a p (from_b p (p_a f.0) (inr (subst (λ z. HasSide m p z) f.0 was_side))))))
          (λ f. inr (inl (subst (λ z. HasSide m z v) (sym e.1 ∙ at_u) (subst (HasSide m p) (sym f.1 ∙ at_v) was_side))))
          (moved_either s.b s.a q))
          (moved_either s.b s.a p)
        where
          was_side : HasSide m p q
          was_side = (old.from, old.there, step)

          corners : (has_corner old.from p ≡ true) × (has_corner old.from q ≡ true)
          corners = step_corners old.from p q step

          q_b : p ≡ s.b → q ≢ s.b
          q_b e k = no_self m s sound closed beside plain old.from p q old.there step (e ∙ sym k)

          q_a : p ≡ s.b → q ≢ s.a
          q_a e k = not_two s.a s.b old.from old.single (subst (λ z. has_corner old.from z ≡ true) k corners.1) (subst (λ z. has_corner old.from z ≡ true) e corners.0)

          p_a : q ≡ s.b → p ≢ s.a
          p_a e k = not_two s.a s.b old.from old.single (subst (λ z. has_corner old.from z ≡ true) k corners.0) (subst (λ z. has_corner old.from z ≡ true) e corners.1)

  traded : AreTraded m n gone came
  traded = record {
    of_old = λ u v sided. ⊎_elim (λ side. old_step u v side) (λ side. turned_gone v u (old_step v u side)) sided;
    of_new = λ u v sided. ⊎_elim (λ side. new_step u v side) (λ side. turned_came v u (new_step v u side)) sided;
    all_gone = all_gone;
    all_came = all_came;
    gone_differ = differ_mapped (in_order s.b) (s.a ∷ s.c ∷ s.d ∷ rest) (same_other s.b) (
      λ i. ⊎_elim (λ e. beside.c_a e) (λ j. ⊎_elim (λ e. beside.a_d (sym e)) (λ k. (in_rest s.a k).1 refl) j) i,
      (
        λ i. ⊎_elim (λ e. plain.c_d (sym e)) (λ k. (in_rest s.c k).2 refl) i,
        (λ i. (in_rest s.d i).3 refl, rest_differ),
      ),
    );
    came_differ = differ_mapped (in_order s.a) rest (same_other s.a) rest_differ;
  }

  edge_count : length (edges m) ≡ length (edges n) + 3
  edge_count =
      let all = edges_traded m n gone came sound sound' traded in
      let left = length-map {B = ℕ × ℕ} (s.a ∷ s.c ∷ s.d ∷ rest) (in_order s.b) in
      let right = length-map {B = ℕ × ℕ} rest (in_order s.a) in
      omega (arith, all, left, right)

  pub collapse_euler : finite.len n.faces + 2 ≡ finite.len m.faces → euler n ≡ euler m
  collapse_euler faces =
      let v = faced_count in
      let e = edge_count in
      balanced (length (faced_ids m)) (length (edges m)) (finite.len m.faces) (length (faced_ids n)) (length (edges n)) (finite.len n.faces) (omega (arith, v, e, faces))
