-- What is found along the faces near a box that has the touched ones is the first of all pairs.
use Rattle.std.proofs.Common.{◌≡◌, ℕ, ◌<◌, Bool, true, false, cond, not, ◌||◌, List, [], ◌∷◌, Option, Some, None, ◌⊎◌, ⊎_elim, inl, inr, refl, sym, ap, subst, ◌∙◌, arith}
use Rattle.std.proofs.lemmas.Bool.{false≢true}
use Rattle.std.proofs.lemmas.List.Elements.{recursion_from_All, All-from_recursion, All-weaker, All-contains_itself}
use Rattle.std.specs.List.{All, Contains, filter, find, flat_map, AllByRecursion}
use Rattle.std.specs.Option.{option_map}
use Rattle.std.specs.FinMap as finite
use Rattle.grid_base.specs.declared.Extent.{Extent}
use Rattle.grid_decided.specs.Decided.{meets_exactly}
use Rattle.mesh_base.specs.declared.ids.Corners.{Corners}
use Rattle.mesh_base.specs.declared.ids.PairName.{PairName}
use Rattle.mesh_base.specs.Mesh.{Mesh, IsSound, HasCorners}
use Rattle.mesh_base.specs.Sides.{follows, IsEdge}
use Rattle.mesh_base.specs.Pairs.{Pair, edges, pairs_of}
use Rattle.mesh_base.specs.Placements.{Motion}
use Rattle.mesh_base.specs.SideList.{has_side}
use Rattle.mesh_base.proofs.EdgesInOrder.{one_runs, has_contained}
use Rattle.mesh_base.proofs.InOrder.{edges_sorted}
use Rattle.mesh_base.proofs.Listed.{all_filter, all_map, all_flat_map, at_key}
use Rattle.mesh_base.proofs.ListedPairs.{edge_listed, all_filtered, all_flat_mapped, all_mapped, all_weaker}
use Rattle.edit_base.specs.declared.Move.{Move}
use Rattle.edit_base.specs.declared.Touch.{Touch}
use Rattle.edit_base.specs.Scaffold.{Scaffold, motion_by, is_as_required, first_failing}
use Rattle.edit_base.proofs.ListedEdges.{IsOrderedEdge}
use Rattle.pair_paths.specs.declared.moving_parts.MovingEdge.{MovingEdge}
use Rattle.pair_paths.specs.declared.moving_parts.MovingFace.{MovingFace}
use Rattle.pair_paths.specs.Moving.{moving_edge, moving_face, moving_faces}
use Rattle.pair_paths.specs.Bounds.{HoldsFace}
use Rattle.pair_paths.specs.Pairing.{name_with}
use Rattle.pair_paths.proofs.Numbered.{same_some}
use Rattle.edit_check.specs.declared.boxed.BoxedFace.{BoxedFace}
use Rattle.edit_check.specs.declared.terms.Terms.{Terms}
use Rattle.edit_check.specs.Untouched.{IsClearWhereUntouched}
use Rattle.edit_check.specs.Touched.{is_touched, touched_among}
use Rattle.edit_check.specs.Failing.{first_failing_among, is_side_of_some, fails}
use Rattle.edit_check.specs.Boxed.{faces_in, first_failing_boxed, is_side_of_boxed, touched_boxed}
use Rattle.edit_check.specs.Checking.{scaffold_by, first_of}
use Rattle.edit_check.specs.Reach.{ReachesTouched, is_face_in_reach}
use Rattle.edit_check.specs.Sides.{turned, is_run_by_some}
use Rattle.edit_check.specs.FacePairs.{some_touched_fail}
use Rattle.edit_check.specs.Neighbourhood.{EdgeGoes, FaceGoes, AreAlong, HasNoneApart, HaveNoneApart}
use Rattle.edit_check.specs.Searching.{first_near, is_settled, edges_of, with_faces}
use Rattle.edit_check.proofs.Alone.{alone_beyond}
use Rattle.edit_check.proofs.Beyond.{all_faces, among_nearby, among_touched_nearby, none_beyond}
use Rattle.edit_check.proofs.Boxes.{first_boxed, side_boxed}
use Rattle.edit_check.proofs.Edges.{each_of, side_goes, side_runs, turned_goes, run_up, run_down}
use Rattle.edit_check.proofs.FacePairs.{none_of, picked, all_both, none_with_faces}
use Rattle.edit_check.proofs.LeftOut.{IsPassed, none_in, one_in}
use Rattle.edit_check.proofs.Settling.{all_settled, found_of_one}

-- ---- lists
-- the touched ones of faces with boxes
faces_touched : (moves : List Move) (together : List ℕ) (fresh_from : ℕ) (faces : List BoxedFace) → faces_in (touched_boxed moves together fresh_from faces) ≡ touched_among moves together fresh_from (faces_in faces)
faces_touched moves together fresh_from [] = refl
faces_touched moves together fresh_from (f ∷ faces) = by_test (faces_touched moves together fresh_from faces) (is_touched moves together fresh_from f.face)
  where
    by_test : faces_in (touched_boxed moves together fresh_from faces) ≡ touched_among moves together fresh_from (faces_in faces) → (t : Bool)
        → faces_in (cond t (f ∷ touched_boxed moves together fresh_from faces) (touched_boxed moves together fresh_from faces))
        ≡ cond t (f.face ∷ touched_among moves together fresh_from (faces_in faces)) (touched_among moves together fresh_from (faces_in faces))
    by_test rest true = ap (λ fs. f.face ∷ fs) rest
    by_test rest false = rest

-- what an edge has is a pair of the edge
first_named : (t : Terms) (faces touched : List BoxedFace) (e : MovingEdge) (n : PairName) → first_near t faces touched e ≡ Some n → (n.a ≡ e.a) × (n.b ≡ e.b)
first_named t faces touched e n h = by_find (find (λ f. fails t.touch t.together.now t.depth e f.face) (cond (is_side_of_boxed e.a e.b touched) faces touched)) h
  where
    by_find : (o : Option BoxedFace) → option_map (λ f. name_with e f.face) o ≡ Some n → (n.a ≡ e.a) × (n.b ≡ e.b)
    by_find None h = cc
    by_find (Some f) h = let same = same_some (name_with e f.face) n h in (sym (ap (λ k. k.a) same), sym (ap (λ k. k.b) same))

all_edges : (m : Mesh) → IsSound m → AllByRecursion (IsOrderedEdge m) (edges m)
all_edges m sound = recursion_from_All (IsOrderedEdge m) (edges m) (All-weaker (Contains (edges m)) (IsOrderedEdge m) (λ e h. (edge_listed m sound e.0 e.1).0 h) (edges m) (All-contains_itself (edges m)))

-- ---- the faces near a box
module _ (m : Mesh) (moves : List Move) (t : Terms) (fresh_from : ℕ) (box : Extent) (reached : ReachesTouched m moves t.together.now fresh_from (Some box)) (faces touched : List BoxedFace)
    (near : faces_in faces ≡ filter (λ f. is_face_in_reach m (Some box) f.face) (moving_faces m (motion_by m moves)))
    (new : touched ≡ touched_boxed moves t.together.now fresh_from faces) where
  abbrev w : Motion
  w = motion_by m moves

  abbrev in_reach : MovingFace → Bool
  in_reach f = is_face_in_reach m (Some box) f.face

  abbrev is_new : MovingFace → Bool
  is_new f = is_touched moves t.together.now fresh_from f

  abbrev IsFace : MovingFace → Type 0
  IsFace f = HasCorners m f.face f.corners × FaceGoes w f

  each_near : AllByRecursion (λ f. IsFace f.face) faces
  each_near = all_map IsFace (λ f. f.face) faces (subst (AllByRecursion IsFace) (sym near)
      (all_filtered IsFace in_reach (moving_faces m w) (all_weaker (λ f. HasCorners m f.face f.corners × (moving_face w (f.face, f.corners) ≡ f)) (λ f. in_reach f ≡ true → IsFace f) (moving_faces m w)
      (λ f is e. (is.0, sym is.1)) (all_faces m moves t.touch t.together.now t.depth fresh_from (Some box) reached))))

  abbrev IsHeld : BoxedFace → Type 0
  IsHeld f = FaceGoes w f.face × HoldsFace f.face box

  held : (f : BoxedFace) → IsFace f.face → is_new f.face ≡ true → IsHeld f
  held f is e =
      let h = reached f.face.face f.face.corners is.0 (ap is_new (sym is.1) ∙ e) in
      let same = same_some box h.0 h.1.0 in
      (is.1, subst (λ g. HoldsFace g box) (sym is.1) (subst (HoldsFace (moving_face w (f.face.face, f.face.corners))) (sym same) h.1.1.way))

  each_touched : AllByRecursion IsHeld touched
  each_touched = subst (AllByRecursion IsHeld) (sym new) (all_filtered IsHeld (λ f. is_new f.face) faces (all_weaker (λ f. IsFace f.face) (λ f. is_new f.face ≡ true → IsHeld f) faces held each_near))

  along : AreAlong w box faces touched
  along = record {
    all_go = All-from_recursion (λ f. FaceGoes w f.face) faces (all_weaker (λ f. IsFace f.face) (λ f. FaceGoes w f.face) faces (λ f is. is.1) each_near);
    touched_go = All-from_recursion (λ f. FaceGoes w f.face) touched (all_weaker IsHeld (λ f. FaceGoes w f.face) touched (λ f is. is.0) each_touched);
    reached = All-from_recursion (λ f. HoldsFace f.face box) touched (all_weaker IsHeld (λ f. HoldsFace f.face box) touched (λ f is. is.1) each_touched);
  }

  alone : (e : MovingEdge) → EdgeGoes w e → HasNoneApart t box faces touched e
  alone e goes own holds off = alone_beyond t box faces touched w along e own goes holds off

  pub none_apart : HaveNoneApart t box faces touched faces
  none_apart =
      let P = HasNoneApart t box faces touched in
      All-from_recursion (λ f. All P (edges_of faces f.face)) faces
      (all_weaker (λ f. IsFace f.face) (λ f. All P (edges_of faces f.face)) faces
      (λ f is. All-from_recursion P (edges_of faces f.face) (each_of P faces f.face (λ e which. let goes = side_goes w f.face e is.1 which in (λ up. alone e goes, λ down. alone (turned e) (turned_goes w e goes)))))
      each_near)

  -- nothing is found where no touched face fails with one near
  pub none_where_none_fail : some_touched_fail t faces touched touched ≡ false → with_faces t faces touched None faces ≡ None
  none_where_none_fail none = none_with_faces w t faces touched none
      (all_weaker (λ f. IsFace f.face) (λ f. FaceGoes w f.face) faces (λ f is. is.1) each_near)
      (all_weaker IsHeld (λ f. FaceGoes w f.face) touched (λ f is. is.0) each_touched)

  -- ---- the pairs
  module _ (sound : IsSound m) (clear : IsClearWhereUntouched m moves fresh_from) where
    abbrev s : Scaffold
    s = scaffold_by m moves t.touch t.together.now

    abbrev of : ℕ × ℕ → List Pair
    of e = pairs_of m e

    abbrev first : MovingEdge → Option PairName
    first e = first_near t faces touched e

    touched_all : faces_in touched ≡ filter is_new (filter in_reach (moving_faces m w))
    touched_all = ap faces_in new ∙ faces_touched moves t.together.now fresh_from faces ∙ ap (filter is_new) near

    -- what an edge has near the box is what it has among all faces
    near_first : (a b : ℕ) → a < b → IsEdge m a b → first (moving_edge w a b) ≡ first_of s t.depth (of (a, b))
    near_first a b less edge = by_test (is_side_of_boxed a b touched) refl
      where
        is_side : is_side_of_some a b (filter is_new (filter in_reach (moving_faces m w))) ≡ is_side_of_boxed a b touched
        is_side = ap (is_side_of_some a b) (sym touched_all) ∙ sym (side_boxed a b touched)

        by_test : (k : Bool) → is_side_of_boxed a b touched ≡ k → first_failing_boxed t.touch t.together.now t.depth (moving_edge w a b) (cond k faces touched) ≡ first_of s t.depth (of (a, b))
        by_test true side =
            first_boxed t.touch t.together.now t.depth (moving_edge w a b) faces
            ∙ ap (first_failing_among t.touch t.together.now t.depth (moving_edge w a b)) near
            ∙ among_nearby m moves t.touch t.together.now t.depth fresh_from (Some box) reached a b (is_side ∙ side)
        by_test false off =
            first_boxed t.touch t.together.now t.depth (moving_edge w a b) touched
            ∙ ap (first_failing_among t.touch t.together.now t.depth (moving_edge w a b)) touched_all
            ∙ among_touched_nearby m moves t.touch t.together.now t.depth fresh_from (Some box) reached a b clear less edge (is_side ∙ off)

    -- ---- the edges that are looked at
    abbrev looked : List MovingEdge
    looked = flat_map (λ f. edges_of faces f.face) faces

    abbrev found : Option PairName
    found = with_faces t faces touched None faces

    abbrev IsListed : MovingEdge → Type 0
    IsListed e = EdgeGoes w e × ((e.a < e.b) × IsEdge m e.a e.b)

    all_listed : AllByRecursion IsListed looked
    all_listed = all_flat_mapped IsListed (λ f. edges_of faces f.face) faces (all_weaker (λ f. IsFace f.face) (λ f. AllByRecursion IsListed (edges_of faces f.face)) faces
        (λ f is. each_of IsListed faces f.face (λ e which.
        let goes = side_goes w f.face e is.1 which in
        let runs = one_runs m f.face.face f.face.corners e.a e.b is.0 (side_runs f.face e which) in
        (λ up. (goes, (up, omega (arith, runs))), λ down. (turned_goes w e goes, (down, omega (arith, runs))))))
        each_near)

    is_first : (e : MovingEdge) → IsListed e → first e ≡ first_of s t.depth (of (e.a, e.b))
    is_first e is = ap first is.0 ∙ near_first e.a e.b is.1.0 is.1.1

    abbrev Passed : ℕ → ℕ → Type 0
    Passed a b = (first_of s t.depth (of (a, b)) ≡ None) ⊎ (is_settled found a b ≡ true)

    abbrev Settled : MovingEdge → Type 0
    Settled e = (first e ≡ None) ⊎ (is_settled found e.a e.b ≡ true)

    passes_settled : (e : MovingEdge) → IsListed e → Settled e → Passed e.a e.b
    passes_settled e is h = by_case h
      where
        has_none : first e ≡ None → first_of s t.depth (of (e.a, e.b)) ≡ None
        has_none none = sym (is_first e is) ∙ none

        by_case : Settled e → Passed e.a e.b
        by_case (inl none) = inl (has_none none)
        by_case (inr k) = inr k

    looked_settled : AllByRecursion Settled looked
    looked_settled = all_settled first (first_named t faces touched) looked None

    looked_passed : AllByRecursion (λ e. Passed e.a e.b) looked
    looked_passed = all_both IsListed Settled (λ e. Passed e.a e.b) looked passes_settled all_listed looked_settled

    at_faces : AllByRecursion (λ f. AllByRecursion (λ e. Passed e.a e.b) (edges_of faces f.face)) faces
    at_faces = all_flat_map (λ e. Passed e.a e.b) (λ f. edges_of faces f.face) faces looked_passed

    not_run : (u v : ℕ) → is_run_by_some u v faces ≡ false → (f : ℕ) (c : Corners) → HasCorners m f c → is_face_in_reach m (Some box) f ≡ true → follows c u v ≡ false
    not_run u v off f c there h =
        at_key (λ e. is_face_in_reach m (Some box) e.0 ≡ true → follows e.1 u v ≡ false) m.faces f c
        (all_map (λ g. in_reach g ≡ true → follows g.corners u v ≡ false) (moving_face w) (finite.entries m.faces)
        (all_filter (λ g. follows g.corners u v ≡ false) in_reach (moving_faces m w)
        (subst (AllByRecursion (λ g. follows g.corners u v ≡ false)) near
        (all_mapped (λ g. follows g.corners u v ≡ false) (λ g. g.face) faces (none_of (λ g. follows g.face.corners u v) faces off)))))
        there h

    no_or : (x y : Bool) → x ≡ false → y ≡ false → (x || y) ≡ false
    no_or true y e f = absurd (false≢true (sym e))
    no_or false y e f = f

    each_passed : (a b : ℕ) → a < b → IsEdge m a b → Passed a b
    each_passed a b less edge = by_tests (is_run_by_some a b faces) (is_run_by_some b a faces) refl refl
      where
        At : BoxedFace → Type 0
        At f = AllByRecursion (λ e. Passed e.a e.b) (edges_of faces f.face)

        by_tests : (x y : Bool) → is_run_by_some a b faces ≡ x → is_run_by_some b a faces ≡ y → Passed a b
        by_tests true y i j =
            let f = picked At (λ f. follows f.face.corners a b) faces at_faces i in
            run_up Passed faces f.0.face a b (All-from_recursion (λ e. Passed e.a e.b) (edges_of faces f.0.face) f.1.1) less f.1.0
        by_tests false true i j =
            let f = picked At (λ f. follows f.face.corners b a) faces at_faces j in
            run_down Passed faces f.0.face a b (All-from_recursion (λ e. Passed e.a e.b) (edges_of faces f.0.face) f.1.1) less i f.1.0
        by_tests false false i j = inl (none_beyond m moves t.touch t.together.now t.depth fresh_from (Some box) reached a b clear less edge
            (λ f c there h. no_or (follows c a b) (follows c b a) (not_run a b i f c there h) (not_run b a j f c there h)))

    -- what is found is the first of all
    pub is_first_failing : found ≡ first_failing meets_exactly s t.depth
    is_first_failing = by_found found refl
      where
        name : Pair → PairName
        name p = p.name

        bad : Pair → Bool
        bad p = not (is_as_required meets_exactly s t.depth p)

        all_passed : (o : Option PairName) → found ≡ o → AllByRecursion (IsPassed name bad of o) (edges m)
        all_passed o is = subst (λ o. AllByRecursion (IsPassed name bad of o) (edges m)) is (all_weaker (IsOrderedEdge m) (IsPassed name bad of found) (edges m) (λ e h. each_passed e.0 e.1 h.0 h.1) (all_edges m sound))

        by_found : (o : Option PairName) → found ≡ o → found ≡ first_of s t.depth (flat_map of (edges m))
        by_found None is = is ∙ sym (none_in name bad of (edges m) (all_passed None is))
        by_found (Some n) is = ⊎_elim
            (λ h. cc)
            (λ e.
            let k : MovingEdge = e.0 in
            let two = first_named t faces touched k n e.1.1 in
            let own : first_of s t.depth (of (n.a, n.b)) ≡ Some n =
            ap (λ a. first_of s t.depth (of (a, n.b))) two.0 ∙ ap (λ b. first_of s t.depth (of (k.a, b))) two.1 ∙ sym (is_first k e.1.0) ∙ e.1.1 in
            let has : has_side (edges m) n.a n.b ≡ true =
            ap (λ a. has_side (edges m) a n.b) two.0 ∙ ap (λ b. has_side (edges m) k.a b) two.1 ∙ has_contained (edges m) k.a k.b ((edge_listed m sound k.a k.b).1 e.1.0.1) in
            is ∙ sym (one_in name bad of n (edges m) (edges_sorted m) (all_passed (Some n) is) own has))
            (found_of_one first (first_named t faces touched) IsListed looked None n all_listed is)

-- ---- without a box, where no face is touched
pub none_failing : (m : Mesh) (moves : List Move) (touch : Touch) (together : List ℕ) (depth fresh_from : ℕ) → IsSound m → IsClearWhereUntouched m moves fresh_from → ReachesTouched m moves together fresh_from None
    → first_failing meets_exactly (scaffold_by m moves touch together) depth ≡ None
none_failing m moves touch together depth fresh_from sound clear reached =
    let s : Scaffold = scaffold_by m moves touch together in
    let name : Pair → PairName = λ p. p.name in
    let bad : Pair → Bool = λ p. not (is_as_required meets_exactly s depth p) in
    let of : ℕ × ℕ → List Pair = λ e. pairs_of m e in
    none_in name bad of (edges m)
    (all_weaker (IsOrderedEdge m) (IsPassed name bad of None) (edges m)
    (λ e is. inl (none_beyond m moves touch together depth fresh_from None reached e.0 e.1 clear is.0 is.1 (λ f c there h. absurd (false≢true h)))) (all_edges m sound))
