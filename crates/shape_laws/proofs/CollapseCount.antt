-- A collapse of an edge with a plain link takes two faces away.
use Rattle.std.proofs.Common.{◌≡◌, ◌≢◌, ℕ, ◌+◌, ◌==◌, ◌&&◌, Bool, true, false, T, List, [], ◌∷◌, map, length, is_some, inl, inr, ⊎_elim, refl, sym, ap, subst, ◌∙◌, arith}
use Rattle.std.proofs.lemmas.Bool.{eqb-true, eqb-false}
use Rattle.std.specs.Ordering.{nat_cmp}
use Rattle.std.specs.FinMap as finite
use Rattle.std.specs.FinMap.{entries_sorted}
use Rattle.std.specs.FinMap.Entries.{is_sorted, below_all}
use Rattle.grid_base.specs.declared.Point.{Point}
use Rattle.mesh_base.specs.declared.ids.Corners.{Corners}
use Rattle.mesh_base.specs.Mesh.{Mesh, IsSound, IsLiveFace, HasCorners}
use Rattle.mesh_base.specs.Sides.{has_corner, faces_where, IsClosed}
use Rattle.mesh_base.specs.Changes.{without_face, with_face}
use Rattle.mesh_base.proofs.Finite.{live_but_removed}
use Rattle.mesh_base.proofs.Tests.{and_both}
use Rattle.mesh_base.proofs.WalkSteps.{both_of}
use Rattle.edit_base.specs.Edges.{Edge, corners_at, renamed, without_faces, with_all_renamed}
use Rattle.edit_base.specs.Beside.{IsBeside}
use Rattle.edit_acts.proofs.Counting.{len-without, len-with_new}
use Rattle.edit_acts.proofs.Flow.{AreBelow, below-without, not_live}
use Rattle.edit_acts.proofs.FaceCorners.{step_one}
use Rattle.edit_pinch.proofs.FansApart.{differ-ids}
use Rattle.edit_collapse.specs.Collapse.{without_shared, collapse_mesh}
use Rattle.edit_collapse.specs.Tried.{only_at}
use Rattle.edit_collapse.proofs.Acts.{Wait, renamed_once, made_below, wait_on, one_below, rising, first_wait, two_is}
use Rattle.edit_collapse.proofs.CollapseMesh.{same_faces}
use Rattle.mesh_measure.proofs.Around.{listed_passes, face_listed}
use Rattle.shape_laws.proofs.Lists.{In, AllDiffer, same_length}
use Rattle.shape_laws.proofs.Numbers.{has_in, in_has, all_differ}
use Rattle.shape_laws.proofs.Faces.{left_alike, right_alike, one_each, two_run, corner_one, corner_two}
use Rattle.shape_laws.proofs.CollapseFaces.{three_is_two}
use Rattle.shape_laws.proofs.CollapseLink.{IsPlain, both_is, never}

-- ---- faces that are dropped, and faces that are made again
count_without : (k : Mesh) (fs : List ℕ) → AllDiffer fs → ((f : ℕ) → In fs f → IsLiveFace k f) → finite.len (without_faces k fs).faces + length fs ≡ finite.len k.faces
count_without k [] differ live = omega arith
count_without k (f ∷ fs) differ live =
    let one = len-without k.faces f (live f (inl refl)) in
    let rest = count_without (without_face k f) fs differ.1 (λ g i. live_but_removed k.faces f g (λ e. differ.0 (subst (In fs) e i)) (live g (inr i))) in
    omega (arith, one, rest)

count_renamed : (a b : ℕ) (es : List (ℕ × Corners)) (k : Mesh) → AreBelow k → T (is_sorted nat_cmp es) → Wait a b k es → finite.len (with_all_renamed b a k (map (λ e. e.0) es)).faces ≡ finite.len k.faces
count_renamed a b [] k below in_order wait = refl
count_renamed a b (e ∷ es) k below in_order wait =
    let parts = both_of (below_all nat_cmp e.0 es) (is_sorted nat_cmp es) in_order in
    let bare = without_face k e.0 in
    let made = renamed b a e.1 in
    let less = len-without k.faces e.0 (ap is_some (wait.0).0) in
    let more = len-with_new bare.faces bare.next_face made (not_live bare (below-without k e.0 below)) in
    let rest = count_renamed a b es (with_face bare made) (made_below a b k e es below wait) parts.1 (wait_on a b k e es below wait parts.0) in
    ap (λ (n : Mesh). finite.len (with_all_renamed b a n (map (λ x. x.0) es)).faces) (renamed_once a b k e es below wait)
    ∙ rest ∙ same (finite.len k.faces) (finite.len bare.faces) (finite.len (with_face bare made).faces) less more
  where
    same : (k bare now : ℕ) → bare + 1 ≡ k → now ≡ bare + 1 → now ≡ k
    same k bare now e f = omega (arith, e, f)

module _ (m : Mesh) (s : Edge) (at : Point) (sound : IsSound m) (closed : IsClosed m) (beside : IsBeside m s) (plain : IsPlain m s) where
  abbrev test : Corners → Bool
  test c = has_corner c s.a && has_corner c s.b

  abbrev shared : List ℕ
  shared = faces_where test m

  abbrev both : List ℕ
  both = s.left_face ∷ s.right_face ∷ []

  -- the two faces beside the edge are those that hold both ends
  one_of_two : (f : ℕ) → In shared f → In both f
  one_of_two f i = by_tests (s.left_face == f) refl (s.right_face == f) refl
    where
      is : HasCorners m f (corners_at m f) × (test (corners_at m f) ≡ true)
      is = listed_passes m test f (has_in shared f i)

      neither : s.left_face ≢ f → s.right_face ≢ f → ⊥
      neither l r = ⊎_elim
          (λ k. two_run m s beside plain.uncrowded s.left_face beside.left_corners (corners_at m f) f s.a s.b beside.left_face beside.left_runs l is.0 (k.steps s.a s.b ∙ step_one s.a s.b s.c) (one_each m s beside plain.uncrowded).0)
          (λ k. two_run m s beside plain.uncrowded s.right_face beside.right_corners (corners_at m f) f s.b s.a beside.right_face beside.right_runs r is.0 (k.steps s.b s.a ∙ step_one s.b s.a s.d) (one_each m s beside plain.uncrowded).1)
          (both_is m s sound closed beside plain (corners_at m f) (f, is.0) is.1)

      by_tests : (t : Bool) → (s.left_face == f) ≡ t → (u : Bool) → (s.right_face == f) ≡ u → In both f
      by_tests true e u e' = inl (eqb-true s.left_face f e)
      by_tests false e true e' = inr (inl (eqb-true s.right_face f e'))
      by_tests false e false e' = absurd (neither (eqb-false s.left_face f e) (eqb-false s.right_face f e'))

  left_test : test beside.left_corners ≡ true
  left_test = and_both (has_corner beside.left_corners s.a) (has_corner beside.left_corners s.b)
      ((left_alike m s beside).corners s.a ∙ corner_one s.a s.b s.c) ((left_alike m s beside).corners s.b ∙ corner_two s.a s.b s.c)

  right_test : test beside.right_corners ≡ true
  right_test = and_both (has_corner beside.right_corners s.a) (has_corner beside.right_corners s.b)
      ((right_alike m s beside).corners s.a ∙ corner_two s.b s.a s.d) ((right_alike m s beside).corners s.b ∙ corner_one s.b s.a s.d)

  left_shared : In shared s.left_face
  left_shared = in_has shared s.left_face (face_listed m test s.left_face beside.left_corners beside.left_face left_test)

  right_shared : In shared s.right_face
  right_shared = in_has shared s.right_face (face_listed m test s.right_face beside.right_corners beside.right_face right_test)

  shared_differ : AllDiffer shared
  shared_differ = all_differ shared (differ-ids test (finite.entries m.faces) (entries_sorted m.faces))

  two_shared : length shared ≡ 2
  two_shared = same_length shared both shared_differ
      (λ i. ⊎_elim (λ e. beside.two_faces (sym e)) (λ none. none) i, (λ i. i, tt))
      one_of_two
      (λ f i. ⊎_elim (λ e. subst (In shared) e left_shared) (λ j. ⊎_elim (λ e. subst (In shared) e right_shared) (λ none. absurd none) j) i)

  shared_live : (f : ℕ) → In shared f → IsLiveFace m f
  shared_live f i = ap is_some (listed_passes m test f (has_in shared f i)).0

  pub collapse_count : finite.len (collapse_mesh m s.a s.b at).faces + 2 ≡ finite.len m.faces
  collapse_count =
      let one = count_without m shared shared_differ shared_live in
      let two = two_shared in
      let again = count_renamed s.a s.b (only_at m s.b s.a) (without_shared m s.a s.b) (one_below m s.a s.b sound beside.a_b) (rising m s.a s.b sound beside.a_b) (first_wait m s.a s.b sound beside.a_b) in
      let joined = ap (λ (n : Mesh). finite.len n.faces) (two_is m s.a s.b sound beside.a_b) in
      let cancelled = ap (λ (n : Mesh). finite.len n.faces) (three_is_two m s.a s.b sound closed beside.a_b (never m s sound closed beside plain)) in
      let faces = ap (λ fs. finite.len fs) (same_faces m s.a s.b at sound closed beside.a_b) in
      omega (arith, one, two, again, joined, cancelled, faces)
