-- The sides of the faces in reach, with these faces, give the names that all edges with all faces give.
use Rattle.std.proofs.Common.{◌≡◌, ℕ, ◌<◌, Bool, true, false, cond, ◌&&◌, List, [], ◌∷◌, ◌++◌, Option, Some, None, is_some, nat_lt, ⊎_elim, refl, sym, ap, ◌∙◌, arith}
use Rattle.std.specs.List.{filter, flat_map, list_any, AllByRecursion, Contains}
use Rattle.std.specs.List.Sorted.{IsStrictlySortedBy}
use Rattle.std.specs.Ordering.{nat_cmp}
use Rattle.std.specs.FinMap as finite
use Rattle.std.proofs.lemmas.Bool.{false≢true, ltb-true, lt-ltb, or_cases}
use Rattle.std.proofs.lemmas.List.Elements.{All-from_recursion, recursion_from_All, All-contains_itself, All-contains, All-weaker}
use Rattle.std.proofs.lemmas.List.Kept.{IsStrictlySortedBy-filter}
use Rattle.std.proofs.lemmas.Map.Lookups.{CmpEqualImpliesEq, exact_pairs, exact_unsigned, btree_set_from_contains}
use Rattle.grid_base.specs.declared.Extent.{Extent}
use Rattle.mesh_base.specs.declared.ids.Corners.{Corners}
use Rattle.mesh_base.specs.declared.ids.PairName.{PairName}
use Rattle.mesh_base.specs.Mesh.{Mesh, IsSound, HasCorners}
use Rattle.mesh_base.specs.Pairs.{edges}
use Rattle.mesh_base.specs.Placements.{Motion}
use Rattle.mesh_base.specs.SideList.{edge_cmp, has_side, are_neighbours, neighbours_in, neighbours_at, neighbours_in_any, HasSides}
use Rattle.mesh_base.specs.Sides.{follows, IsEdge}
use Rattle.mesh_base.proofs.EdgesInOrder.{one_runs, has_contained, contained}
use Rattle.mesh_base.proofs.InOrder.{edges_sorted, edge_total}
use Rattle.mesh_base.proofs.Listed.{all_filter, at_live}
use Rattle.mesh_base.proofs.ListedPairs.{edge_listed, all_filtered, all_weaker}
use Rattle.mesh_base.proofs.Tests.{and_first, and_second, and_both, or_either, both_ways}
use Rattle.edit_base.specs.declared.Move.{Move}
use Rattle.edit_base.specs.Scaffold.{motion_by}
use Rattle.edit_base.proofs.ListedEdges.{IsOrderedEdge}
use Rattle.pair_paths.specs.declared.MovingFace.{MovingFace}
use Rattle.pair_paths.specs.Moving.{moving_edge, moving_face, moving_faces}
use Rattle.edit_check.specs.Nearby.{faces_among}
use Rattle.edit_check.specs.Reach.{ReachesTouched, is_face_in_reach, faces_in_reach}
use Rattle.edit_check.specs.Untouched.{IsClearWhereUntouched}
use Rattle.edit_check.proofs.Beyond.{faces_of_reach}
use Rattle.edit_check.proofs.Scans.{none_kept}
use Rattle.motion_proof.specs.Needs.{needing_one, needing_among, needing_along, needing}
use Rattle.motion_proof.proofs.NeedingList.{along_edges}
use Rattle.edit_proof.proofs.Enough.{all_faces, none_beyond, none_at_all}

-- ---- lists
-- What those that are kept make is what all make, where the kept ones make alike and the others nothing.
flat_map_kept : {X Y : Type 0} (f g : X → List Y) (keep : X → Bool) (xs : List X) → AllByRecursion (λ x. (keep x ≡ true → f x ≡ g x) × (keep x ≡ false → g x ≡ [])) xs
    → flat_map f (filter keep xs) ≡ flat_map g xs
flat_map_kept f g keep [] h = refl
flat_map_kept {X} {Y} f g keep (x ∷ xs) h = by_test (flat_map_kept f g keep xs h.1) (keep x) refl
  where
    by_test : flat_map f (filter keep xs) ≡ flat_map g xs → (b : Bool) → keep x ≡ b → flat_map f (cond b (x ∷ filter keep xs) (filter keep xs)) ≡ g x ++ flat_map g xs
    by_test rest true e = ap (λ ys. ys ++ flat_map f (filter keep xs)) (h.0.0 e) ∙ ap (λ ys. g x ++ ys) rest
    by_test rest false e = rest ∙ sym (ap (λ ys. ys ++ flat_map g xs) (h.0.1 e))

-- where none makes anything, there is nothing
flat_map_none : {X Y : Type 0} (g : X → List Y) (xs : List X) → AllByRecursion (λ x. g x ≡ []) xs → flat_map g xs ≡ []
flat_map_none g [] h = refl
flat_map_none g (x ∷ xs) h = ap (λ ys. ys ++ flat_map g xs) h.0 ∙ flat_map_none g xs h.1

some_passes : {X : Type 0} (test : X → Bool) (xs : List X) → list_any test xs ≡ true → (x : X) × (test x ≡ true)
some_passes test [] h = absurd (false≢true h)
some_passes test (x ∷ xs) h = ⊎_elim (λ e. (x, e)) (λ e. some_passes test xs e) (or_cases (test x) (list_any test xs) h)

pub kept_none : (ids : List ℕ) → filter (λ f. false) ids ≡ []
kept_none [] = refl
kept_none (f ∷ ids) = kept_none ids

-- ---- sides as edges
edge_exact : CmpEqualImpliesEq edge_cmp
edge_exact = exact_pairs nat_cmp nat_cmp exact_unsigned exact_unsigned

side_is_edge : (m : Mesh) (f a b : ℕ) → neighbours_at m f a b ≡ true → IsEdge m a b
side_is_edge m f a b h = by_face (finite.get m.faces f) refl h
  where
    by_face : (o : Option Corners) → finite.get m.faces f ≡ o → neighbours_in o a b ≡ true → IsEdge m a b
    by_face None is e = absurd (false≢true e)
    by_face (Some c) is e = ⊎_elim (λ one. let some = one_runs m f c a b is one in omega (arith, some)) (λ one. let some = one_runs m f c b a is one in omega (arith, some)) (or_either (follows c a b) (follows c b a) e)

all_edges : (m : Mesh) → IsSound m → AllByRecursion (IsOrderedEdge m) (edges m)
all_edges m sound = recursion_from_All (IsOrderedEdge m) (edges m) (All-weaker (Contains (edges m)) (IsOrderedEdge m) (λ e h. (edge_listed m sound e.0 e.1).0 h) (edges m) (All-contains_itself (edges m)))

module _ (m : Mesh) (sound : IsSound m) (faces : List ℕ) where
  -- the edge is a side of one of the faces
  abbrev pub is_side : ℕ × ℕ → Bool
  is_side e = neighbours_in_any m faces e.0 e.1

  abbrev kept : List (ℕ × ℕ)
  kept = filter is_side (edges m)

  abbrev IsSide : ℕ × ℕ → Type 0
  IsSide e = (e.0 < e.1) × (is_side e ≡ true)

  in_kept : (e : ℕ × ℕ) → Contains (edges m) e → is_side e ≡ true → Contains kept e
  in_kept e there = All-contains (λ d. is_side d ≡ true → Contains kept d) (edges m) e
      (All-from_recursion (λ d. is_side d ≡ true → Contains kept d) (edges m) (all_filter (Contains kept) is_side (edges m) (recursion_from_All (Contains kept) kept (All-contains_itself kept)))) there

  of_kept : (e : ℕ × ℕ) → Contains kept e → IsSide e
  of_kept e there = All-contains IsSide kept e
      (All-from_recursion IsSide kept (all_filtered IsSide is_side (edges m) (all_weaker (IsOrderedEdge m) (λ d. is_side d ≡ true → IsSide d) (edges m) (λ d is t. (is.0, t)) (all_edges m sound)))) there

  -- the sides of some faces, in order, are those of the edges that are sides of one
  pub sides_are_kept : (sides : List (ℕ × ℕ)) → IsStrictlySortedBy edge_cmp sides → HasSides sides (neighbours_in_any m faces) → sides ≡ filter is_side (edges m)
  sides_are_kept sides in_order is =
      btree_set_from_contains edge_total (record { keys = sides }) (record { keys = kept }) in_order (IsStrictlySortedBy-filter edge_cmp is_side (edges m) (edges_sorted m)) (λ q. same q.0 q.1) edge_exact
    where
      same : (a b : ℕ) → has_side sides a b ≡ has_side (filter is_side (edges m)) a b
      same a b = both_ways (has_side sides a b) (has_side (filter is_side (edges m)) a b)
          (λ h.
          let both : (nat_lt a b && is_side (a, b)) ≡ true = sym (is a b) ∙ h in
          let side = and_second (nat_lt a b) (is_side (a, b)) both in
          let face = some_passes (λ f. neighbours_at m f a b) faces side in
          let less = ltb-true a b (and_first (nat_lt a b) (is_side (a, b)) both) in
          has_contained (filter is_side (edges m)) a b (in_kept (a, b) ((edge_listed m sound a b).1 (less, side_is_edge m face.0 a b face.1)) side))
          (λ h.
          let two = of_kept (a, b) (contained (filter is_side (edges m)) a b h) in
          is a b ∙ and_both (nat_lt a b) (is_side (a, b)) (lt-ltb a b two.0) two.1)

-- ---- what is near gives all
module _ (m : Mesh) (moves : List Move) (fresh_from : ℕ) (sound : IsSound m) (clear : IsClearWhereUntouched m moves fresh_from) (reach : Option Extent) (reached : ReachesTouched m moves [] fresh_from reach) where
  abbrev w : Motion
  w = motion_by m moves

  abbrev ids : List ℕ
  ids = faces_in_reach m reach

  abbrev near : List MovingFace
  near = filter (λ f. is_face_in_reach m reach f.face) (moving_faces m w)

  abbrev at : ℕ × ℕ → Bool
  at e = neighbours_in_any m ids e.0 e.1

  no_neighbours : (a b : ℕ) → at (a, b) ≡ false → (f : ℕ) (c : Corners) → HasCorners m f c → is_face_in_reach m reach f ≡ true → are_neighbours c a b ≡ false
  no_neighbours a b off f c there h =
      sym (ap (λ o. neighbours_in o a b) there)
      ∙ at_live (λ k. is_face_in_reach m reach k ≡ true → neighbours_at m k a b ≡ false) m.faces f (none_kept (λ k. is_face_in_reach m reach k) (λ k. neighbours_at m k a b) (finite.keys m.faces) off) (ap is_some there) h

  abbrev GivesAll : ℕ × ℕ → Type 0
  GivesAll e =
      (at e ≡ true → needing_among (moving_edge w e.0 e.1) near ≡ needing_among (moving_edge w e.0 e.1) (moving_faces m w))
      × (at e ≡ false → needing_among (moving_edge w e.0 e.1) (moving_faces m w) ≡ [])

  each_edge : (e : ℕ × ℕ) → IsOrderedEdge m e → GivesAll e
  each_edge e is =
      let one : MovingFace → List PairName = λ f. needing_one (moving_edge w e.0 e.1) (Some f) in
      let faces = moving_faces m w in
      let each = all_faces m moves fresh_from clear e.0 e.1 is.0 is.1 reach reached in
      let IsFace : MovingFace → Type 0 = λ f. HasCorners m f.face f.corners × (moving_face w (f.face, f.corners) ≡ f) in (
        λ _. flat_map_kept one one (λ f. is_face_in_reach m reach f.face) faces
            (all_weaker IsFace (λ f. (is_face_in_reach m reach f.face ≡ true → one f ≡ one f) × (is_face_in_reach m reach f.face ≡ false → one f ≡ [])) faces
            (λ f face. (λ _. refl, λ out. none_beyond m moves fresh_from clear e.0 e.1 is.0 is.1 reach reached f face out)) each),
        λ off. flat_map_none one faces
            (all_weaker IsFace (λ f. one f ≡ []) faces (λ f face. none_at_all m moves fresh_from clear e.0 e.1 is.0 is.1 reach reached (no_neighbours e.0 e.1 off) f face) each),
      )

  -- the sides of the faces in reach with these faces
  pub near_gives_all : (sides : List (ℕ × ℕ)) (faces : List MovingFace) → IsStrictlySortedBy edge_cmp sides → HasSides sides (neighbours_in_any m ids) → faces ≡ faces_among m moves ids
      → needing_along w faces sides ≡ needing m w
  near_gives_all sides faces in_order is made =
      ap (λ fs. needing_along w fs sides) (made ∙ faces_of_reach m moves reach)
      ∙ ap (needing_along w near) (sides_are_kept m sound ids sides in_order is)
      ∙ flat_map_kept (λ e. needing_among (moving_edge w e.0 e.1) near) (λ e. needing_among (moving_edge w e.0 e.1) (moving_faces m w)) at (edges m)
      (all_weaker (IsOrderedEdge m) GivesAll (edges m) each_edge (all_edges m sound))
      ∙ along_edges m w
