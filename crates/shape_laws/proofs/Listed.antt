-- The vertices that have a face, and the edges, told by faces.
use Rattle.std.proofs.Common.{◌≡◌, ◌⊎◌, ℕ, ◌<◌, Bool, true, length, inl, inr, ⊎_elim, sym, subst, ap, ◌∙◌, arith}
use Rattle.std.proofs.lemmas.Bool.{ltb-true, lt-ltb}
use Rattle.std.specs.Ordering.{ordering_then, nat_cmp}
use Rattle.std.specs.declared.cmp.Ordering.TheVariants.{Equal}
use Rattle.std.specs.FinMap as finite
use Rattle.std.specs.FinMap.{entries_sorted}
use Rattle.std.proofs.lemmas.List.Kept.{IsStrictlySortedBy-filter}
use Rattle.mesh_base.specs.declared.ids.Corners.{Corners}
use Rattle.mesh_base.specs.Mesh.{Mesh, IsSound, HasCorners}
use Rattle.mesh_base.specs.Sides.{has_corner, follows, faces_at, runs, IsEdge}
use Rattle.mesh_base.specs.SideList.{edge_cmp}
use Rattle.mesh_base.specs.Pairs.{edges}
use Rattle.mesh_base.proofs.Listed.{running_face}
use Rattle.mesh_base.proofs.ListedPairs.{edge_listed}
use Rattle.mesh_base.proofs.InOrder.{keys_sorted, edges_sorted}
use Rattle.edit_base.specs.Edges.{corners_at}
use Rattle.edit_base.proofs.Chains.{Has, passed, passes}
use Rattle.edit_acts.proofs.FaceCorners.{runs_there, either_way}
use Rattle.mesh_measure.specs.Shape.{has_face, faced_ids}
use Rattle.mesh_measure.proofs.Around.{around_has, around_live, corners_there, face_listed, listed_passes}
use Rattle.shape_laws.proofs.Lists.{In, AllDiffer}
use Rattle.shape_laws.proofs.Numbers.{has_in, in_has, some_there, has_some, contains_in, in_contains, differ_sorted, number_tied}
use Rattle.shape_laws.proofs.Chained.{Holds, IsFaced}

-- ---- vertices
module _ (m : Mesh) where
  abbrev test : ℕ → Bool
  test v = has_face m v

  pub faced_in : IsSound m → (v : ℕ) → IsFaced m v → In (faced_ids m) v
  faced_in sound v faced =
      let c = faced.0 in
      let f = (faced.1).0 in
      let h : HasCorners m f c = (faced.1).1 in
      let same = corners_there m f c h in
      let at : has_corner (corners_at m f) v ≡ true = subst (λ k. has_corner k v ≡ true) (sym same) faced.2 in
      let here : HasCorners m f (corners_at m f) = subst (HasCorners m f) (sym same) h in
      let live : Has (finite.keys m.points) v = around_live m sound v v (around_has m f v v here at at) in
      let some : 0 < length (faces_at m v) = has_some (faces_at m v) f (face_listed m (λ k. has_corner k v) f c h faced.2) in
      in_has (faced_ids m) v (passes test (finite.keys m.points) v live (lt-ltb 0 (length (faces_at m v)) some))

  pub in_faced : (v : ℕ) → In (faced_ids m) v → IsFaced m v
  in_faced v i =
      let at = passed test (finite.keys m.points) v (has_in (faced_ids m) v i) in
      let f = some_there (faces_at m v) (ltb-true 0 (length (faces_at m v)) at.1) in
      let is = listed_passes m (λ k. has_corner k v) f.0 f.1 in
      (corners_at m f.0, (f.0, is.0), is.1)

  pub faced_differ : AllDiffer (faced_ids m)
  faced_differ = differ_sorted nat_cmp number_tied (faced_ids m) (IsStrictlySortedBy-filter nat_cmp test (finite.keys m.points) (keys_sorted (finite.entries m.points) (entries_sorted m.points)))

-- ---- edges
-- in some face v follows u
abbrev pub HasSide : Mesh → ℕ → ℕ → Type 0
HasSide m u v = (c : Corners) × Holds m c × (follows c u v ≡ true)

-- in some face one of the two follows the other
abbrev pub AreSided : Mesh → ℕ → ℕ → Type 0
AreSided m u v = HasSide m u v ⊎ HasSide m v u

tied_edge : (e : ℕ × ℕ) → edge_cmp e e ≡ Equal
tied_edge e = ap (λ o. ordering_then o (nat_cmp e.1 e.1)) (number_tied e.0) ∙ number_tied e.1

module _ (m : Mesh) where
  some_run : (u v : ℕ) → HasSide m u v → 0 < runs m u v
  some_run u v side = runs_there m (side.1).0 side.0 u v (side.1).1 side.2

  run_side : (u v : ℕ) → 0 < runs m u v → HasSide m u v
  run_side u v some = let face = running_face m u v some in ((face.0).1, ((face.0).0, face.2), face.1)

  is_edge : (u v : ℕ) → AreSided m u v → IsEdge m u v
  is_edge u v sided = ⊎_elim (λ one. let some = some_run u v one in omega (arith, some)) (λ one. let some = some_run v u one in omega (arith, some)) sided

  pub edge_in : IsSound m → (u v : ℕ) → u < v → AreSided m u v → In (edges m) (u, v)
  edge_in sound u v less sided = in_contains (edges m) (u, v) ((edge_listed m sound u v).1 (less, is_edge u v sided))

  pub in_edge : IsSound m → (u v : ℕ) → In (edges m) (u, v) → (u < v) × AreSided m u v
  in_edge sound u v i =
      let is = (edge_listed m sound u v).0 (contains_in (edges m) (u, v) i) in
      (is.0, ⊎_elim (λ some. inl (run_side u v some)) (λ some. inr (run_side v u some)) (either_way (runs m u v) (runs m v u) is.1))

  pub edges_differ : AllDiffer (edges m)
  edges_differ = differ_sorted edge_cmp tied_edge (edges m) (edges_sorted m)
