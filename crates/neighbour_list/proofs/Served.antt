-- A pair that is not near passes, where its clusters serve.
use Rattle.std.proofs.Common.{◌≡◌, ⊎_elim, ◌⊎◌, ℕ, zero, suc, ◌+◌, ◌<◌, true, false, ◌&&◌, ◌||◌, ◌==◌, List, [], ◌∷◌, length, get_or, Some, inl, inr, refl, sym, subst, arith}
use Rattle.std.specs.Prelude.{slice_get}
use Rattle.std.specs.List.{All, Any, Contains}
use Rattle.std.proofs.lemmas.Bool.{and_parts, or_cases, eqb-true}
use Rattle.std.proofs.lemmas.List.Elements.{All-from_recursion, All-contains_itself, All-contains}
use Rattle.std.proofs.lemmas.Option.{slice_get_read, slice_get_within}
use Rattle.grid_base.specs.Extents.{IsIn, overlaps}
use Rattle.grid_base.specs.Separation.{Passes}
use Rattle.mesh_base.specs.declared.ids.Corners.{Corners}
use Rattle.mesh_base.specs.Mesh.{Mesh, HasCorners}
use Rattle.mesh_base.specs.Pairs.{Pair, IsPair, five_ids}
use Rattle.mesh_base.specs.Placements.{Placement, Motion, positions}
use Rattle.mesh_base.specs.Sides.{IsEdge, follows, runs}
use Rattle.mesh_base.proofs.Listed.{running_face}
use Rattle.pair_paths.specs.declared.Frame.{Frame}
use Rattle.pair_paths.specs.Bounds.{AreBoxesOf}
use Rattle.pair_paths.specs.Paths.{path_along}
use Rattle.pair_paths.proofs.Apart.{passes_apart_seen}
use Rattle.neighbour_list.specs.declared.cluster_boxes.ClusterBoxes.{ClusterBoxes}
use Rattle.neighbour_list.specs.declared.reference.Reference.{Reference}
use Rattle.neighbour_list.specs.Clusters.{Cluster, HasVertex, HasFace, IsCovered, AreAt, HoldsWay, HoldsCluster, AreNarrowTogether, BoxesServe, ClustersServe}
use Rattle.neighbour_list.specs.Drift.{drift}
use Rattle.neighbour_list.specs.Listed.{is_near_at}
use Rattle.neighbour_list.proofs.Alike.{alike}
use Rattle.neighbour_list.proofs.Apart.{passes_unlisted}

-- ---- the ends of an edge are in a cluster
module _ (refs : Cluster) (c : Corners) (h : HasFace refs c) where
  moved_to : (a b : ℕ) → (a == b) ≡ true → HasVertex refs a → HasVertex refs b
  moved_to a b e k = subst (HasVertex refs) (eqb-true a b e) k

  both_of : (a b u v : ℕ) → HasVertex refs a → HasVertex refs b → ((a == u) && (b == v)) ≡ true → HasVertex refs u × HasVertex refs v
  both_of a b u v ha hb e = let p = and_parts (a == u) (b == v) e in (moved_to a u p.0 ha, moved_to b v p.1 hb)

  has_ends : (u v : ℕ) → follows c u v ≡ true → HasVertex refs u × HasVertex refs v
  has_ends u v e = ⊎_elim
      (λ two. ⊎_elim
      (λ one. both_of c.first c.second u v h.first h.second one)
      (λ other. both_of c.second c.third u v h.second h.third other)
      (or_cases (c.first == u && c.second == v) (c.second == u && c.third == v) two))
      (λ third. both_of c.third c.first u v h.third h.first third)
      (or_cases ((c.first == u && c.second == v) || (c.second == u && c.third == v)) (c.third == u && c.first == v) e)

pub edge_covered : (m : Mesh) (clusters : List Cluster) → ((f : ℕ) (c : Corners) → HasCorners m f c → IsCovered clusters c) → (u v : ℕ) → IsEdge m u v → Any (λ refs. HasVertex refs u × HasVertex refs v) clusters
edge_covered m clusters covered u v edge = ⊎_elim
    (λ some. let face = running_face m u v some in let in_one = covered (face.0).0 (face.0).1 face.2 in
    (in_one.0, in_one.1, in_one.2, in_one.3, has_ends in_one.1 (face.0).1 in_one.4 u v face.1))
    (λ some. let face = running_face m v u some in let in_one = covered (face.0).0 (face.0).1 face.2 in
    let two = has_ends in_one.1 (face.0).1 in_one.4 v u face.1 in
    (in_one.0, in_one.1, in_one.2, in_one.3, (two.1, two.0)))
    (either (runs m u v) (runs m v u) edge)
  where
    either : (a b : ℕ) → 0 < a + b → (0 < a) ⊎ (0 < b)
    either zero b h = inr (omega arith)
    either (suc a) b h = inl (omega arith)

-- what is found at a place is read there
some_read : {X : Type 0} (xs : List X) (k : ℕ) (x : X) → slice_get xs k ≡ Some x → get_or xs k x ≡ x
some_read [] k x e = cc
some_read (y ∷ ys) zero x e = cc
some_read (y ∷ ys) (suc k) x e = some_read ys k x e

-- ---- what the boxes of a cluster have of a vertex
module _ (frame : Frame) (w : Motion) (at : Placement) where
  -- the reference of a vertex
  abbrev here : ℕ → Reference
  here v = record { v = v; at = at v }

  vertex_held : (refs : Cluster) (v : ℕ) (b : ClusterBoxes) → HasVertex refs v → AreAt at refs → HoldsCluster frame w refs b → HoldsWay frame (path_along w v) (here v) b
  vertex_held refs v b has ats held =
      let k = has.1 in
      let one : Contains refs k = (has.0, has.2, has.3) in
      let own : HoldsWay frame (path_along w k.v) k b = All-contains (λ x. HoldsWay frame (path_along w x.v) x b) refs k held one in
      let place : k.at ≡ at k.v = All-contains (λ x. x.at ≡ at x.v) refs k ats one in
      let there : HoldsWay frame (path_along w k.v) (here k.v) b = subst (λ t. HoldsWay frame (path_along w k.v) (record { v = k.v; at = t }) b) place own in
      subst (λ x. HoldsWay frame (path_along w x) (here x) b) has.4 there

  -- the box of a cluster
  boxed : (clusters : List Cluster) (boxes : List ClusterBoxes) (P : ClusterBoxes → Type 0) → AreBoxesOf (HoldsCluster frame w) clusters boxes → All P boxes → (refs : Cluster) → Contains clusters refs → (b : ClusterBoxes) × HoldsCluster frame w refs b × P b
  boxed clusters boxes P held all refs there =
      let found = slice_get_read clusters (length clusters) there.0 refs refl there.1 (sym there.2) in
      let its = held.boxed there.0 refs found in
      let inside = slice_get_within boxes there.0 its.0 its.1.0 in
      (its.0, its.1.1, All-contains P boxes its.0 all (there.0, inside, some_read boxes there.0 its.0 its.1.0))

  module _ (skin : ℕ) (p : Pair) (off : is_near_at skin at p ≡ false) (a b : ClusterBoxes)
      (ha : HoldsWay frame (path_along w p.name.a) (here p.name.a) a) (hb : HoldsWay frame (path_along w p.name.b) (here p.name.b) a)
      (hc : HoldsWay frame (path_along w p.corners.first) (here p.corners.first) b) (hd : HoldsWay frame (path_along w p.corners.second) (here p.corners.second) b) (he : HoldsWay frame (path_along w p.corners.third) (here p.corners.third) b) where
    far : overlaps b.swept a.swept ≡ false → (depth : ℕ) → Passes depth (positions w.start p) (positions w.end p)
    far apart depth = passes_apart_seen depth a.swept b.swept frame.end (positions w.start p) (positions w.end p)
        (record { a = ha.swept.start; b = hb.swept.start; c = hc.swept.start; d = hd.swept.start; e = he.swept.start })
        (record { a = ha.swept.end; b = hb.swept.end; c = hc.swept.end; d = hd.swept.end; e = he.swept.end })
        apart

    together : AreNarrowTogether skin b.start a.start → AreNarrowTogether skin b.end a.end → (depth : ℕ) → Passes depth (positions w.start p) (positions w.end p)
    together start end depth = passes_unlisted skin at w (five_ids p) p (All-contains_itself (five_ids p)) off
        (alike skin at w.start (five_ids p) start.box start.narrow (All-from_recursion (λ v. IsIn start.box (drift at w.start v)) (five_ids p)
        (start.second _ ha.start, (start.second _ hb.start, (start.first _ hc.start, (start.first _ hd.start, (start.first _ he.start, tt)))))))
        (alike skin at w.end (five_ids p) end.box end.narrow (All-from_recursion (λ v. IsIn end.box (drift at w.end v)) (five_ids p)
        (end.second _ ha.end, (end.second _ hb.end, (end.first _ hc.end, (end.first _ hd.end, (end.first _ he.end, tt)))))))
        depth

    served : BoxesServe skin b a → (depth : ℕ) → Passes depth (positions w.start p) (positions w.end p)
    served h depth = ⊎_elim (λ apart. far apart depth) (λ alike. together alike.0 alike.1 depth) h

-- ---- a pair of the mesh that is not near passes
pub passes_served : (m : Mesh) (skin : ℕ) (at : Placement) (frame : Frame) (w : Motion) (clusters : List Cluster) → All (AreAt at) clusters → ((f : ℕ) (c : Corners) → HasCorners m f c → IsCovered clusters c) → ClustersServe skin frame w clusters
    → (p : Pair) → IsPair m p → is_near_at skin at p ≡ false → (depth : ℕ) → Passes depth (positions w.start p) (positions w.end p)
passes_served m skin at frame w clusters ats covered serve p is off depth =
    let face = covered p.name.face p.corners is.face in
    let edge = edge_covered m clusters covered p.name.a p.name.b is.edge in
    let of_face : Contains clusters face.1 = (face.0, face.2, face.3) in
    let of_edge : Contains clusters edge.1 = (edge.0, edge.2, edge.3) in
    let face_at = All-contains (AreAt at) clusters face.1 ats of_face in
    let edge_at = All-contains (AreAt at) clusters edge.1 ats of_edge in
    let b = boxed frame w at clusters serve.boxes (λ x. All (BoxesServe skin x) serve.boxes) serve.held serve.serve face.1 of_face in
    let a = boxed frame w at clusters serve.boxes (BoxesServe skin b.0) serve.held b.2 edge.1 of_edge in
    served frame w at skin p off a.0 b.0
    (vertex_held frame w at edge.1 p.name.a a.0 edge.4.0 edge_at a.1) (vertex_held frame w at edge.1 p.name.b a.0 edge.4.1 edge_at a.1)
    (vertex_held frame w at face.1 p.corners.first b.0 face.4.first face_at b.1) (vertex_held frame w at face.1 p.corners.second b.0 face.4.second face_at b.1) (vertex_held frame w at face.1 p.corners.third b.0 face.4.third face_at b.1)
    a.2 depth
