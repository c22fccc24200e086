-- The pairs that do not pass are all listed, where the vertices drift alike.
use Rattle.std.proofs.Common.{◌≡◌, ℕ, Bool, true, false, cond, not, List, [], ◌∷◌, ◌++◌, map, Some, None, refl, sym, ap, ◌∙◌}
use Rattle.std.specs.List.{filter, All, AllByRecursion}
use Rattle.std.proofs.lemmas.Bool.{false≢true}
use Rattle.std.proofs.lemmas.List.Elements.{All-from_recursion}
use Rattle.grid_base.proofs.Reflected.{of_passes}
use Rattle.grid_decided.specs.Decided.{meets_exactly, meets_exactly-is_exact}
use Rattle.mesh_base.specs.Failing.{pair_passes}
use Rattle.mesh_base.specs.Mesh.{Mesh, HasCorners}
use Rattle.mesh_base.specs.Pairs.{Pair, IsPair, pairs}
use Rattle.mesh_base.specs.Placements.{Placement, Motion, positions, rest_positions, IsClearMesh}
use Rattle.mesh_base.proofs.ListedPairs.{listed_pairs, all_weaker, all_mapped, all_filtered}
use Rattle.pair_scan.specs.Failed.{failing_of}
use Rattle.pair_scan.specs.Scan.{one_or_none}
use Rattle.mesh_base.specs.declared.ids.Corners.{Corners}
use Rattle.pair_paths.specs.declared.Frame.{Frame}
use Rattle.neighbour_list.specs.declared.listed.ListedPair.{ListedPair}
use Rattle.neighbour_list.specs.Listed.{IsApart, listed, is_near_at, failing_in}
use Rattle.neighbour_list.specs.Clusters.{Cluster, AreAt, IsCovered, ClustersServe}
use Rattle.neighbour_list.proofs.Served.{passes_served}

-- ---- the names of listed pairs
pub as_pairs : (depth : ℕ) (w : Motion) (ps : List Pair) → failing_in depth w (map listed ps) ≡ failing_of depth w ps
as_pairs depth w [] = refl
as_pairs depth w (p ∷ ps) = by_test (as_pairs depth w ps) (not (pair_passes meets_exactly depth w p))
  where
    by_test : failing_in depth w (map listed ps) ≡ failing_of depth w ps → (b : Bool) → one_or_none (cond b (Some p.name) None) ++ failing_in depth w (map listed ps)
        ≡ map (λ x. x.name) (cond b (p ∷ filter (λ x. not (pair_passes meets_exactly depth w x)) ps) (filter (λ x. not (pair_passes meets_exactly depth w x)) ps))
    by_test rest true = ap (λ ns. p.name ∷ ns) rest
    by_test rest false = rest

-- ---- two picks, one after the other
pub picked_again : {X : Type 0} (near fails : X → Bool) (xs : List X) → AllByRecursion (λ x. near x ≡ false → fails x ≡ false) xs → filter fails (filter near xs) ≡ filter fails xs
picked_again near fails [] h = refl
picked_again {X} near fails (x ∷ xs) h = by_tests (picked_again near fails xs h.1) (near x) (fails x) refl refl
  where
    by_tests : filter fails (filter near xs) ≡ filter fails xs → (a b : Bool) → near x ≡ a → fails x ≡ b → filter fails (cond a (x ∷ filter near xs) (filter near xs)) ≡ cond b (x ∷ filter fails xs) (filter fails xs)
    by_tests rest true b s t = ap (λ q. cond q (x ∷ filter fails (filter near xs)) (filter fails (filter near xs))) t ∙ ap (λ ys. cond b (x ∷ ys) ys) rest
    by_tests rest false false s t = rest
    by_tests rest false true s t = absurd (false≢true (sym (h.0 s) ∙ t))

-- ---- the listed pairs of a clear mesh do not meet
pub listed_apart : (m : Mesh) (at : Placement) (skin : ℕ) → IsClearMesh m → All (IsApart (rest_positions m)) (map listed (filter (is_near_at skin at) (pairs m)))
listed_apart m at skin clear =
    let apart : ListedPair → Type 0 = IsApart (rest_positions m) in
    All-from_recursion apart (map listed (filter (is_near_at skin at) (pairs m)))
    (all_mapped apart listed (filter (is_near_at skin at) (pairs m))
    (all_filtered (λ p. apart (listed p)) (is_near_at skin at) (pairs m)
    (all_weaker (IsPair m) (λ p. is_near_at skin at p ≡ true → apart (listed p)) (pairs m) (λ p is near. clear p is) (listed_pairs m))))

-- ---- so the pairs that do not pass are listed
pub by_list : (m : Mesh) (at : Placement) (frame : Frame) (w : Motion) (skin depth : ℕ) (clusters : List Cluster) → All (AreAt at) clusters → ((f : ℕ) (c : Corners) → HasCorners m f c → IsCovered clusters c) → ClustersServe skin frame w clusters
    → failing_in depth w (map listed (filter (is_near_at skin at) (pairs m))) ≡ failing_of depth w (pairs m)
by_list m at frame w skin depth clusters ats covered serve =
    let fails : Pair → Bool = λ p. not (pair_passes meets_exactly depth w p) in
    as_pairs depth w (filter (is_near_at skin at) (pairs m))
    ∙ ap (map (λ p. p.name)) (picked_again (is_near_at skin at) fails (pairs m)
    (all_weaker (IsPair m) (λ p. is_near_at skin at p ≡ false → fails p ≡ false) (pairs m)
    (λ p is off. ap not (of_passes meets_exactly meets_exactly-is_exact depth (positions w.start p) (positions w.end p)
    (passes_served m skin at frame w clusters ats covered serve p is off depth)))
    (listed_pairs m)))
