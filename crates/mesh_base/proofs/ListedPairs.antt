-- The list of pairs has each pair and no more; so has the list of edges.
use Rattle.std.proofs.Common.{◌≡◌, ℕ, ◌<◌, ◌+◌, Bool, true, false, not, ◌||◌, List, [], ◌∷◌, ◌++◌, map, Some, cond, nat_lt, ◌↔◌, refl, ◌∙◌}
use Rattle.std.specs.List.{filter, flat_map, AllByRecursion, Contains}
use Rattle.std.specs.Ordering.{nat_cmp}
use Rattle.std.specs.FinMap as finite
use Rattle.std.specs.FinMap.{entries_sorted, get-entries}
use Rattle.std.specs.FinMap.Entries.{find}
use Rattle.std.proofs.lemmas.Bool.{false≢true, ltb-true, lt-ltb}
use Rattle.std.proofs.lemmas.List.Elements.{All-from_recursion, recursion_from_All, All-contains_itself, All-contains}
use Rattle.mesh_base.specs.declared.ids.Corners.{Corners}
use Rattle.mesh_base.specs.Mesh.{Mesh, IsSound, HasCorners}
use Rattle.mesh_base.specs.Sides.{has_corner, runs, IsEdge}
use Rattle.mesh_base.specs.Pairs.{Pair, IsPair, is_edge, id_pairs, edges, pairs_of, pairs}
use Rattle.mesh_base.proofs.Listed.{listed, each_found, all_flat_map, all_map, all_filter, at_live, edge_live}

-- ---- what holds of each element that a list is made of
pub all_joined : {X : Type 0} (P : X → Type 0) (xs ys : List X) → AllByRecursion P xs → AllByRecursion P ys → AllByRecursion P (xs ++ ys)
all_joined P [] ys h h' = h'
all_joined P (x ∷ xs) ys h h' = (h.0, all_joined P xs ys h.1 h')

pub all_flat_mapped : {X Y : Type 0} (P : Y → Type 0) (f : X → List Y) (xs : List X) → AllByRecursion (λ x. AllByRecursion P (f x)) xs → AllByRecursion P (flat_map f xs)
all_flat_mapped P f [] h = tt
all_flat_mapped P f (x ∷ xs) h = all_joined P (f x) (flat_map f xs) h.0 (all_flat_mapped P f xs h.1)

pub all_mapped : {X Y : Type 0} (P : Y → Type 0) (f : X → Y) (xs : List X) → AllByRecursion (λ x. P (f x)) xs → AllByRecursion P (map f xs)
all_mapped P f [] h = tt
all_mapped P f (x ∷ xs) h = (h.0, all_mapped P f xs h.1)

pub all_filtered : {X : Type 0} (P : X → Type 0) (test : X → Bool) (xs : List X) → AllByRecursion (λ x. test x ≡ true → P x) xs → AllByRecursion P (filter test xs)
all_filtered P test [] h = tt
all_filtered P test (x ∷ xs) h = by_test (all_filtered P test xs h.1) (test x) refl
  where
    by_test : AllByRecursion P (filter test xs) → (b : Bool) → test x ≡ b → AllByRecursion P (cond b (x ∷ filter test xs) (filter test xs))
    by_test rest true e = (h.0 e, rest)
    by_test rest false e = rest

pub all_weaker : {X : Type 0} (P Q : X → Type 0) (xs : List X) → ((x : X) → P x → Q x) → AllByRecursion P xs → AllByRecursion Q xs
all_weaker P Q [] w h = tt
all_weaker P Q (x ∷ xs) w h = (w x h.0, all_weaker P Q xs w h.1)

pub all_always : {X : Type 0} (P : X → Type 0) (xs : List X) → ((x : X) → P x) → AllByRecursion P xs
all_always P [] w = tt
all_always P (x ∷ xs) w = (w x, all_always P xs w)

-- ---- edges
listed_edges : (m : Mesh) → AllByRecursion (λ e. (e.0 < e.1) × IsEdge m e.0 e.1) (edges m)
listed_edges m =
    let ids = finite.keys m.points in
    all_filtered (λ e. (e.0 < e.1) × IsEdge m e.0 e.1) (λ e. is_edge m e.0 e.1) (id_pairs ids)
    (all_flat_mapped (λ e. is_edge m e.0 e.1 ≡ true → (e.0 < e.1) × IsEdge m e.0 e.1) (λ u. map (λ v. (u, v)) (filter (λ v. nat_lt u v) ids)) ids
    (all_always (λ u. AllByRecursion (λ e. is_edge m e.0 e.1 ≡ true → (e.0 < e.1) × IsEdge m e.0 e.1) (map (λ v. (u, v)) (filter (λ v. nat_lt u v) ids))) ids
    (λ u. all_mapped (λ e. is_edge m e.0 e.1 ≡ true → (e.0 < e.1) × IsEdge m e.0 e.1) (λ v. (u, v)) (filter (λ v. nat_lt u v) ids)
    (all_filtered (λ v. is_edge m u v ≡ true → (u < v) × IsEdge m u v) (λ v. nat_lt u v) ids
    (all_always (λ v. nat_lt u v ≡ true → is_edge m u v ≡ true → (u < v) × IsEdge m u v) ids
    (λ v less edge. (ltb-true u v less, ltb-true 0 (runs m u v + runs m v u) edge)))))))

-- what holds of each listed edge holds of every edge
every_edge : (m : Mesh) (P : ℕ × ℕ → Type 0) → IsSound m → AllByRecursion P (edges m) → (u v : ℕ) → u < v → IsEdge m u v → P (u, v)
every_edge m P sound h u v less edge =
    let ids = finite.keys m.points in
    let live = edge_live m u v sound edge in
    let of_edge : ℕ × ℕ → Type 0 = λ e. is_edge m e.0 e.1 ≡ true → P e in
    let by_first = at_live (λ a. AllByRecursion of_edge (map (λ b. (a, b)) (filter (λ b. nat_lt a b) ids))) m.points u
    (all_flat_map of_edge (λ a. map (λ b. (a, b)) (filter (λ b. nat_lt a b) ids)) ids (all_filter P (λ e. is_edge m e.0 e.1) (id_pairs ids) h)) live.0 in
    at_live (λ b. nat_lt u b ≡ true → of_edge (u, b)) m.points v
    (all_filter (λ b. of_edge (u, b)) (λ b. nat_lt u b) ids (all_map of_edge (λ b. (u, b)) (filter (λ b. nat_lt u b) ids) by_first)) live.1
    (lt-ltb u v less) (lt-ltb 0 (runs m u v + runs m v u) edge)

pub edge_listed : (m : Mesh) → IsSound m → (u v : ℕ) → Contains (edges m) (u, v) ↔ ((u < v) × IsEdge m u v)
edge_listed m sound u v = (
  All-contains (λ e. (e.0 < e.1) × IsEdge m e.0 e.1) (edges m) (u, v) (All-from_recursion (λ e. (e.0 < e.1) × IsEdge m e.0 e.1) (edges m) (listed_edges m)),
  λ is. every_edge m (Contains (edges m)) sound (recursion_from_All (Contains (edges m)) (edges m) (All-contains_itself (edges m))) u v is.0 is.1,
)

-- ---- pairs
not_either : (a b : Bool) → not (a || b) ≡ true → (a ≡ false) × (b ≡ false)
not_either false false e = (refl, refl)
not_either false true e = absurd (false≢true e)
not_either true b e = absurd (false≢true e)

-- each of the list is a pair
pub listed_pairs : (m : Mesh) → AllByRecursion (IsPair m) (pairs m)
listed_pairs m = all_flat_mapped (IsPair m) (λ e. pairs_of m e) (edges m) (all_weaker (λ e. (e.0 < e.1) × IsEdge m e.0 e.1) (λ e. AllByRecursion (IsPair m) (pairs_of m e)) (edges m) of_edge (listed_edges m))
  where
    faces : List (ℕ × Corners)
    faces = finite.entries m.faces

    found : AllByRecursion (λ f. HasCorners m f.0 f.1) faces
    found = all_weaker (λ f. find nat_cmp f.0 faces ≡ Some f.1) (λ f. HasCorners m f.0 f.1) faces (λ f h. get-entries m.faces f.0 ∙ h) (each_found faces (entries_sorted m.faces))

    of_edge : (e : ℕ × ℕ) → (e.0 < e.1) × IsEdge m e.0 e.1 → AllByRecursion (IsPair m) (pairs_of m e)
    of_edge e is =
        all_mapped (IsPair m) (λ f. record { name = record { a = e.0; b = e.1; face = f.0 }; corners = f.1 }) (filter (λ f. not (has_corner f.1 e.0 || has_corner f.1 e.1)) faces)
        (all_filtered (λ f. IsPair m (record { name = record { a = e.0; b = e.1; face = f.0 }; corners = f.1 })) (λ f. not (has_corner f.1 e.0 || has_corner f.1 e.1)) faces
        (all_weaker (λ f. HasCorners m f.0 f.1) (λ f. not (has_corner f.1 e.0 || has_corner f.1 e.1) ≡ true → IsPair m (record { name = record { a = e.0; b = e.1; face = f.0 }; corners = f.1 })) faces
        (λ f there apart. record {
          ordered = is.0;
          edge = is.1;
          face = there;
          not_first = (not_either (has_corner f.1 e.0) (has_corner f.1 e.1) apart).0;
          not_second = (not_either (has_corner f.1 e.0) (has_corner f.1 e.1) apart).1;
        })
        found))

pub pair_listed : (m : Mesh) → IsSound m → (p : Pair) → Contains (pairs m) p ↔ IsPair m p
pair_listed m sound p = (
  All-contains (IsPair m) (pairs m) p (All-from_recursion (IsPair m) (pairs m) (listed_pairs m)),
  λ is. listed m (Contains (pairs m)) sound (recursion_from_All (Contains (pairs m)) (pairs m) (All-contains_itself (pairs m))) p is,
)
