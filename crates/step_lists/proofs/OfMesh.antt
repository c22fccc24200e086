-- A list among vertices and faces is one of each mesh that has these.
use Rattle.std.proofs.Common.{◌≡◌, ℕ, Bool, true, cond, List, [], ◌∷◌, map, Some, refl, sym, ap, ◌∙◌}
use Rattle.std.specs.List.{filter, All, AllByRecursion, Contains, list_all, list_any}
use Rattle.std.specs.FinMap as finite
use Rattle.std.specs.FinMap.{entries_sorted, get-entries}
use Rattle.std.specs.FinMap.Entries.{find}
use Rattle.std.specs.Ordering.{nat_cmp}
use Rattle.std.proofs.lemmas.List.Elements.{All-from_recursion, recursion_from_All, All-contains_itself}
use Rattle.std.proofs.lemmas.List.Sums.{AllPass-from_list_all, list_all-from_AllPass}
use Rattle.mesh_base.specs.declared.ids.Corners.{Corners}
use Rattle.mesh_base.specs.Mesh.{Mesh}
use Rattle.mesh_base.specs.Pairs.{Pair, IsPair, pairs}
use Rattle.mesh_base.specs.Placements.{Placement}
use Rattle.mesh_base.proofs.Listed.{at_key, each_found}
use Rattle.mesh_base.proofs.ListedPairs.{listed_pairs, all_weaker}
use Rattle.neighbour_list.specs.declared.neighbour_list.NeighbourList.{NeighbourList}
use Rattle.neighbour_list.specs.declared.reference.Reference.{Reference}
use Rattle.neighbour_list.specs.Clusters.{Cluster, AreAt}
use Rattle.neighbour_list.specs.Listed.{listed, is_near_at, IsListOf}
use Rattle.neighbour_list.specs.Near.{is_near}
use Rattle.neighbour_list.proofs.Served.{edge_covered}
use Rattle.step_lists.specs.Among.{Faces, pairs_among, has_vertex, is_covered, place_in, standing, all_standing, IsListAmong}
use Rattle.step_lists.proofs.Covered.{vertex_passes, cover_passes, cover_found, place_found, in_some}

-- ---- what is alike on a list
picked_alike : {X : Type 0} (p q : X → Bool) (xs : List X) → AllByRecursion (λ x. p x ≡ q x) xs → filter p xs ≡ filter q xs
picked_alike p q [] h = refl
picked_alike p q (x ∷ xs) h = λ i. cond (h.0 i) (x ∷ picked_alike p q xs h.1 i) (picked_alike p q xs h.1 i)

-- ---- a function that changes no element changes no list, and the other way round
unmoved : {X : Type 0} (f : X → X) (xs : List X) → AllByRecursion (λ x. x ≡ f x) xs → xs ≡ map f xs
unmoved f [] h = refl
unmoved f (x ∷ xs) h = λ i. h.0 i ∷ unmoved f xs h.1 i

heads : {X : Type 0} (x y : X) (xs ys : List X) → x ∷ xs ≡ y ∷ ys → x ≡ y
heads x y xs ys e = cc

tails : {X : Type 0} (x y : X) (xs ys : List X) → x ∷ xs ≡ y ∷ ys → xs ≡ ys
tails x y xs ys e = cc

each_unmoved : {X : Type 0} (f : X → X) (xs : List X) → xs ≡ map f xs → AllByRecursion (λ x. x ≡ f x) xs
each_unmoved f [] e = tt
each_unmoved f (x ∷ xs) e = (heads x (f x) xs (map f xs) e, each_unmoved f xs (tails x (f x) xs (map f xs) e))

-- ---- a list of a mesh
module _ (m : Mesh) (l : NeighbourList) (h : IsListOf m l) where
  -- the clusters, and the points that are found there
  abbrev own : Placement
  own = place_in l.clusters

  same : (v : ℕ) → list_any (λ refs. has_vertex refs v) l.clusters ≡ true → own v ≡ h.at v
  same v e = place_found h.at l.clusters v (recursion_from_All (AreAt h.at) l.clusters h.references) e

  stands : (refs : Cluster) → Contains l.clusters refs → AreAt h.at refs → (k : Reference) → Contains refs k → k.at ≡ h.at k.v → k ≡ standing own k
  stands refs there ats k inside place =
      let found : list_any (λ refs. has_vertex refs k.v) l.clusters ≡ true = in_some l.clusters k.v (there.0, refs, there.1, there.2, (inside.0, k, inside.1, inside.2, refl)) in
      let at : k.at ≡ own k.v = place ∙ sym (same k.v found) in
      λ i. record { v = k.v; at = at i }

  near_alike : (p : Pair) → IsPair m p → is_near_at l.skin h.at p ≡ is_near_at l.skin own p
  near_alike p is =
      let edge = edge_covered m l.clusters h.covered p.name.a p.name.b is.edge in
      let face = h.covered p.name.face p.corners is.face in
      let a = sym (same p.name.a (in_some l.clusters p.name.a (edge.0, edge.1, edge.2, edge.3, edge.4.0))) in
      let b = sym (same p.name.b (in_some l.clusters p.name.b (edge.0, edge.1, edge.2, edge.3, edge.4.1))) in
      let c = sym (same p.corners.first (in_some l.clusters p.corners.first (face.0, face.1, face.2, face.3, face.4.first))) in
      let d = sym (same p.corners.second (in_some l.clusters p.corners.second (face.0, face.1, face.2, face.3, face.4.second))) in
      let e = sym (same p.corners.third (in_some l.clusters p.corners.third (face.0, face.1, face.2, face.3, face.4.third))) in
      λ i. is_near l.skin (record { a = a i; b = b i; c = c i; d = d i; e = e i })

  all_stand : l.clusters ≡ map (all_standing own) l.clusters
  all_stand =
      let cs = l.clusters in
      unmoved (all_standing own) cs
      (both cs (λ refs. Contains cs refs) (AreAt h.at) (λ refs. refs ≡ all_standing own refs)
      (λ refs there ats. unmoved (standing own) refs
      (both refs (λ k. Contains refs k) (λ k. k.at ≡ h.at k.v) (λ k. k ≡ standing own k) (λ k inside place. stands refs there ats k inside place)
      (recursion_from_All (Contains refs) refs (All-contains_itself refs)) (recursion_from_All (λ k. k.at ≡ h.at k.v) refs ats)))
      (recursion_from_All (Contains cs) cs (All-contains_itself cs)) (recursion_from_All (AreAt h.at) cs h.references))
    where
      both : {X : Type 0} (xs : List X) (P Q R : X → Type 0) → ((x : X) → P x → Q x → R x) → AllByRecursion P xs → AllByRecursion Q xs → AllByRecursion R xs
      both [] P Q R w p q = tt
      both (x ∷ xs) P Q R w p q = (w x p.0 q.0, both xs P Q R w p.1 q.1)

  all_covered : list_all (λ f. is_covered l.clusters f.1) (finite.entries m.faces) ≡ true
  all_covered =
      let es = finite.entries m.faces in
      list_all-from_AllPass (λ f. is_covered l.clusters f.1) es
      (All-from_recursion (λ f. is_covered l.clusters f.1 ≡ true) es
      (all_weaker (λ e. find nat_cmp e.0 es ≡ Some e.1) (λ f. is_covered l.clusters f.1 ≡ true) es
      (λ f found. cover_passes l.clusters f.1 (h.covered f.0 f.1 (get-entries m.faces f.0 ∙ found)))
      (each_found es (entries_sorted m.faces))))

pub listed_among : (m : Mesh) (l : NeighbourList) (ids : List ℕ) (faces : Faces) → ids ≡ finite.keys m.points → faces ≡ finite.entries m.faces → IsListOf m l → IsListAmong ids faces l
listed_among m l ids faces is_ids is h =
    let at = place_in l.clusters in
    let near = picked_alike (is_near_at l.skin h.at) (is_near_at l.skin at) (pairs m)
    (all_weaker (IsPair m) (λ p. is_near_at l.skin h.at p ≡ is_near_at l.skin at p) (pairs m) (near_alike m l h) (listed_pairs m)) in
    record {
      placed = all_stand m l h;
      covered = ap (list_all (λ f. is_covered l.clusters f.1)) is ∙ all_covered m l h;
      pairs = h.pairs ∙ ap (map listed) near
          ∙ (λ i. map listed (filter (is_near_at l.skin at) (pairs_among (sym is_ids i) (sym is i))));
    }

-- ---- and back
pub of_mesh : (m : Mesh) (l : NeighbourList) (ids : List ℕ) (faces : Faces) → finite.keys m.points ≡ ids → finite.entries m.faces ≡ faces → IsListAmong ids faces l → IsListOf m l
of_mesh m l ids faces is_ids is h =
    let cs = l.clusters in
    let at = place_in cs in
    let passes : ℕ × Corners → Type 0 = λ f. is_covered cs f.1 ≡ true in
    let all = recursion_from_All passes (finite.entries m.faces) (AllPass-from_list_all (λ f. is_covered cs f.1) (finite.entries m.faces) (ap (list_all (λ f. is_covered cs f.1)) is ∙ h.covered)) in
    record {
      at = at;
      references = All-from_recursion (AreAt at) cs (all_weaker (λ refs. refs ≡ all_standing at refs) (AreAt at) cs
          (λ refs e. All-from_recursion (λ k. k.at ≡ at k.v) refs
          (all_weaker (λ k. k ≡ standing at k) (λ k. k.at ≡ at k.v) refs (λ k e i. (e i).at) (each_unmoved (standing at) refs e)))
          (each_unmoved (all_standing at) cs h.placed));
      covered = λ f c is_face. cover_found cs c (at_key passes m.faces f c all is_face);
      pairs = h.pairs ∙ (λ i. map listed (filter (is_near_at l.skin at) (pairs_among (sym is_ids i) (sym is i))));
    }
