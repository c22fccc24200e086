-- Clusters by tests, and what these find.
use Rattle.std.proofs.Common.{◌≡◌, ℕ, ◌==◌, ◌&&◌, ◌||◌, Bool, true, false, cond, List, [], ◌∷◌, eq-eqb, refl, sym, ap, ◌∙◌}
use Rattle.std.specs.List.{All, AllByRecursion, Any, list_any}
use Rattle.std.proofs.lemmas.Bool.{and_parts, eqb-true, false≢true}
use Rattle.std.proofs.lemmas.List.Elements.{recursion_from_All}
use Rattle.std.proofs.lemmas.List.Folds.{Any-from_list_any, list_any-from_Any}
use Rattle.mesh_base.specs.declared.ids.Corners.{Corners}
use Rattle.mesh_base.specs.Placements.{Placement}
use Rattle.neighbour_list.specs.Clusters.{Cluster, HasVertex, HasFace, IsCovered, AreAt}
use Rattle.step_lists.specs.Among.{has_vertex, has_face, is_covered, point_in, place_in}

-- ---- the tests are exact
pub vertex_passes : (refs : Cluster) (v : ℕ) → HasVertex refs v → has_vertex refs v ≡ true
vertex_passes refs v h = list_any-from_Any (λ k. k.v == v) refs (h.0, h.1, h.2, h.3, eq-eqb (h.1).v v h.4)

vertex_found : (refs : Cluster) (v : ℕ) → has_vertex refs v ≡ true → HasVertex refs v
vertex_found refs v e =
    let h = Any-from_list_any (λ k. k.v == v) refs e in
    (h.0, h.1, h.2, h.3, eqb-true (h.1).v v h.4)

all_pass : (a b c : Bool) → a ≡ true → b ≡ true → c ≡ true → (a && (b && c)) ≡ true
all_pass a b c e f g = cc

face_passes : (refs : Cluster) (c : Corners) → HasFace refs c → has_face refs c ≡ true
face_passes refs c h =
    all_pass (has_vertex refs c.first) (has_vertex refs c.second) (has_vertex refs c.third)
    (vertex_passes refs c.first h.first) (vertex_passes refs c.second h.second) (vertex_passes refs c.third h.third)

face_found : (refs : Cluster) (c : Corners) → has_face refs c ≡ true → HasFace refs c
face_found refs c e =
    let p = and_parts (has_vertex refs c.first) (has_vertex refs c.second && has_vertex refs c.third) e in
    let q = and_parts (has_vertex refs c.second) (has_vertex refs c.third) p.1 in
    record { first = vertex_found refs c.first p.0; second = vertex_found refs c.second q.0; third = vertex_found refs c.third q.1 }

pub cover_passes : (clusters : List Cluster) (c : Corners) → IsCovered clusters c → is_covered clusters c ≡ true
cover_passes clusters c h = list_any-from_Any (λ refs. has_face refs c) clusters (h.0, h.1, h.2, h.3, face_passes h.1 c h.4)

pub cover_found : (clusters : List Cluster) (c : Corners) → is_covered clusters c ≡ true → IsCovered clusters c
cover_found clusters c e =
    let h = Any-from_list_any (λ refs. has_face refs c) clusters e in
    (h.0, h.1, h.2, h.3, face_found h.1 c h.4)

-- ---- reference points, looked up
later : (a b : Bool) → a ≡ false → (a || b) ≡ true → b ≡ true
later a b e f = cc

point_found : (at : Placement) (refs : Cluster) (v : ℕ) → AllByRecursion (λ k. k.at ≡ at k.v) refs → has_vertex refs v ≡ true → point_in refs v ≡ at v
point_found at [] v h e = absurd (false≢true e)
point_found at (k ∷ refs) v h e = by_test (point_found at refs v h.1) (k.v == v) refl
  where
    by_test : (has_vertex refs v ≡ true → point_in refs v ≡ at v) → (b : Bool) → (k.v == v) ≡ b → cond b k.at (point_in refs v) ≡ at v
    by_test rest true t = h.0 ∙ ap at (eqb-true k.v v t)
    by_test rest false t = rest (later (k.v == v) (has_vertex refs v) t e)

-- a vertex that is in a cluster is found at its point
pub place_found : (at : Placement) (clusters : List Cluster) (v : ℕ) → AllByRecursion (AreAt at) clusters → list_any (λ refs. has_vertex refs v) clusters ≡ true → place_in clusters v ≡ at v
place_found at [] v h e = absurd (false≢true e)
place_found at (refs ∷ rest) v h e = by_test (place_found at rest v h.1) (has_vertex refs v) refl
  where
    by_test : (list_any (λ refs. has_vertex refs v) rest ≡ true → place_in rest v ≡ at v) → (b : Bool) → has_vertex refs v ≡ b → cond b (point_in refs v) (place_in rest v) ≡ at v
    by_test others true t = point_found at refs v (recursion_from_All (λ k. k.at ≡ at k.v) refs h.0) t
    by_test others false t = others (later (has_vertex refs v) (list_any (λ refs. has_vertex refs v) rest) t e)

pub in_some : (clusters : List Cluster) (v : ℕ) → Any (λ refs. HasVertex refs v) clusters → list_any (λ refs. has_vertex refs v) clusters ≡ true
in_some clusters v h = list_any-from_Any (λ refs. has_vertex refs v) clusters (h.0, h.1, h.2, h.3, vertex_passes h.1 v h.4)
