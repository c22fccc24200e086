-- A list of near pairs by the vertices and faces of which it was made, with no word of a mesh.
use Rattle.std.specs.Prelude.{◌≡◌, ℕ, ◌+◌, ◌==◌, ◌&&◌, ◌||◌, Bool, true, not, cond, List, [], ◌∷◌, map, length, nat_lt}
use Rattle.std.specs.List.{filter, flat_map, list_all, list_any}
use Rattle.mesh_base.specs.declared.ids.Corners.{Corners}
use Rattle.mesh_base.specs.Pairs.{Pair, id_pairs}
use Rattle.mesh_base.specs.Placements.{Placement, origin}
use Rattle.mesh_base.specs.Sides.{follows, has_corner, ids_where}
use Rattle.neighbour_list.specs.declared.neighbour_list.NeighbourList.{NeighbourList}
use Rattle.neighbour_list.specs.declared.reference.Reference.{Reference}
use Rattle.neighbour_list.specs.Clusters.{Cluster}
use Rattle.neighbour_list.specs.Listed.{listed, is_near_at}

-- faces by their ids and corners, rising
abbrev pub Faces : Type 0
Faces = List (ℕ × Corners)

-- ---- the pairs of a mesh with these vertices and faces
abbrev pub runs_among : Faces → ℕ → ℕ → ℕ
runs_among faces u v = length (ids_where (λ c. follows c u v) faces)

-- the edges of these faces between these vertices, in order
abbrev pub edges_among : List ℕ → Faces → List (ℕ × ℕ)
edges_among ids faces =
    filter (λ e. nat_lt 0 (runs_among faces e.0 e.1 + runs_among faces e.1 e.0)) (id_pairs ids)

-- the pairs of an edge with the faces that have neither of its ends
abbrev pub pairs_with : Faces → ℕ × ℕ → List Pair
pairs_with faces e =
    map (λ f. record { name = record { a = e.0; b = e.1; face = f.0 }; corners = f.1 })
    (filter (λ f. not (has_corner f.1 e.0 || has_corner f.1 e.1)) faces)

-- all pairs of these vertices and faces, in order
abbrev pub pairs_among : List ℕ → Faces → List Pair
pairs_among ids faces = flat_map (λ e. pairs_with faces e) (edges_among ids faces)

-- ---- clusters, by tests
-- whether the vertex is in the cluster
abbrev pub has_vertex : Cluster → ℕ → Bool
has_vertex refs v = list_any (λ k. k.v == v) refs

-- whether the corners of a face are
abbrev pub has_face : Cluster → Corners → Bool
has_face refs c = has_vertex refs c.first && (has_vertex refs c.second && has_vertex refs c.third)

-- whether some cluster has the corners of the face
abbrev pub is_covered : List Cluster → Corners → Bool
is_covered clusters c = list_any (λ refs. has_face refs c) clusters

-- ---- reference points
-- that of a vertex in a cluster, the origin where it has none
abbrev pub point_in : Cluster → Placement
point_in [] v = origin
point_in (k ∷ rest) v = cond (k.v == v) k.at (point_in rest v)

-- that in the first cluster that has the vertex
abbrev pub place_in : List Cluster → Placement
place_in [] v = origin
place_in (refs ∷ rest) v = cond (has_vertex refs v) (point_in refs v) (place_in rest v)

-- a vertex, and the vertices of a cluster, with reference points where they stand
abbrev pub standing : Placement → Reference → Reference
standing at k = record { v = k.v; at = at k.v }

-- the same of each vertex of a cluster
abbrev pub all_standing : Placement → Cluster → Cluster
all_standing at refs = map (standing at) refs

-- A vertex has the same reference point in each cluster, the corners of each of these faces are in
-- a cluster, and the list has exactly the pairs of these vertices and faces that are near at the
-- reference points, in order.
pub record IsListAmong (ids : List ℕ) (faces : Faces) (l : NeighbourList) : Type 0 where
  pub placed : l.clusters ≡ map (all_standing (place_in l.clusters)) l.clusters
  pub covered : list_all (λ f. is_covered l.clusters f.1) faces ≡ true
  pub pairs : l.pairs ≡ map listed
      (filter (is_near_at l.skin (place_in l.clusters)) (pairs_among ids faces))
