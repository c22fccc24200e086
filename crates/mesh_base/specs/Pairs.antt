-- Pairs: an edge, and a face that has neither of its ends as a corner.
use Rattle.std.specs.Prelude.{◌≡◌, ℕ, ◌<◌, ◌+◌, ◌||◌, Bool, false, not, List, [], ◌∷◌, map, nat_lt}
use Rattle.std.specs.List.{filter, flat_map}
use Rattle.std.specs.Ordering.{nat_cmp, ordering_then}
use Rattle.std.specs.declared.cmp.Ordering.{Ordering}
use Rattle.std.specs.FinMap as finite
use Rattle.mesh_base.specs.declared.ids.Corners.{Corners}
use Rattle.mesh_base.specs.declared.ids.PairName.{PairName}
use Rattle.mesh_base.specs.Mesh.{Mesh, HasCorners}
use Rattle.mesh_base.specs.Sides.{IsEdge, above, has_corner, runs}
use Rattle.mesh_base.specs.SideList.{edge_cmp}

-- the name of a pair, and the corners of its face
pub record Pair : Type 0 where
  pub name : PairName
  pub corners : Corners

-- an edge (smaller id first) and a face that has neither of its ends as a corner
pub record IsPair (m : Mesh) (p : Pair) : Type 0 where
  pub ordered : p.name.a < p.name.b
  pub edge : IsEdge m p.name.a p.name.b
  pub face : HasCorners m p.name.face p.corners
  pub not_first : has_corner p.corners p.name.a ≡ false
  pub not_second : has_corner p.corners p.name.b ≡ false

-- whether some face has both as neighbours
abbrev pub is_edge : Mesh → ℕ → ℕ → Bool
is_edge m u v = nat_lt 0 (runs m u v + runs m v u)

-- whether more than one face runs one way
abbrev pub is_crowded : Mesh → ℕ → ℕ → Bool
is_crowded m u v = nat_lt 1 (runs m u v) || nat_lt 1 (runs m v u)

-- each two of the numbers, in order
abbrev pub id_pairs : List ℕ → List (ℕ × ℕ)
id_pairs ids = flat_map (λ u. map (λ v. (u, v)) (filter (λ v. nat_lt u v) ids)) ids

-- the edges, the smaller id first, in order of the smaller and then of the larger
abbrev pub edges : Mesh → List (ℕ × ℕ)
edges m = filter (λ e. is_edge m e.0 e.1) (id_pairs (finite.keys m.points))

-- the vertices above v that share an edge with it, rising
abbrev pub neighbours_above : Mesh → ℕ → List ℕ
neighbours_above m v = filter (λ w. is_edge m v w) (above v (finite.keys m.points))

-- the edge with each face that has neither of its ends
abbrev pub pairs_of : Mesh → ℕ × ℕ → List Pair
pairs_of m e =
    map (λ f. record { name = record { a = e.0; b = e.1; face = f.0 }; corners = f.1 })
    (filter (λ f. not (has_corner f.1 e.0 || has_corner f.1 e.1)) (finite.entries m.faces))

-- all pairs, in order of the edge and then of the face
abbrev pub pairs : Mesh → List Pair
pairs m = flat_map (λ e. pairs_of m e) (edges m)

-- names in order of the edge and then of the face
abbrev pub name_cmp : PairName → PairName → Ordering
name_cmp n o = ordering_then (edge_cmp (n.a, n.b) (o.a, o.b)) (nat_cmp n.face o.face)

-- the two ends of the edge, then the corners of the face
abbrev pub five_ids : Pair → List ℕ
five_ids p = p.name.a ∷ p.name.b ∷ p.corners.first ∷ p.corners.second ∷ p.corners.third ∷ []
