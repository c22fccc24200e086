-- What a list is kept over: a common shift, and moves of vertices.
use Rattle.std.proofs.Common.{◌≡◌, ℕ, List, map, ℤ, pos, ◌+ℤ◌, ◌-ℤ◌, ◌≤ℤ◌, ap, ◌∙◌, sym, arith}
use Rattle.std.specs.List.{filter, flat_map}
use Rattle.std.specs.Ordering.{nat_cmp}
use Rattle.std.specs.FinMap as finite
use Rattle.std.proofs.lemmas.Int.{ints}
use Rattle.grid_base.specs.Triples.{Triple, plus}
use Rattle.mesh_base.specs.declared.ids.Corners.{Corners}
use Rattle.mesh_base.specs.Mesh.{Mesh}
use Rattle.mesh_base.specs.Pairs.{Pair, pairs, pairs_of, is_edge, id_pairs}
use Rattle.mesh_base.specs.Placements.{Placement}
use Rattle.mesh_base.specs.Shifts.{Shifts, NameOnce, with_moves}
use Rattle.mesh_base.proofs.KeysKept.{keys-with_moves}
use Rattle.mesh_base.proofs.Moves.{faces-with_moves}
use Rattle.neighbour_list.specs.declared.neighbour_list.NeighbourList.{NeighbourList}
use Rattle.neighbour_list.specs.Drift.{DriftAlike}
use Rattle.neighbour_list.specs.Listed.{listed, is_near_at, IsListOf}

-- ---- a common shift
shifted_alike : (a b r s o k : ℤ) → (a -ℤ r) ≤ℤ ((b -ℤ s) +ℤ k) → ((a +ℤ o) -ℤ r) ≤ℤ (((b +ℤ o) -ℤ s) +ℤ k)
shifted_alike a b r s o k h = omega (arith, ints)

pub common_shift : (skin : ℕ) (at now : Placement) (by : Triple) (vs : List ℕ) → DriftAlike skin at now vs → DriftAlike skin at (λ v. plus (now v) by) vs
common_shift skin at now by vs h u v hu hv =
    let d = h u v hu hv in
    record {
      x = shifted_alike (now u).x (now v).x (at u).x (at v).x by.x (pos skin) d.x;
      y = shifted_alike (now u).y (now v).y (at u).y (at v).y by.y (pos skin) d.y;
      z = shifted_alike (now u).z (now v).z (at u).z (at v).z by.z (pos skin) d.z;
    }

-- ---- pairs are told by the faces and the ids of the vertices
abbrev pairs_by : Mesh → List ℕ → finite.FinMap nat_cmp Corners → List Pair
pairs_by m ids faces = flat_map (λ e. pairs_of (record m { faces = faces }) e) (filter (λ e. is_edge (record m { faces = faces }) e.0 e.1) (id_pairs ids))

same_pairs : (m n : Mesh) → n.faces ≡ m.faces → finite.keys n.points ≡ finite.keys m.points → pairs n ≡ pairs m
same_pairs m n faces ids = λ i. pairs_by m (ids i) (faces i)

pub stays_alike : (m n : Mesh) (l : NeighbourList) → n.faces ≡ m.faces → finite.keys n.points ≡ finite.keys m.points → IsListOf m l → IsListOf n l
stays_alike m n l faces ids h = record {
  at = h.at;
  references = h.references;
  covered = λ f c is. h.covered f c (ap (λ fs. finite.get fs f) (sym faces) ∙ is);
  pairs = h.pairs ∙ sym (ap (λ ps. map listed (filter (is_near_at l.skin h.at) ps)) (same_pairs m n faces ids));
}

pub stays_moved : (m : Mesh) (moves : Shifts) (l : NeighbourList) → NameOnce m moves → IsListOf m l → IsListOf (with_moves m moves) l
stays_moved m moves l once h = stays_alike m (with_moves m moves) l (faces-with_moves m moves) (keys-with_moves m moves once.live) h
