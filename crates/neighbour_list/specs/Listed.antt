-- Pairs of a mesh that are listed as near at reference points.
use Rattle.std.specs.Prelude.{◌≡◌, ℕ, Bool, cond, not, List, map}
use Rattle.std.specs.List.{All, filter, flat_map}
use Rattle.std.proofs.Common.{Some, None}
use Rattle.grid_base.specs.Meeting.{MeetAt}
use Rattle.grid_decided.specs.Decided.{meets_exactly}
use Rattle.mesh_base.specs.declared.ids.PairName.{PairName}
use Rattle.mesh_base.specs.Failing.{pair_passes}
use Rattle.mesh_base.specs.declared.ids.Corners.{Corners}
use Rattle.mesh_base.specs.Mesh.{Mesh, HasCorners}
use Rattle.mesh_base.specs.Pairs.{Pair, pairs}
use Rattle.mesh_base.specs.Placements.{Motion, Placement, positions}
use Rattle.pair_paths.specs.declared.MovingEdge.{MovingEdge}
use Rattle.pair_paths.specs.declared.MovingFace.{MovingFace}
use Rattle.pair_paths.specs.Pairing.{pair_with, starts}
use Rattle.pair_candidates.specs.Told.{one_or_none, told_along}
use Rattle.neighbour_list.specs.declared.listed.ListedPair.{ListedPair}
use Rattle.neighbour_list.specs.declared.neighbour_list.NeighbourList.{NeighbourList}
use Rattle.neighbour_list.specs.Clusters.{AreAt, IsCovered}
use Rattle.neighbour_list.specs.Near.{is_near}

-- a pair as it is listed, and a listed pair as a pair
abbrev pub listed : Pair → ListedPair
listed p = record { name = p.name; corners = p.corners }

-- and a listed pair as a pair
abbrev pub pair_of : ListedPair → Pair
pair_of p = record { name = p.name; corners = p.corners }

-- whether the pair is near where its vertices stand
abbrev pub is_near_at : ℕ → Placement → Pair → Bool
is_near_at skin at p = is_near skin (positions at p)

-- the reference points of the list are these
abbrev pub HasReferences : Placement → NeighbourList → Type 0
HasReferences at l = All (AreAt at) l.clusters

-- The list is one of the mesh: the corners of each face are in one of its clusters, and it lists
-- exactly the pairs that are near at the reference points, in order.
pub record IsListOf (m : Mesh) (l : NeighbourList) : Type 0 where
  pub at : Placement
  pub references : HasReferences at l
  pub covered : (f : ℕ) (c : Corners) → HasCorners m f c → IsCovered l.clusters c
  pub pairs : l.pairs ≡ map listed (filter (is_near_at l.skin at) (pairs m))

-- ---- a list in the making
-- whether an edge and a face begin near each other
abbrev pub begin_near : ℕ → MovingEdge → MovingFace → Bool
begin_near skin e f = is_near skin (starts e f)

-- the edge with the face, as it is listed
abbrev pub listed_with : MovingEdge → MovingFace → ListedPair
listed_with e f = listed (pair_with e f)

-- the pairs of each of the edges with those of the faces that begin near it, edge by edge
abbrev pub near_along_edges : ℕ → Motion → List MovingFace → List (ℕ × ℕ) → List ListedPair
near_along_edges skin w faces edges = told_along (begin_near skin) listed_with w faces edges

-- ---- a scan of listed pairs
-- the pair does not meet where its vertices stand
abbrev pub IsApart : Placement → ListedPair → Type 0
IsApart at p = ¬ (MeetAt (positions at (pair_of p)))

-- whether the pair does not pass in the motion
abbrev pub fails : ℕ → Motion → ListedPair → Bool
fails depth w p = not (pair_passes meets_exactly depth w (pair_of p))

-- its name, if it does not pass
abbrev pub failed : ℕ → Motion → ListedPair → List PairName
failed depth w p = one_or_none (cond (fails depth w p) (Some p.name) None)

-- the names of those that do not pass
abbrev pub failing_in : ℕ → Motion → List ListedPair → List PairName
failing_in depth w ps = flat_map (failed depth w) ps
