-- Clusters of vertices, and when a list serves that has clusters.
use Rattle.std.specs.Prelude.{◌≡◌, ℕ, false, ◌⊎◌, List}
use Rattle.std.specs.List.{All, Any}
use Rattle.grid_base.specs.declared.Extent.{Extent}
use Rattle.grid_base.specs.Extents.{IsIn, IsInside, overlaps}
use Rattle.grid_base.specs.Triples.{minus}
use Rattle.box_tree.specs.declared.labelled_box.LabelledBox.{LabelledBox}
use Rattle.mesh_base.specs.declared.ids.Corners.{Corners}
use Rattle.mesh_base.specs.Placements.{Motion, Placement}
use Rattle.pair_paths.specs.declared.Frame.{Frame}
use Rattle.pair_paths.specs.declared.Path.{Path}
use Rattle.pair_paths.specs.Bounds.{HoldsPath, AreBoxesOf}
use Rattle.pair_paths.specs.Frames.{path_in}
use Rattle.pair_paths.specs.Paths.{path_along}
use Rattle.neighbour_list.specs.declared.reference.Reference.{Reference}
use Rattle.neighbour_list.specs.declared.cluster_boxes.ClusterBoxes.{ClusterBoxes}
use Rattle.neighbour_list.specs.Drift.{IsNarrow}

-- a cluster is a list of vertices with their reference points
abbrev pub Cluster : Type 0
Cluster = List Reference

-- the vertex is in the cluster
abbrev pub HasVertex : Cluster → ℕ → Type 0
HasVertex refs v = Any (λ k. k.v ≡ v) refs

-- the corners of a face are in the cluster
pub record HasFace (refs : Cluster) (c : Corners) : Type 0 where
  pub first : HasVertex refs c.first
  pub second : HasVertex refs c.second
  pub third : HasVertex refs c.third

-- some cluster has the corners of the face
abbrev pub IsCovered : List Cluster → Corners → Type 0
IsCovered clusters c = Any (λ refs. HasFace refs c) clusters

-- the reference points are these
abbrev pub AreAt : Placement → Cluster → Type 0
AreAt at refs = All (λ k. k.at ≡ at k.v) refs

-- ---- boxes of clusters
-- the boxes have the way of the vertex, as the frame sees it, and its drifts
pub record HoldsWay (frame : Frame) (path : Path) (k : Reference) (b : ClusterBoxes) : Type 0 where
  pub swept : HoldsPath (path_in frame path) b.swept
  pub start : IsIn b.start (minus path.start k.at)
  pub end : IsIn b.end (minus path.end k.at)

-- the same of each vertex of the cluster
abbrev pub HoldsCluster : Frame → Motion → Cluster → ClusterBoxes → Type 0
HoldsCluster frame w refs b = All (λ k. HoldsWay frame (path_along w k.v) k b) refs

-- some box with no side longer than the skin has both
pub record AreNarrowTogether (skin : ℕ) (a b : Extent) : Type 0 where
  pub box : Extent
  pub narrow : IsNarrow skin box
  pub first : IsInside a box
  pub second : IsInside b box

-- the ways of the two have no common point, or the two drift alike
abbrev pub BoxesServe : ℕ → ClusterBoxes → ClusterBoxes → Type 0
BoxesServe skin a b =
    (overlaps a.swept b.swept ≡ false)
    ⊎ (AreNarrowTogether skin a.start b.start × AreNarrowTogether skin a.end b.end)

-- the box is that of the cluster's ways
abbrev pub IsWayBox : ClusterBoxes → LabelledBox → Type 0
IsWayBox b way = way.at ≡ b.swept

-- the boxes of the drifts are in those of the other
pub record HasDriftsOf (b all : ClusterBoxes) : Type 0 where
  pub start : IsInside b.start all.start
  pub end : IsInside b.end all.end

-- Each two clusters have ways with no common point, or drift alike, as boxes of theirs tell.
pub record ClustersServe (skin : ℕ) (frame : Frame) (w : Motion) (clusters : List Cluster) : Type 0 where
  pub boxes : List ClusterBoxes
  pub held : AreBoxesOf (HoldsCluster frame w) clusters boxes
  pub serve : All (λ a. All (BoxesServe skin a) boxes) boxes
