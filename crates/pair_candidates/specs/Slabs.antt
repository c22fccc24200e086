-- How far faces that go with a frame reach where they begin, and what that leaves out of the faces of an edge.
use Rattle.std.specs.Prelude.{◌≡◌, ℕ, ◌≤ℤ◌, ◌<ℤ◌, ◌⊎◌, Bool, true, false, List, Some, slice_get}
use Rattle.std.proofs.Common.{Option, None}
use Rattle.std.specs.List.Sorted.{IsStrictlySortedBy}
use Rattle.std.specs.Ordering.{nat_cmp}
use Rattle.cell_grid.specs.Filed.{has}
use Rattle.grid_base.specs.Extents.{IsIn}
use Rattle.grid_base.specs.Meeting.{MeetAt}
use Rattle.grid_base.specs.Separation.{MoveTogether}
use Rattle.grid_base.specs.Triples.{Triple, minus, dot}
use Rattle.box_tree.specs.Labels.{has_label}
use Rattle.pair_paths.specs.declared.Frame.{Frame}
use Rattle.pair_paths.specs.declared.Path.{Path}
use Rattle.pair_paths.specs.declared.MovingEdge.{MovingEdge}
use Rattle.pair_paths.specs.declared.MovingFace.{MovingFace}
use Rattle.pair_paths.specs.FaceBoxes.{labels_of}
use Rattle.pair_paths.specs.Pairing.{have_a_vertex_in_common, starts, ends}
use Rattle.pair_candidates.specs.declared.across.Across.{Across}
use Rattle.pair_candidates.specs.declared.range.Range.{Range}
use Rattle.pair_candidates.specs.declared.slabs.Slabs.{Slabs}
use Rattle.pair_candidates.specs.declared.slab_tree.SlabTree.{SlabTree}
use Rattle.pair_candidates.specs.declared.still_faces.StillFaces.{StillFaces}
use Rattle.pair_candidates.specs.declared.slab_tree.SlabTree.TheVariants.{Face, Halves'}

-- the edge and the face move as one, and do not meet where they begin
pub record ArePartedAsOne (e : MovingEdge) (f : MovingFace) : Type 0 where
  pub as_one : MoveTogether (starts e f) (ends e f)
  pub parted : ¬ (MeetAt (starts e f))

-- the test is false of each edge and face that move as one and do not meet where they begin
abbrev pub IsFalseOfParted : (MovingEdge → MovingFace → Bool) → Type 0
IsFalseOfParted test = (e : MovingEdge) (f : MovingFace) → ArePartedAsOne e f → test e f ≡ false

-- the path goes by the shift of the frame
abbrev pub GoesWith : Frame → Path → Type 0
GoesWith frame w = minus w.end w.start ≡ frame.end

-- both ends of the edge do
pub record EdgeGoesWith (frame : Frame) (e : MovingEdge) : Type 0 where
  pub first : GoesWith frame e.first
  pub second : GoesWith frame e.second

-- all corners of the face do
pub record FaceGoesWith (frame : Frame) (f : MovingFace) : Type 0 where
  pub c : GoesWith frame f.c
  pub d : GoesWith frame f.d
  pub e : GoesWith frame f.e

-- the range has how far the position lies along the direction
pub record IsAlong (n : Triple) (r : Range) (p : Triple) : Type 0 where
  pub low : r.low ≤ℤ dot n p
  pub high : dot n p ≤ℤ r.high

-- both positions lie below the range along the direction, or both above it
abbrev pub AreBeyond : Triple → Range → Triple → Triple → Type 0
AreBeyond n r a b =
    ((dot n a <ℤ r.low) × (dot n b <ℤ r.low)) ⊎ ((r.high <ℤ dot n a) × (r.high <ℤ dot n b))

-- the box and the two ranges have the position
pub record HasPosition (across : Across) (s : Slabs) (p : Triple) : Type 0 where
  pub at : IsIn s.at p
  pub first : IsAlong across.first s.first p
  pub second : IsAlong across.second s.second p

-- they have the corners of the face where it begins, and the face has all labels
pub record HasFace (across : Across) (s : Slabs) (f : MovingFace) : Type 0 where
  pub c : HasPosition across s f.c.start
  pub d : HasPosition across s f.d.start
  pub e : HasPosition across s f.e.start
  pub labels : (n : ℕ) → has_label s.labels n ≡ true → has_label (labels_of f.corners) n ≡ true

-- the same of the face at a place, where there is one
abbrev pub HasFaceAt : Across → List MovingFace → Slabs → ℕ → Type 0
HasFaceAt across faces s i = (f : MovingFace) → slice_get faces i ≡ Some f → HasFace across s f

-- the edge and the face have a vertex in common, or do not meet where they begin
abbrev pub IsLeftOut : MovingEdge → MovingFace → Type 0
IsLeftOut e f = (have_a_vertex_in_common e f ≡ true) ⊎ (¬ (MeetAt (starts e f)))

-- two positions are the ends of no edge that meets a face whose corners are such positions
abbrev pub IsPartedFrom : (Triple → Type 0) → Triple → Triple → Type 0
IsPartedFrom Is a b = (c d e : Triple) → Is c → Is d → Is e →
    ¬ (MeetAt (record { a = a; b = b; c = c; d = d; e = e }))

-- the place stands in the tree
abbrev pub HasPlace : SlabTree → ℕ → Type 0
HasPlace (Face s j) i = j ≡ i
HasPlace (Halves' s p a q b) i = HasPlace a i ⊎ HasPlace b i

-- each slabs have the faces at all places below them
abbrev pub IsSound : Across → List MovingFace → SlabTree → Type 0
IsSound across faces (Face s j) = HasFaceAt across faces s j
IsSound across faces (Halves' s p a q b) =
    ((i : ℕ) → HasPlace a i ⊎ HasPlace b i → HasFaceAt across faces s i)
    × (IsSound across faces a × IsSound across faces b)

-- the same where there is a tree
abbrev pub HasPlaceIf : Option SlabTree → ℕ → Type 0
HasPlaceIf None i = ⊥
HasPlaceIf (Some t) i = HasPlace t i

-- the tree is sound, where there is one
abbrev pub IsSoundIf : Across → List MovingFace → Option SlabTree → Type 0
IsSoundIf across faces None = Unit {0}
IsSoundIf across faces (Some t) = IsSound across faces t

-- the tree is sound, and has each of these places at which there is a face
pub record IsTreeOf (across : Across) (faces : List MovingFace) (places : List ℕ)
    (t : Option SlabTree) : Type 0 where
  pub sound : IsSoundIf across faces t
  pub each : (i : ℕ) (f : MovingFace) → slice_get faces i ≡ Some f → has i places ≡ true →
      HasPlaceIf t i

-- each face of the tree that is not left out of those of the edge is at one of these places
abbrev pub AreFoundIn : List MovingFace → MovingEdge → SlabTree → List ℕ → Type 0
AreFoundIn faces e t near = (i : ℕ) (f : MovingFace) → slice_get faces i ≡ Some f →
    HasPlace t i → (has i near ≡ true) ⊎ IsLeftOut e f

-- the same where there is a tree
abbrev pub AreFoundInIf : List MovingFace → MovingEdge → Option SlabTree → List ℕ → Type 0
AreFoundInIf faces e t near = (i : ℕ) (f : MovingFace) → slice_get faces i ≡ Some f →
    HasPlaceIf t i → (has i near ≡ true) ⊎ IsLeftOut e f

-- the same of all faces; and the places rise
pub record AreFound (faces : List MovingFace) (e : MovingEdge) (near : List ℕ) : Type 0 where
  pub each : (i : ℕ) (f : MovingFace) → slice_get faces i ≡ Some f →
      (has i near ≡ true) ⊎ IsLeftOut e f
  pub rising : IsStrictlySortedBy nat_cmp near

-- all faces go with the frame, and have their places in the tree
pub record AreStill (frame : Frame) (faces : List MovingFace) (s : StillFaces) : Type 0 where
  pub going : (i : ℕ) (f : MovingFace) → slice_get faces i ≡ Some f → FaceGoesWith frame f
  pub sound : IsSoundIf s.across faces s.tree
  pub each : (i : ℕ) (f : MovingFace) → slice_get faces i ≡ Some f → HasPlaceIf s.tree i
