-- Faces that go in a motion, a box that has the touched ones, and
-- edges that are apart from the box.
use Rattle.std.specs.Prelude.{◌≡◌, false, List, None}
use Rattle.std.specs.List.{All}
use Rattle.grid_base.specs.declared.Extent.{Extent}
use Rattle.grid_base.specs.Extents.{overlaps}
use Rattle.mesh_base.specs.Placements.{Motion}
use Rattle.pair_paths.specs.declared.MovingEdge.{MovingEdge}
use Rattle.pair_paths.specs.declared.MovingFace.{MovingFace}
use Rattle.pair_paths.specs.Moving.{moving_edge, moving_face}
use Rattle.pair_paths.specs.Bounds.{HoldsEdge, HoldsFace}
use Rattle.edit_check.specs.declared.boxed.BoxedFace.{BoxedFace}
use Rattle.edit_check.specs.declared.terms.Terms.{Terms}
use Rattle.edit_check.specs.Searching.{first_near, edges_of}

-- the ends of the edge go in the motion
abbrev pub EdgeGoes : Motion → MovingEdge → Type 0
EdgeGoes w e = e ≡ moving_edge w e.a e.b

-- the corners of the face go in the motion
abbrev pub FaceGoes : Motion → MovingFace → Type 0
FaceGoes w f = f ≡ moving_face w (f.face, f.corners)

-- all of the faces go in the motion, and the box has all the way of each touched one
pub record AreAlong (motion : Motion) (reach : Extent)
    (faces touched : List BoxedFace) : Type 0 where
  pub all_go : All (λ f. FaceGoes motion f.face) faces
  pub touched_go : All (λ f. FaceGoes motion f.face) touched
  pub reached : All (λ f. HoldsFace f.face reach) touched

-- no pair of the edge is found, if it has a box apart from the one that has the touched faces
abbrev pub HasNoneApart : Terms → Extent → List BoxedFace → List BoxedFace → MovingEdge → Type 0
HasNoneApart t reach faces touched e =
    (box : Extent) → HoldsEdge e box → overlaps reach box ≡ false →
    first_near t faces touched e ≡ None

-- the same of each edge that is looked at along some of the faces
abbrev pub HaveNoneApart : Terms → Extent → List BoxedFace → List BoxedFace → List BoxedFace →
    Type 0
HaveNoneApart t reach faces touched some =
    All (λ f. All (HasNoneApart t reach faces touched) (edges_of faces f.face)) some
