-- A box that has the touched faces of a check, and the faces that are near it.
use Rattle.std.specs.Prelude.{◌≡◌, ℕ, true, false, Bool, List, [], nat_lt}
use Rattle.std.specs.List.{All, filter}
use Rattle.std.specs.FinMap as finite
use Rattle.std.proofs.Common.{Option, Some, None}
use Rattle.grid_base.specs.declared.Extent.{Extent}
use Rattle.grid_base.specs.Extents.{IsIn}
use Rattle.grid_base.specs.Triples.{Triple}
use Rattle.mesh_base.specs.declared.ids.Corners.{Corners}
use Rattle.mesh_base.specs.Mesh.{Mesh, HasCorners}
use Rattle.mesh_base.specs.Sides.{faces_at}
use Rattle.mesh_base.specs.Near.{is_face_near}
use Rattle.edit_base.specs.declared.Move.{Move}
use Rattle.edit_base.specs.Scaffold.{motion_by}
use Rattle.pair_paths.specs.Paths.{path_along}
use Rattle.pair_paths.specs.Moving.{moving_face}
use Rattle.pair_paths.specs.Bounds.{HoldsPath, HoldsFace}
use Rattle.edit_check.specs.Touched.{is_touched}

-- the box has all the way of the vertex, and the vertex where it stands
pub record HasVertex (m : Mesh) (moves : List Move) (v : ℕ) (box : Extent) : Type 0 where
  pub way : HoldsPath (path_along (motion_by m moves) v) box
  pub standing : HoldsPath (path_along (motion_by m []) v) box

-- the box has all the way of the face, and the face where it stands
pub record HasFace (m : Mesh) (moves : List Move) (f : ℕ × Corners) (box : Extent) : Type 0 where
  pub way : HoldsFace (moving_face (motion_by m moves) f) box
  pub standing : HoldsFace (moving_face (motion_by m []) f) box

-- there is a box, and it has the face
abbrev pub HasFaceIn : Mesh → List Move → ℕ × Corners → Option Extent → Type 0
HasFaceIn m moves f reach = (box : Extent) × ((reach ≡ Some box) × HasFace m moves f box)

-- the same of a face by its id, if it is live
abbrev pub Reaches : Mesh → List Move → Option Extent → ℕ → Type 0
Reaches m moves reach f = (c : Corners) → HasCorners m f c → HasFaceIn m moves (f, c) reach

-- the ids below the first new one
abbrev pub old_ones : ℕ → List ℕ → List ℕ
old_ones fresh_from ids = filter (λ f. nat_lt f fresh_from) ids

-- the same of the old faces at a vertex
abbrev pub ReachesAt : Mesh → List Move → ℕ → Option Extent → ℕ → Type 0
ReachesAt m moves fresh_from reach v =
    All (Reaches m moves reach) (old_ones fresh_from (faces_at m v))

-- the same of the old faces at each vertex that moves
abbrev pub ReachesMoves : Mesh → List Move → ℕ → Option Extent → Type 0
ReachesMoves m moves fresh_from reach =
    All (λ move. ReachesAt m moves fresh_from reach move.v) moves

-- the same of each touched face
abbrev pub ReachesTouched : Mesh → List Move → List ℕ → ℕ → Option Extent → Type 0
ReachesTouched m moves together fresh_from reach =
    (f : ℕ) (c : Corners) → HasCorners m f c →
    is_touched moves together fresh_from (moving_face (motion_by m moves) (f, c)) ≡ true →
    HasFaceIn m moves (f, c) reach

-- where there is the one box, there is the other, and it has what the one has
abbrev pub Widens : Option Extent → Option Extent → Type 0
Widens old new = (box : Extent) → old ≡ Some box →
    (wide : Extent) × ((new ≡ Some wide) × ((p : Triple) → IsIn box p → IsIn wide p))

-- the face is near the box, if there is one
abbrev pub is_face_in_reach : Mesh → Option Extent → ℕ → Bool
is_face_in_reach m (Some box) f = is_face_near m box f
is_face_in_reach m None f = false

-- the faces in reach, rising
abbrev pub faces_in_reach : Mesh → Option Extent → List ℕ
faces_in_reach m reach = filter (λ f. is_face_in_reach m reach f) (finite.keys m.faces)
