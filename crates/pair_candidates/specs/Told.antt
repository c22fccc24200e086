-- What a test of pairs tells of edges and faces of a motion.
use Rattle.std.specs.Prelude.{◌≡◌, ℕ, ◌≤◌, Bool, false, cond, ◌&&◌, not, List, [], ◌∷◌, take, slice_get}
use Rattle.std.specs.List.{flat_map}
use Rattle.std.proofs.Common.{Option, Some, None}
use Rattle.grid_base.specs.declared.Extent.{Extent}
use Rattle.grid_base.specs.Extents.{overlaps}
use Rattle.mesh_base.specs.Mesh.{Mesh}
use Rattle.mesh_base.specs.Pairs.{edges}
use Rattle.mesh_base.specs.Placements.{Motion}
use Rattle.pair_paths.specs.declared.Frame.{Frame}
use Rattle.pair_paths.specs.declared.MovingEdge.{MovingEdge}
use Rattle.pair_paths.specs.declared.MovingFace.{MovingFace}
use Rattle.pair_paths.specs.Frames.{HoldsFaceIn}
use Rattle.pair_paths.specs.Moving.{moving_edge, moving_faces}
use Rattle.pair_paths.specs.Pairing.{have_a_vertex_in_common}

-- what there is, as a list
abbrev pub one_or_none : {X : Type 0} → Option X → List X
one_or_none None = []
one_or_none (Some x) = x ∷ []

-- the test is false of the edge and each face whose box in the frame is apart from this one
abbrev pub LeavesOut : (MovingEdge → MovingFace → Bool) → Frame → MovingEdge → Extent → Type 0
LeavesOut test frame e at = (f : MovingFace) (its : Extent) → HoldsFaceIn frame f its →
    overlaps its at ≡ false → test e f ≡ false

-- whether the edge and the face have no vertex in common, and the test is true of them
abbrev pub is_told : (MovingEdge → MovingFace → Bool) → MovingEdge → MovingFace → Bool
is_told test e f = not (have_a_vertex_in_common e f) && test e f

-- what is told of the edge with a face, where there is one
abbrev pub told_with : {Told : Type 0} → (MovingEdge → MovingFace → Bool) →
    (MovingEdge → MovingFace → Told) → MovingEdge → Option MovingFace → Option Told
told_with test what e None = None
told_with test what e (Some f) = cond (is_told test e f) (Some (what e f)) None

-- what is told of the edge with the faces at these places
abbrev pub told_at : {Told : Type 0} → (MovingEdge → MovingFace → Bool) →
    (MovingEdge → MovingFace → Told) → MovingEdge → List MovingFace → List ℕ → List Told
told_at test what e faces places =
    flat_map (λ k. one_or_none (told_with test what e (slice_get faces k))) places

-- the same of all the faces
abbrev pub told_among : {Told : Type 0} → (MovingEdge → MovingFace → Bool) →
    (MovingEdge → MovingFace → Told) → MovingEdge → List MovingFace → List Told
told_among test what e faces = flat_map (λ f. one_or_none (told_with test what e (Some f))) faces

-- the same of each of the edges, edge by edge
abbrev pub told_along : {Told : Type 0} → (MovingEdge → MovingFace → Bool) →
    (MovingEdge → MovingFace → Told) → Motion → List MovingFace → List (ℕ × ℕ) → List Told
told_along test what w faces es =
    flat_map (λ e. told_among test what (moving_edge w e.0 e.1) faces) es

-- the same of the edges and faces of a mesh
abbrev pub told_of_mesh : {Told : Type 0} → (MovingEdge → MovingFace → Bool) →
    (MovingEdge → MovingFace → Told) → Mesh → Motion → List Told
told_of_mesh test what m w = told_along test what w (moving_faces m w) (edges m)

-- so much of a list; all of it, where no number is given
abbrev pub up_to : {X : Type 0} → Option ℕ → List X → List X
up_to None xs = xs
up_to (Some n) xs = take n xs

-- so many are as many as are asked for
abbrev pub IsFull : ℕ → Option ℕ → Type 0
IsFull count None = ⊥
IsFull count (Some n) = n ≤ count
