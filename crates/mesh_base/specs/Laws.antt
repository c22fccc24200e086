-- Laws of meshes, their pairs and their motions.
use Rattle.std.specs.Prelude.{ℕ, Bool, false, ◌≡◌, ◌<◌, ◌↔◌, IsTrue}
use Rattle.std.specs.List.{Contains, filter}
use Rattle.grid_base.specs.Triples.{Triple, plus}
use Rattle.grid_base.specs.Points.{displacement_of}
use Rattle.mesh_base.specs.declared.steps.ShiftOf.{ShiftOf}
use Rattle.mesh_base.specs.Mesh.{Mesh, IsSound, IsLiveVertex}
use Rattle.mesh_base.specs.Sides.{IsClosed, IsEdge}
use Rattle.mesh_base.specs.Pairs.{Pair, IsPair, edges}
use Rattle.mesh_base.specs.Placements.{origin, rest_positions, IsClearMesh, IsClearAlong}
use Rattle.mesh_base.specs.Shifts.{Shifts, shift_at, moved_by, end_in_box, with_moves, NameOnce}

-- the list of edges has exactly the edges, the smaller id first
abbrev pub EdgesAreListed : Type 0
EdgesAreListed =
    (m : Mesh) → IsSound m → (u v : ℕ) → (Contains (edges m) (u, v) ↔ ((u < v) × IsEdge m u v))

-- each vertex comes to stand at its point and its shift together
abbrev pub MovesAddShifts : Type 0
MovesAddShifts = (m : Mesh) (moves : Shifts) → NameOnce m moves → IsTrue (end_in_box m moves) →
    (v : ℕ) → rest_positions (with_moves m moves) v ≡ plus (rest_positions m v) (shift_at moves v)

-- the same vertices are live
abbrev pub MovesKeepLive : Type 0
MovesKeepLive = (m : Mesh) (moves : Shifts) → NameOnce m moves → (v : ℕ) →
    (IsLiveVertex (with_moves m moves) v ↔ IsLiveVertex m v)

-- the faces are the same
abbrev pub MovesKeepFaces : Type 0
MovesKeepFaces = (m : Mesh) (moves : Shifts) → (with_moves m moves).faces ≡ m.faces

-- the next vertex gets the same id
abbrev pub MovesKeepNextVertex : Type 0
MovesKeepNextVertex = (m : Mesh) (moves : Shifts) → (with_moves m moves).next_vertex ≡ m.next_vertex

-- the next face gets the same id
abbrev pub MovesKeepNextFace : Type 0
MovesKeepNextFace = (m : Mesh) (moves : Shifts) → (with_moves m moves).next_face ≡ m.next_face

-- the limits are the same
abbrev pub MovesKeepLimits : Type 0
MovesKeepLimits = (m : Mesh) (moves : Shifts) → (with_moves m moves).limits ≡ m.limits

-- the laws of a mesh hold after moves that name its vertices once
abbrev pub MovesKeepSound : Type 0
MovesKeepSound =
    (m : Mesh) (moves : Shifts) → IsSound m → NameOnce m moves → IsSound (with_moves m moves)

-- a closed mesh is closed after the moves
abbrev pub MovesKeepClosed : Type 0
MovesKeepClosed = (m : Mesh) (moves : Shifts) → IsClosed m → IsClosed (with_moves m moves)

-- a mesh has the same pairs after the moves
abbrev pub MovesKeepPairs : Type 0
MovesKeepPairs =
    (m : Mesh) (moves : Shifts) (p : Pair) → (IsPair (with_moves m moves) p ↔ IsPair m p)

-- moves that are left name each vertex once
abbrev pub LeftNameOnce : Type 0
LeftNameOnce = (m : Mesh) (test : ShiftOf → Bool) (moves : Shifts) → NameOnce m moves →
    NameOnce m (filter test moves)

-- where those left out shift nothing, each vertex has the shift that it had
abbrev pub LeftShiftAlike : Type 0
LeftShiftAlike = (test : ShiftOf → Bool) (m : Mesh) (moves : Shifts) →
    ((s : ShiftOf) → test s ≡ false → displacement_of s.by ≡ origin) → NameOnce m moves → (v : ℕ) →
    shift_at (filter test moves) v ≡ shift_at moves v

-- moves that are left end in the box where all did
abbrev pub LeftEndInBox : Type 0
LeftEndInBox = (m : Mesh) (test : ShiftOf → Bool) (moves : Shifts) → IsTrue (end_in_box m moves) →
    IsTrue (end_in_box m (filter test moves))

-- after moves that are clear at every fraction and end in the box, the mesh is clear
abbrev pub ClearMotionLeavesClear : Type 0
ClearMotionLeavesClear = (m : Mesh) (moves : Shifts) → NameOnce m moves →
    IsTrue (end_in_box m moves) → IsClearAlong m (moved_by m moves) →
    IsClearMesh (with_moves m moves)

-- a clear mesh whose live vertices all move by one shift is clear at every fraction
abbrev pub TranslationIsClearAlong : Type 0
TranslationIsClearAlong = (m : Mesh) (shifts : Shifts) (t : Triple) → IsSound m → IsClearMesh m →
    ((v : ℕ) → IsLiveVertex m v → shift_at shifts v ≡ t) → IsClearAlong m (moved_by m shifts)

-- and clear after
abbrev pub TranslationLeavesClear : Type 0
TranslationLeavesClear = (m : Mesh) (moves : Shifts) (t : Triple) → IsSound m → IsClearMesh m →
    ((v : ℕ) → IsLiveVertex m v → shift_at moves v ≡ t) → NameOnce m moves →
    IsTrue (end_in_box m moves) → IsClearMesh (with_moves m moves)
