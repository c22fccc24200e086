-- What is wrong with lists of points and faces, and where first. Faces, corners
-- and vertices are numbered from 1.
use Rattle.std.specs.Prelude.{◌≡◌, ◌≢◌, ◌≤◌, ◌<◌, ℕ, ◌+◌, ◌==◌, ◌&&◌, ◌||◌, ⊤, not, Bool, List, [], ◌∷◌, map}
use Rattle.std.specs.Prelude.{length, nat_lt, nat_le, if◌then◌else◌, count_by, find, slice_get, IsTrue}
use Rattle.std.specs.Option.{option_or, option_map}
use Rattle.std.specs.List.{position_from, flat_map, range_with_len}
use Rattle.std.proofs.Common.{Option, Some, None}
use Rattle.mesh_base.specs.declared.limits.Scale.{Scale}
use Rattle.mesh_base.specs.declared.lists.MeshLists.{MeshLists}
use Rattle.mesh_base.specs.Limits.{limits_of}
use Rattle.grid_base.specs.declared.Point.{Point}
use Rattle.mesh_base.specs.declared.ids.Corners.{Corners}
use Rattle.mesh_base.specs.declared.faults.ShapeFault.{ShapeFault}
use Rattle.mesh_base.specs.declared.faults.ShapeFault.TheVariants.{TooManyVertices, TooManyFaces, NoVertex, Repeated, Doubled, Unbalanced}
use Rattle.mesh_base.specs.declared.faults.ShapeRefusal.{ShapeRefusal}
use Rattle.mesh_base.specs.declared.faults.ShapeRefusal.TheVariants.{NoMemory, Shape}
use Rattle.std.specs.FinMap as finite
use Rattle.mesh_base.specs.Mesh.{Mesh, HasCorners, IsLiveVertex, AreLive, AreDifferent, equal_up_to_rotation}
use Rattle.mesh_base.specs.Sides.{follows, runs, IsClosed}
use Rattle.mesh_base.specs.Changes.{corners_of, corner_list}
use Rattle.mesh_base.specs.Given.{Faces}

-- whether there is a vertex of this number, among n
abbrev pub is_vertex : ℕ → ℕ → Bool
is_vertex n v = nat_le 1 v && nat_le v n

-- the first corner that is no vertex
abbrev pub bad_corner : ℕ → Corners → Option ℕ
bad_corner n c =
    if is_vertex n c.first
    then (if is_vertex n c.second then (if is_vertex n c.third then None else Some 3) else Some 2)
    else Some 1

-- the first face, from number k, with a corner that is no vertex
abbrev pub no_vertex_from : ℕ → ℕ → Faces → Option (ℕ × ℕ)
no_vertex_from n k [] = None
no_vertex_from n k (f ∷ fs) =
    option_or (option_map (λ corner. (k, corner)) (bad_corner n (corners_of f)))
    (no_vertex_from n (k + 1) fs)

-- whether a face has a vertex twice
abbrev pub repeats : Corners → Bool
repeats c = (c.first == c.second) || (c.second == c.third) || (c.third == c.first)

-- the first face, from number k, with a corner twice
abbrev pub repeated_from : ℕ → Faces → Option ℕ
repeated_from k fs = position_from (λ f. repeats (corners_of f)) k fs

-- the first face, from number k, that a later one equals up to rotation, and the first such
abbrev pub doubled_from : ℕ → Faces → Option (ℕ × ℕ)
doubled_from k [] = None
doubled_from k (f ∷ fs) =
    option_or
    (option_map (λ second. (k, second))
    (position_from (λ g. equal_up_to_rotation (corners_of f) (corners_of g)) (k + 1) fs))
    (doubled_from (k + 1) fs)

-- in how many faces v follows u
abbrev pub runs_in : Faces → ℕ → ℕ → ℕ
runs_in fs u v = count_by (λ f. follows (corners_of f) u v) fs

-- 1 to n
abbrev pub numbers_to : ℕ → List ℕ
numbers_to n = range_with_len 1 n

-- the first two vertices, of n, between which the faces do not run as often one way as the other
abbrev pub first_unbalanced : ℕ → Faces → Option (ℕ × ℕ)
first_unbalanced n fs =
    find (λ p. not (runs_in fs p.0 p.1 == runs_in fs p.1 p.0))
    (flat_map (λ u. map (λ v. (u, v)) (numbers_to n)) (numbers_to n))

-- the first part but balance that fails, in this order, with its least place
abbrev pub fault_but_balance : Scale → ℕ → Faces → Option ShapeFault
fault_but_balance scale n fs =
    option_or (if nat_lt (limits_of scale).vertices n then Some (TooManyVertices n) else None)
    (option_or
    (if nat_lt (limits_of scale).faces (length fs) then Some (TooManyFaces (length fs)) else None)
    (option_or (option_map (λ p. NoVertex p.0 p.1) (no_vertex_from n 1 fs))
    (option_or (option_map (λ face. Repeated face) (repeated_from 1 fs))
    (option_map (λ p. Doubled p.0 p.1) (doubled_from 1 fs)))))

-- the first part that fails
abbrev pub shape_fault : Scale → ℕ → Faces → Option ShapeFault
shape_fault scale n fs =
    option_or (fault_but_balance scale n fs)
    (option_map (λ p. Unbalanced p.0 p.1) (first_unbalanced n fs))

-- the same of lists
abbrev pub lists_fault : Scale → MeshLists → Option ShapeFault
lists_fault scale lists = shape_fault scale (length lists.points) lists.faces

-- lists of good shape: no part fails
abbrev pub HaveGoodShape : Scale → MeshLists → Type 0
HaveGoodShape scale lists = lists_fault scale lists ≡ None

-- no part fails
abbrev pub HasNoFault : Scale → List Point → Faces → Type 0
HasNoFault scale points faces = shape_fault scale (length points) faces ≡ None

-- what a refusal says of the fault
abbrev pub IsRefusal : Option ShapeFault → ShapeRefusal → Type 0
IsRefusal fault NoMemory = ⊤
IsRefusal fault (Shape f) = fault ≡ Some f

-- the part of the laws, the limits and the balance that a fault denies
abbrev pub Denied : ShapeFault → Mesh → Type 0
Denied (TooManyVertices count) m = finite.len m.points ≤ m.limits.vertices
Denied (TooManyFaces count) m = finite.len m.faces ≤ m.limits.faces
Denied (NoVertex face corner) m = (f : ℕ) (c : Corners) → HasCorners m f c → AreLive m c
Denied (Repeated face) m = (f : ℕ) (c : Corners) → HasCorners m f c → AreDifferent c
Denied (Doubled first second) m = (f g : ℕ) (c d : Corners) → HasCorners m f c → HasCorners m g d →
    IsTrue (equal_up_to_rotation c d) → f ≡ g
Denied (Unbalanced from to) m = IsClosed m

-- which of these parts, in order
abbrev pub part_of : ShapeFault → ℕ
part_of (TooManyVertices count) = 1
part_of (TooManyFaces count) = 2
part_of (NoVertex face corner) = 3
part_of (Repeated face) = 4
part_of (Doubled first second) = 5
part_of (Unbalanced from to) = 6

-- what the fault names is at fault in the mesh
abbrev pub IsAtFault : ShapeFault → Mesh → Type 0
IsAtFault (TooManyVertices count) m = (count ≡ finite.len m.points) × (m.limits.vertices < count)
IsAtFault (TooManyFaces count) m = (count ≡ finite.len m.faces) × (m.limits.faces < count)
IsAtFault (NoVertex face corner) m =
    (c : Corners) × (i : ℕ) × (v : ℕ) × HasCorners m face c × (corner ≡ i + 1)
    × (slice_get (corner_list c) i ≡ Some v) × ¬ (IsLiveVertex m v)
IsAtFault (Repeated face) m = (c : Corners) × HasCorners m face c × ¬ (AreDifferent c)
IsAtFault (Doubled first second) m =
    (c : Corners) × (d : Corners) × HasCorners m first c × HasCorners m second d
    × IsTrue (equal_up_to_rotation c d) × (first < second)
IsAtFault (Unbalanced from to) m = runs m from to ≢ runs m to from

-- a refusal that names a fault names what is at fault
abbrev pub IsJust : Mesh → ShapeRefusal → Type 0
IsJust m NoMemory = ⊤
IsJust m (Shape f) = IsAtFault f m

-- a refusal that names a fault: the parts before the one that it denies hold
abbrev pub EarlierHold : Mesh → ShapeRefusal → Type 0
EarlierHold m NoMemory = ⊤
EarlierHold m (Shape f) = (g : ShapeFault) → part_of g < part_of f → Denied g m
