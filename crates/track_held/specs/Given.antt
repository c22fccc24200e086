-- The points and the faces that a caller gives, and what may be wrong with them.
use Rattle.std.specs.Prelude.{◌≡◌, ℕ, ⊤, Bool, not, nat_lt, List, [], ◌∷◌, map, length, Option, Some, None, if◌then◌else◌}
use Rattle.std.specs.Prelude.{Result, Ok, Err}
use Rattle.std.specs.Option.{option_or, option_map}
use Rattle.std.specs.List.{position_from}
use Rattle.grid_base.specs.declared.TheConstants.{BOX, VERTICES_MAX}
use Rattle.grid_base.specs.declared.Point.{Point}
use Rattle.grid_base.specs.Triples.{Triple}
use Rattle.grid_base.specs.Points.{point_at, is_within}
use Rattle.grid_decided.specs.Decided.{meets_exactly}
use Rattle.mesh_base.specs.declared.ShapeFault.TheVariants.{TooManyVertices, TooManyFaces}
use Rattle.mesh_base.specs.Mesh.{Mesh}
use Rattle.mesh_base.specs.declared.limits.Scale.TheVariants.{Large}
use Rattle.mesh_base.specs.Given.{Faces, mesh_under}
use Rattle.mesh_base.specs.Placements.{rest_positions}
use Rattle.mesh_base.specs.Failing.{first_meeting}
use Rattle.mesh_shape.specs.Shape.{shape_fault}
use Rattle.track_held.specs.declared.given.GivenPoint.{GivenPoint}
use Rattle.track_held.specs.declared.given.GivenFace.{GivenFace}
use Rattle.track_held.specs.declared.new_tracker.MakeFault.{MakeFault}
use Rattle.track_held.specs.declared.new_tracker.MakeFault.TheVariants.{Outside, Shape, Meets}
use Rattle.track_held.specs.declared.new_tracker.MakeRefusal.{MakeRefusal}
use Rattle.track_held.specs.declared.new_tracker.MakeRefusal.TheVariants.{NoMemory, Fault}

-- where a point stands
abbrev pub position_in : GivenPoint → Triple
position_in p = record { x = p.x; y = p.y; z = p.z }

-- the point there; the origin, where that is not in the box
abbrev pub point_in : GivenPoint → Point
point_in p = point_at (position_in p)

-- the numbers of a face's corners
abbrev pub face_in : GivenFace → List ℕ
face_in f = f.a ∷ f.b ∷ f.c ∷ []

-- the mesh that points and faces make, with the limits of large meshes
abbrev pub given_mesh : List GivenPoint → List GivenFace → Mesh
given_mesh points faces = mesh_under Large (map point_in points) (map face_in faces)

-- whether a point is not in the box
abbrev pub is_outside : GivenPoint → Bool
is_outside p = not (is_within BOX (position_in p))

-- the first point that is not, by its number, from 1
abbrev pub box_fault : List GivenPoint → Option MakeFault
box_fault points = option_map (λ number. Outside number) (position_from is_outside 1 points)

-- there are more points than may live
abbrev pub crowd_fault : List GivenPoint → Option MakeFault
crowd_fault points =
    if nat_lt VERTICES_MAX (length points) then Some (Shape (TooManyVertices (length points)))
    else None

-- there are more faces than may live
abbrev pub too_many_faces : ℕ → MakeFault
too_many_faces count = Shape (TooManyFaces count)

-- the first pair of a mesh that meets: an edge, and a face that shares no vertex with it
abbrev pub meet_fault : Mesh → Option MakeFault
meet_fault m = option_map (λ pair. Meets pair) (first_meeting meets_exactly m (rest_positions m))

-- the first fault of shape of points in the box and faces, or else the first pair that meets
abbrev pub lists_fault : List Point → Faces → Option MakeFault
lists_fault points faces =
    option_or (option_map (λ fault. Shape fault) (shape_fault Large (length points) faces))
    (meet_fault (mesh_under Large points faces))

-- The first fault of points and faces, in this order: too many points, a point that is not in the
-- box, another fault of shape, a pair that meets. None exactly where a tracker can be made of them.
abbrev pub make_fault : List GivenPoint → List GivenFace → Option MakeFault
make_fault points faces =
    option_or (crowd_fault points)
    (option_or (box_fault points) (lists_fault (map point_in points) (map face_in faces)))

-- what a refusal says of the first fault
abbrev pub IsRefusal : Option MakeFault → MakeRefusal → Type 0
IsRefusal fault NoMemory = ⊤
IsRefusal fault (Fault f) = fault ≡ Some f

-- it is a refusal for a fault
abbrev pub IsFaulty : {T : Type 0} → Result T MakeRefusal → Type 0
IsFaulty (Ok held) = ⊥
IsFaulty (Err NoMemory) = ⊥
IsFaulty (Err (Fault f)) = ⊤
