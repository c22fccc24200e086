-- The live vertices and faces of a mesh, as a caller gets them.
use Rattle.std.specs.Prelude.{ℕ, ◌==◌, ◌||◌, Bool, List, map, Option, Some, None}
use Rattle.std.specs.List.{filter}
use Rattle.std.specs.FinMap as finite
use Rattle.mesh_base.specs.declared.ids.Corners.{Corners}
use Rattle.mesh_base.specs.Mesh.{Mesh, is_solid}
use Rattle.mesh_base.specs.Placements.{point_of}
use Rattle.mesh_base.specs.Sides.{faces_at}
use Rattle.track_held.specs.declared.given.NamedPoint.{NamedPoint}
use Rattle.track_held.specs.declared.given.NamedFace.{NamedFace}

-- a vertex, and where it stands; the origin, where it is not live
abbrev pub named_point : Mesh → ℕ → NamedPoint
named_point m v =
    record { id = v; x = (point_of m v).x; y = (point_of m v).y; z = (point_of m v).z }

-- a face with these corners; none, where it is not live
abbrev pub with_corners : ℕ → Option Corners → NamedFace
with_corners f (Some corners) =
    record { id = f; a = corners.first; b = corners.second; c = corners.third }
with_corners f None = record { id = f; a = 0; b = 0; c = 0 }

-- a face, and its corners
abbrev pub named_face : Mesh → ℕ → NamedFace
named_face m f = with_corners f (finite.get m.faces f)

-- the live vertices, by rising id, and where they stand
abbrev pub named_points : Mesh → List NamedPoint
named_points m = map (named_point m) (finite.keys m.points)

-- the live faces, by rising id, and their corners
abbrev pub named_faces : Mesh → List NamedFace
named_faces m = map (named_face m) (finite.keys m.faces)

-- the live vertices that are solid, by rising id
abbrev pub solid_vertices : Mesh → List ℕ
solid_vertices m = filter (is_solid m) (finite.keys m.points)

-- the faces that have a vertex as a corner, by rising id, and their corners
abbrev pub star_of : Mesh → ℕ → List NamedFace
star_of m v = map (named_face m) (faces_at m v)

-- whether a face has a vertex as a corner
abbrev pub has_corner : ℕ → NamedFace → Bool
has_corner v row = (row.a == v) || (row.b == v) || (row.c == v)

-- the faces beside an edge, by rising id: those that have both ends as corners
abbrev pub beside_edge : Mesh → ℕ → ℕ → List NamedFace
beside_edge m u v = filter (has_corner v) (star_of m u)
