-- The components of a mesh, each with what there is to measure of it.
use Rattle.std.specs.Prelude.{ℕ, ℤ, pos, ◌+ℤ◌, ◌-ℤ◌, List, [], ◌∷◌, length, map, slice_get, slice_index}
use Rattle.std.specs.List.{filter, flat_map}
use Rattle.std.specs.Option.{option_map_or}
use Rattle.std.specs.FinMap as finite
use Rattle.mesh_base.specs.Mesh.{Mesh}
use Rattle.mesh_base.specs.Sides.{faces_at}
use Rattle.mesh_base.specs.Placements.{rest_positions}
use Rattle.mesh_base.specs.Changes.{corner_list}
use Rattle.edit_base.specs.Classes.{is_one_of, class_of, classes}
use Rattle.edit_base.specs.Edges.{corners_at}
use Rattle.mesh_measure.specs.Above.{edges_from}
use Rattle.mesh_measure.specs.Shape.{share_vertex}
use Rattle.mesh_measure.specs.Volume.{part_of}
use Rattle.mesh_measure.specs.declared.measured.Component.{Component}

-- the corners of some faces, face by face
abbrev pub corners_in : Mesh → List ℕ → List ℕ
corners_in m faces = flat_map (λ f. corner_list (corners_at m f)) faces

-- the vertices of some faces, rising
abbrev pub vertices_of : Mesh → List ℕ → List ℕ
vertices_of m faces = filter (λ v. is_one_of (corners_in m faces) v) (finite.keys m.points)

-- the edges that lead from some vertices to vertices above them
abbrev pub edges_above : Mesh → List ℕ → List ℕ
edges_above m vertices = flat_map (edges_from m) vertices

-- six times the volume of some faces
abbrev pub volume6_of : Mesh → List ℕ → ℤ
volume6_of m [] = pos 0
volume6_of m (f ∷ fs) = part_of (rest_positions m) (finite.get m.faces f) +ℤ volume6_of m fs

-- the vertices of some faces, minus the edges from them, plus the faces
abbrev pub euler_of : Mesh → List ℕ → ℤ
euler_of m faces =
    pos (length (vertices_of m faces)) -ℤ pos (length (edges_above m (vertices_of m faces)))
    +ℤ pos (length faces)

-- a component of these faces: its least vertex, how many faces it has, six times its volume, and its
-- Euler number
abbrev pub component_of : Mesh → List ℕ → Component
component_of m faces = record {
  vertex = slice_index (vertices_of m faces) 0;
  faces = length faces;
  volume6 = volume6_of m faces;
  euler = euler_of m faces;
}

-- the components, in order of their least faces: two faces that share a vertex are in one, and so on
abbrev pub each_component : Mesh → List Component
each_component m = map (component_of m) (classes (share_vertex m) (finite.keys m.faces))

-- the vertices of the component that has a face, rising
abbrev pub vertices_with : Mesh → ℕ → List ℕ
vertices_with m f = vertices_of m (class_of (share_vertex m) (finite.keys m.faces) f)

-- the vertices of the component of a vertex, rising; none, where no face is at it
abbrev pub component_vertices : Mesh → ℕ → List ℕ
component_vertices m v = option_map_or (vertices_with m) (slice_get (faces_at m v) 0) []
