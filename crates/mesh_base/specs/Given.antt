-- The mesh that lists give.
use Rattle.std.specs.Prelude.{ℕ, ◌+◌, List, length, map}
use Rattle.std.specs.List.{enumerate_from}
use Rattle.std.specs.FinMap as finite
use Rattle.grid_base.specs.declared.Point.{Point}
use Rattle.mesh_base.specs.Mesh.{Mesh}
use Rattle.mesh_base.specs.declared.lists.MeshLists.{MeshLists}
use Rattle.mesh_base.specs.declared.limits.Scale.{Scale}
use Rattle.mesh_base.specs.declared.limits.Scale.TheVariants.{Standard}
use Rattle.mesh_base.specs.Limits.{standard_limits, limits_of}
use Rattle.mesh_base.specs.Changes.{corners_of}

-- faces, each by the numbers of its three corners
abbrev pub Faces : Type 0
Faces = List (List ℕ)

-- a mesh with nothing in it, of standard limits
abbrev pub empty_mesh : Mesh
empty_mesh = record {
  points = finite.empty;
  faces = finite.empty;
  solid = finite.empty;
  next_vertex = 1;
  next_face = 1;
  limits = standard_limits;
}

-- the points and the faces, numbered from 1, with the limits of a scale
abbrev pub mesh_under : Scale → List Point → Faces → Mesh
mesh_under scale points faces = record {
  points = finite.from_entries (enumerate_from 1 points);
  faces = finite.from_entries (enumerate_from 1 (map corners_of faces));
  solid = finite.empty;
  next_vertex = length points + 1;
  next_face = length faces + 1;
  limits = limits_of scale;
}

-- the same, with standard limits
abbrev pub mesh_of : List Point → Faces → Mesh
mesh_of points faces = mesh_under Standard points faces

-- the mesh that lists give, with the limits of a scale
abbrev pub listed_mesh : Scale → MeshLists → Mesh
listed_mesh scale lists = mesh_under scale lists.points lists.faces
