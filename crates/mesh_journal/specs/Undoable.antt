-- What additions make of a mesh with what is buried of it.
use Rattle.grid_base.specs.declared.Point.{Point}
use Rattle.mesh_base.specs.declared.ids.Corners.{Corners}
use Rattle.mesh_base.specs.Changes.{with_vertex, with_face}
use Rattle.half_mesh.specs.States.{State, with_mesh}

-- a vertex more, with the next id; what is buried stays
abbrev pub make_vertex : State → Point → State
make_vertex s p = with_mesh s (with_vertex s.mesh p)

-- a face more, with the next id
abbrev pub make_face : State → Corners → State
make_face s c = with_mesh s (with_face s.mesh c)
