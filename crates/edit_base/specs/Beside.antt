-- The two faces beside an edge, as a sound and closed mesh has them.
use Rattle.std.specs.Prelude.{◌≡◌, ◌≢◌, ◌<◌, true}
use Rattle.mesh_base.specs.declared.ids.Corners.{Corners}
use Rattle.mesh_base.specs.Mesh.{Mesh, IsLiveVertex, HasCorners, AreDifferent}
use Rattle.mesh_base.specs.Sides.{follows}
use Rattle.edit_base.specs.Edges.{Edge, opposite_vertex}

-- One face runs each way, they are two, each with its opposite vertex; and the ends and the
-- opposite vertices are live, and apart but for the two opposite vertices.
pub record IsBeside (m : Mesh) (s : Edge) : Type 0 where
  pub left_corners : Corners
  pub right_corners : Corners
  pub left_face : HasCorners m s.left_face left_corners
  pub right_face : HasCorners m s.right_face right_corners
  pub left_runs : follows left_corners s.a s.b ≡ true
  pub right_runs : follows right_corners s.b s.a ≡ true
  pub third : opposite_vertex left_corners s.a s.b ≡ s.c
  pub fourth : opposite_vertex right_corners s.b s.a ≡ s.d
  pub left_different : AreDifferent left_corners
  pub right_different : AreDifferent right_corners
  pub two_faces : s.left_face ≢ s.right_face
  pub a_below : s.a < m.next_vertex
  pub b_below : s.b < m.next_vertex
  pub c_below : s.c < m.next_vertex
  pub d_below : s.d < m.next_vertex
  pub a_live : IsLiveVertex m s.a
  pub b_live : IsLiveVertex m s.b
  pub c_live : IsLiveVertex m s.c
  pub d_live : IsLiveVertex m s.d
  pub a_b : s.a ≢ s.b
  pub b_c : s.b ≢ s.c
  pub c_a : s.c ≢ s.a
  pub a_d : s.a ≢ s.d
  pub d_b : s.d ≢ s.b
