use Rattle.std.proofs.Common.{◌≡◌, ◌≤◌, ◌+◌, drop}
use Rattle.half_mesh.specs.Half.{mesh_in}
use Rattle.mesh_rows.specs.Making.{with_vertex_rows}
use Rattle.mesh_rows.specs.Faults.{vertices_fault}
use Rattle.mesh_rows.proofs.construction.put_vertices.Given as goal

-- the first fault of all is that of those to come, in the mesh so far, of which they make what all make
abbrev pub invariant-loop-row : goal.invariant-loop-row
invariant-loop-row l = record {
  numbered : l.place ≡ l.row-index + 1;
  to_come : vertices_fault l.next 1 (mesh_in l.fn.mesh) l.rows ≡ vertices_fault l.next l.place (mesh_in l.mesh) (drop l.row-index l.rows);
  made : with_vertex_rows (mesh_in l.mesh) (drop l.row-index l.rows) ≡ with_vertex_rows (mesh_in l.fn.mesh) l.rows;
  below : (mesh_in l.mesh).next_vertex ≤ l.next;
  face : (mesh_in l.mesh).next_face ≡ (mesh_in l.fn.mesh).next_face;
}
