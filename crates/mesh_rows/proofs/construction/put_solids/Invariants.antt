use Rattle.std.proofs.Common.{◌≡◌, drop}
use Rattle.half_mesh.specs.Half.{mesh_in}
use Rattle.mesh_rows.specs.Making.{with_solids}
use Rattle.mesh_rows.specs.Faults.{solids_fault}
use Rattle.mesh_rows.proofs.construction.put_solids.Given as goal

-- the first fault of all is that of those to come, in the mesh so far, of which they make what all make
abbrev pub invariant-loop-v : goal.invariant-loop-v
invariant-loop-v l = record {
  to_come : solids_fault 0 (mesh_in l.fn.mesh) l.solids ≡ solids_fault l.last (mesh_in l.mesh) (drop l.v-index l.solids);
  made : with_solids (mesh_in l.mesh) (drop l.v-index l.solids) ≡ with_solids (mesh_in l.fn.mesh) l.solids;
  vertex : (mesh_in l.mesh).next_vertex ≡ (mesh_in l.fn.mesh).next_vertex;
  face : (mesh_in l.mesh).next_face ≡ (mesh_in l.fn.mesh).next_face;
}
