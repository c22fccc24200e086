-- The state of a tracker with its vertices and faces numbered anew.
use Rattle.std.specs.Prelude.{ℕ, List, [], map}
use Rattle.std.specs.FinMap as finite
use Rattle.mesh_base.specs.declared.ShiftOf.{ShiftOf}
use Rattle.mesh_base.specs.declared.limits.Scale.TheVariants.{Large}
use Rattle.mesh_base.specs.Mesh.{Mesh}
use Rattle.mesh_base.specs.Shifts.{Shifts}
use Rattle.mesh_rows.specs.Making.{with_solids}
use Rattle.obj_text.specs.Written.{rank_among, rank}
use Rattle.obj_text.specs.Laws.{renumbered}
use Rattle.track_engine.specs.State.{State}
use Rattle.track_held.specs.Reading.{solid_vertices}

-- the same shift, of the vertex that has the rank among the ids as its id
abbrev pub ranked_shift : List ℕ → ShiftOf → ShiftOf
ranked_shift ids s = record { v = rank_among ids s.v; by = s.by }

-- the shifts of the live vertices of a mesh, by their ranks
abbrev pub dense_shifts : Mesh → Shifts → Shifts
dense_shifts m asked = map (ranked_shift (finite.keys m.points)) asked

-- the mesh that is read from its text, with the limits of large meshes, and those vertices solid
-- that were
abbrev pub dense_mesh : Mesh → Mesh
dense_mesh m = with_solids (renumbered Large m) (map (rank m) (solid_vertices m))

-- that mesh with the same asked of its vertices, the same settings and counts, and no group open
abbrev pub dense_state : State → State
dense_state s = record s {
  mesh = dense_mesh s.mesh;
  asked = dense_shifts s.mesh s.asked;
  groups = [];
}
