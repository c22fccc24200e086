use Rattle.std.proofs.Common.{◌≡◌, drop}
use Rattle.mesh_rows.specs.Making.{with_solids}
use Rattle.track_held.proofs.renumbering.put_solids.Given as goal

-- the same vertices live, and those to come make what all make
abbrev pub invariant-loop-v : goal.invariant-loop-v
invariant-loop-v g l = record {
  live : (g.S.Surface.mesh l.mesh).points ≡ (g.S.Surface.mesh l.initial.mesh).points;
  solid : with_solids (g.S.Surface.mesh l.mesh) (drop l.v-index l.vertices) ≡ with_solids (g.S.Surface.mesh l.initial.mesh) l.vertices;
}
