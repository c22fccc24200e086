use Rattle.std.proofs.Common.{◌≡◌, take, length}
use Rattle.mesh_measure.specs.Components.{edges_above}
use Rattle.mesh_measure.proofs.measured.edges_above.Given as goal

-- those of the vertices so far are counted
abbrev pub invariant-loop-v : goal.invariant-loop-v
invariant-loop-v g l = l.count ≡ length (edges_above (g.S.Surface.mesh l.mesh) (take l.v-index l.vertices))
