use Rattle.std.proofs.Common.{◌≡◌, ℕ, length, Some, slice_get, slice_index_or}
use Rattle.edit_base.specs.Edges.{corners_at}
use Rattle.pass_run.specs.VertexRims.{IsRim}
use Rattle.pass_run.proofs.vertex_rims.put_rims.Given as goal

-- the rims of the faces so far
abbrev pub invariant-loop-f : goal.invariant-loop-f
invariant-loop-f g l = record {
  long : length l.rims.items ≡ l.f-index;
  rim : (k : ℕ) (r : ℕ × ℕ) → slice_get l.rims.items k ≡ Some r → IsRim (corners_at (g.S.Surface.mesh l.mesh) (slice_index_or l.faces k 0)) l.v r;
}
