use Rattle.std.proofs.Common.{ℕ, ◌<◌, false, IsTrue, slice_index_or}
use Rattle.pass_run.proofs.vertex_rims.are_marked.Given as goal

-- those so far are marked
abbrev pub invariant-loop-mark : goal.invariant-loop-mark
invariant-loop-mark l = (k : ℕ) → k < l.mark-index → IsTrue (slice_index_or l.marks k false)
