use Rattle.std.proofs.Common.{◌≡◌, ℕ, false, length, IsTrue, slice_index_or}
use Rattle.pass_run.proofs.vertex_rims.mark_first.Given as goal

-- of those so far only the first is marked
abbrev pub invariant-loop-k : goal.invariant-loop-k
invariant-loop-k l = record {
  long : length l.marks.items ≡ l.k;
  first : (j : ℕ) → IsTrue (slice_index_or l.marks.items j false) → j ≡ 0;
}
