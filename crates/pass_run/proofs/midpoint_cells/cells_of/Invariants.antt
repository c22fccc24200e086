use Rattle.std.proofs.Common.{◌≡◌, length}
use Rattle.pass_run.specs.MidpointCells.{bucket_of, cell_at, AreChains}
use Rattle.pass_run.proofs.midpoint_cells.cells_of.Given as goal

-- the midpoints so far are in chains
abbrev pub invariant-loop-k : goal.invariant-loop-k
invariant-loop-k l = record {
  long : length l.last.items ≡ l.buckets;
  before_long : length l.before.items ≡ l.k;
  chains : AreChains (λ j. bucket_of l.buckets (cell_at l.size l.middles j)) l.buckets l.k l.last.items l.before.items;
}
