use Rattle.std.proofs.Common.{◌≡◌, ℕ, ◌+◌, ◌<◌, ◌≤◌, length, IsTrue}
use Rattle.cell_grid.specs.Filed.{has}
use Rattle.pass_run.specs.MidpointCells.{bucket_of, cell_at, is_wanted, KeepsPlaces}
use Rattle.pass_run.proofs.midpoint_cells.look_in.Given as goal

-- what is wanted of the bucket, and is not before the next, is found; and the next is of the bucket
abbrev pub invariant-loop-next : goal.invariant-loop-next
invariant-loop-next l =
    let bucket : ℕ → ℕ = λ j. bucket_of l.cells.buckets (cell_at l.cells.size l.turn.middles.now j) in
    record {
      end : l.next ≤ length l.turn.middles.now;
      chain : (j : ℕ) → l.next ≡ j + 1 → bucket j ≡ l.bucket;
      finds : (j : ℕ) → l.next ≤ j → j < length l.turn.middles.now → IsTrue (is_wanted l.turn j) → bucket j ≡ l.bucket → IsTrue (has j l.found.items);
      keeps : KeepsPlaces l.fn.found.items l.found.items;
    }

abbrev pub decreases-loop-next : goal.decreases-loop-next
decreases-loop-next l = l.next
