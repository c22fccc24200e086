use Rattle.track_held.proofs.EditRanges.{rows_in_range, rows_each}
use Rattle.track_held.proofs.given_edits.rows_ask_in_range.Goals as goal

pub returns : goal.returns
returns c = record { ranges = rows_in_range; each = rows_each }
