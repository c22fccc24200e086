use Rattle.std.proofs.Common.{◌≡◌, [], drop}
use Rattle.track_held.specs.Editing.{edits_add}
use Rattle.track_held.proofs.given_edits.edits_asked.Given as goal

-- those so far and those of the rows that are left are all
abbrev pub invariant-loop-row : goal.invariant-loop-row
invariant-loop-row l = edits_add l.asked (drop l.row-index l.rows) ≡ edits_add [] l.rows
