use Rattle.std.proofs.Common.{◌≡◌, ◌+◌, drop}
use Rattle.std.specs.List.{position_from}
use Rattle.track_held.specs.Given.{is_outside}
use Rattle.track_held.proofs.new_tracker.crowded_fault.Given as goal

-- the first outside is the first of those to come
abbrev pub invariant-loop-p : goal.invariant-loop-p
invariant-loop-p l = record {
  numbered : l.number ≡ l.p-index + 1;
  to_come : position_from is_outside 1 l.given ≡ position_from is_outside l.number (drop l.p-index l.given);
}
