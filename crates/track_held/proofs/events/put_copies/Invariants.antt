use Rattle.std.proofs.Common.{◌≡◌, ◌++◌, map, drop}
use Rattle.track_held.specs.Events.{copy_event}
use Rattle.track_held.proofs.events.put_copies.Given as goal

-- the events so far and those to come are all
abbrev pub invariant-loop-copy : goal.invariant-loop-copy
invariant-loop-copy l = l.events ++ map (copy_event l.v) (drop l.copy-index l.copies) ≡ l.fn.events ++ map (copy_event l.v) l.copies
