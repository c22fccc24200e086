use Rattle.std.proofs.Common.{◌≡◌, ◌++◌, drop}
use Rattle.std.specs.List.{flat_map}
use Rattle.track_held.specs.Events.{line_events}
use Rattle.track_held.proofs.events.events_of.Given as goal

-- the events so far and those to come are all
abbrev pub invariant-loop-line : goal.invariant-loop-line
invariant-loop-line l = l.events ++ flat_map line_events (drop l.line-index l.lines) ≡ flat_map line_events l.lines
