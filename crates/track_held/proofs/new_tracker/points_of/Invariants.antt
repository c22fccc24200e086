use Rattle.std.proofs.Common.{◌≡◌, ◌++◌, ◌+◌, map, drop}
use Rattle.std.specs.List.{position_from}
use Rattle.track_held.specs.Given.{point_in, is_outside}
use Rattle.track_held.proofs.new_tracker.points_of.Given as goal

-- the points so far and those to come are all, and the first outside is the first of those to come
abbrev pub invariant-loop-p : goal.invariant-loop-p
invariant-loop-p l = record {
  points : l.points ++ map point_in (drop l.p-index l.given) ≡ map point_in l.given;
  numbered : l.number ≡ l.p-index + 1;
  to_come : position_from is_outside 1 l.given ≡ position_from is_outside l.number (drop l.p-index l.given);
}
