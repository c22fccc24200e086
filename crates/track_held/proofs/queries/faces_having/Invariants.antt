use Rattle.std.proofs.Common.{◌≡◌, ◌++◌, drop}
use Rattle.std.specs.List.{filter}
use Rattle.track_held.specs.Reading.{has_corner}
use Rattle.track_held.proofs.queries.faces_having.Given as goal

-- the rows so far and those to come are all
abbrev pub invariant-loop-row : goal.invariant-loop-row
invariant-loop-row l = l.found ++ filter (has_corner l.v) (drop l.row-index l.rows) ≡ filter (has_corner l.v) l.rows
