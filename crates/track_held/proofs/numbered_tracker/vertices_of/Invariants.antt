use Rattle.std.proofs.Common.{◌≡◌, ◌++◌, ◌+◌, map, drop}
use Rattle.std.specs.List.{position_from}
use Rattle.track_held.specs.Given.{is_outside}
use Rattle.track_held.specs.Numbered.{numbered_point, vertex_in}
use Rattle.track_held.proofs.numbered_tracker.vertices_of.Given as goal

-- the vertices so far and those to come are all, and the first outside is the first of those to come
abbrev pub invariant-loop-row : goal.invariant-loop-row
invariant-loop-row l = record {
  vertices : l.vertices ++ map vertex_in (drop l.row-index l.given) ≡ map vertex_in l.given;
  numbered : l.number ≡ l.row-index + 1;
  to_come : position_from (λ row. is_outside (numbered_point row)) 1 l.given ≡ position_from (λ row. is_outside (numbered_point row)) l.number (drop l.row-index l.given);
}
