use Rattle.std.proofs.Common.{◌≡◌, ◌++◌, map, drop}
use Rattle.track_held.specs.Numbered.{face_row_in}
use Rattle.track_held.proofs.numbered_tracker.faces_of.Given as goal

-- the faces so far and those to come are all
abbrev pub invariant-loop-row : goal.invariant-loop-row
invariant-loop-row l = l.faces ++ map face_row_in (drop l.row-index l.given) ≡ map face_row_in l.given
